-- `graph_groups::groups::is_stable`: every router is the label of its group.
use Rattle.std.proofs.Common.{rules, arith, tests, eqb, refl, ◌∙◌}
use Rattle.std.proofs.lemmas.Iterator.{YieldsList-from_range}
use Rattle.std.proofs.lemmas.Iterator.Search.{all_from_yields_List}
use Rattle.base.specs.Bits.{bits}
use Rattle.graph_groups.specs.Groups.{label, stable}
use Rattle.base.proofs.Library.{all-range}
use Rattle.graph_groups.proofs.groups.is_stable.Goals as goal

pub returns : goal.returns
unfolding stable
returns c =
    all_from_yields_List (λ i. eqb (label (bits c.args.closed.now) i) i) _ _ c.all.result c.all.ensures.ran
    (YieldsList-from_range 0 c.args.n c.args.n refl (omega arith)) (λ x b q k. search (rules, tests))
    ∙ all-range (λ i. eqb (label (bits c.args.closed.now) i) i) c.args.n
