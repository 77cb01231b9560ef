-- `plan_distances::distances_ok`: every router below n is asked.
use Rattle.std.proofs.Common.{rules, ◌∙◌, refl}
use Rattle.std.proofs.lemmas.Iterator.{YieldsList-from_range}
use Rattle.std.proofs.lemmas.Iterator.Search.{all_from_yields_List}
use borrow.Author.Tests.{tests}
use Rattle.base.proofs.Library.{all-range}
use Rattle.plan_rules.specs.Distances.{diagonal_ok, distances_ok}
use Rattle.plan_distances.proofs.distances_ok.Goals as goal

pub returns : goal.returns
unfolding distances_ok
returns c =
    all_from_yields_List (diagonal_ok c.args.width c.args.s.now c.args.n) _ _ _ c.all.ensures.ran (YieldsList-from_range 0 c.args.n c.args.n refl (search rules))
    (λ x b q k. search (rules, tests))
    ∙ all-range _ _
