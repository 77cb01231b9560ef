-- `graph_cycle::first_grouped`: the first router that reaches itself is the first in a group of two or more.
use Rattle.std.proofs.Common.{◌≡◌, ◌∙◌, arith, rules, tests}
use Rattle.std.proofs.lemmas.Iterator.{first_from_Range}
use Rattle.base.specs.Bits.{bits}
use Rattle.graph_groups.specs.Groups.{grouped}
use Rattle.graph_cycle.specs.Cycle.{start}
use Rattle.graph_cycle.proofs.InGroup.{loop-grouped, no-loop-alone}
use Rattle.graph_cycle.proofs.Placing.{seek-by}
use Rattle.graph_cycle.proofs.first_grouped.Goals as goal

pub returns : goal.returns
unfolding start
returns c =
    let C = bits c.args.closed.now in
    c.unwrap_or.ensures
    ∙ seek-by (grouped C c.args.n) c.args.n (λ i. C i i ≡ 1) (λ i. C i i ≡ 1 → ⊥) c.find.result
    (first_from_Range _ _ _ _ (λ i. C i i ≡ 1) (λ i. C i i ≡ 1 → ⊥) c.find.ensures.ran
    (λ x q k. grind (arith, tests))
    (λ x q k. (search rules, grind (arith, tests))))
    (λ i l e. loop-grouped c.args.closed.now _ c.requires.1 i l e)
    (λ i l e. no-loop-alone c.args.closed.now _ c.requires.1 i l e)
