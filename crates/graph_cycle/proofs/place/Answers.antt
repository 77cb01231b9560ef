-- `graph_cycle::place`: by what `position` says of the first k places.
use Rattle.std.proofs.Common.{◌≡◌, arith, rules, tests}
use Rattle.std.proofs.lemmas.Iterator.{IsFirst-from_position, YieldsList-from_slice}
use Rattle.graph_cycle.proofs.Placing.{place-by}
use Rattle.graph_cycle.proofs.place.Goals as goal

pub returns : goal.returns
returns c =
    place-by c.args.path.now c.args.k c.args.w (omega arith) c.position.result
    (IsFirst-from_position _ _ _ (λ x. x ≡ c.args.w) (λ x. x ≡ c.args.w → ⊥) c.position.ensures.ran
    (YieldsList-from_slice _ (search rules))
    (λ x q k. grind (arith, tests))
    (λ x q k. (search rules, grind (arith, tests))))
