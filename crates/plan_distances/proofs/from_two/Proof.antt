-- No way is told from a distance by its number.
use native.Mathlib.Omega.{arith}
use borrow.Author.Tests.{eq-eqb, ne_eqb, eqb-false, not-true}
use Rattle.plan_distances.proofs.from_two.Statement.{statement}
use Rattle.plan_distances.proofs.from_two.Tie as tie

pub from_two_spec : {M : Type 1} → statement M
from_two_spec =
    tie.close
    (tie.spec
    (λ c. (
      rw (eq-eqb _ 65535 c.if-number-eq-NO_WAY_IN_TWO.true),
      record { most = omega arith; way = λ h. absurd (eqb-false 4294967295 4294967295 (not-true _ h) (omega arith)) },
    ))
    (λ c. (
      rw (ne_eqb _ 65535 c.if-number-eq-NO_WAY_IN_TWO.false),
      record { most = omega (arith, c.requires); way = λ h. omega (arith, c.requires) },
    )))
