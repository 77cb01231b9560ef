use native.Mathlib.Omega.{arith}
use Rattle.plan_rules.proofs.Widths.{not-two}
use Rattle.plan_distances.proofs.highest.Statement.{statement}
use Rattle.plan_distances.proofs.highest.Tie as tie

pub highest_spec : {M : Type 1} → statement M
highest_spec =
    tie.close
    (tie.spec
    (λ c. (rw c.if-width-eq2.true, omega arith))
    (λ c. (rw (not-two _ c.requires c.if-width-eq2.false), omega arith)))
