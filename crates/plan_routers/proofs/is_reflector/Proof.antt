use borrow.Author.Rules.{rules}
use Rattle.plan_routers.proofs.is_reflector.Statement.{statement}
use Rattle.plan_routers.proofs.is_reflector.Tie as tie

pub is_reflector_spec : {M : Type 1} → statement M
is_reflector_spec = tie.close (tie.spec (λ c. search rules) (λ c. search rules) (λ c. search rules))
