use Rattle.net_prefer.proofs.step_decides.Statement.{statement}
use Rattle.net_prefer.proofs.step_decides.Tie as tie

pub step_decides_spec : {M : Type 1} → statement M
step_decides_spec = tie.close (tie.spec (λ c. cc c.if-step.true) (λ c. cc c.if-step.false))
