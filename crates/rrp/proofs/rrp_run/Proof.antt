use borrow.Author.Rules.{rules}
use Rattle.rrp.proofs.rrp_run.Statement.{statement}
use Rattle.rrp.proofs.rrp_run.Tie as tie

pub rrp_run_spec : {M : Type 1} → statement M
rrp_run_spec = tie.close (tie.spec (λ c κs. search rules) (λ c. search rules) (λ c. c.before.before.run.ensures))
