use borrow.Author.Rules.{rules}
use Rattle.rrp.proofs.rrp_verdict.Statement.{statement}
use Rattle.rrp.proofs.rrp_verdict.Tie as tie

pub rrp_verdict_spec : {M : Type 1} → statement M
rrp_verdict_spec = tie.close (tie.spec (λ c κs. search rules) (λ c. search rules) (λ c. search rules) (λ c. search rules) (λ c. search rules) (λ c. c.before.before.before.before.before.before.before.before.verdict.ensures))
