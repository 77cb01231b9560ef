use borrow.Author.Rules.{rules}
use Rattle.rrp.proofs.rrp_explain.Statement.{statement}
use Rattle.rrp.proofs.rrp_explain.Tie as tie

pub rrp_explain_spec : {M : Type 1} → statement M
rrp_explain_spec = tie.close (tie.spec (λ c κs. search rules) (λ c. c.explain.ensures))
