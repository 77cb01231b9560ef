use borrow.Author.Rules.{rules}
use Rattle.rrp.proofs.rrp_check.Statement.{statement}
use Rattle.rrp.proofs.rrp_check.Tie as tie

pub rrp_check_spec : {M : Type 1} → statement M
rrp_check_spec = tie.close (tie.spec (λ c κs. search rules) (λ c. c.check.ensures))
