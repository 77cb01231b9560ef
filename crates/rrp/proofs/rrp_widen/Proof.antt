use borrow.Author.Rules.{rules}
use Rattle.rrp.proofs.rrp_widen.Statement.{statement}
use Rattle.rrp.proofs.rrp_widen.Tie as tie

pub rrp_widen_spec : {M : Type 1} → statement M
rrp_widen_spec = tie.close (tie.spec (λ c κs. search rules) (λ c. search rules) (λ c. c.before.before.widen.ensures))
