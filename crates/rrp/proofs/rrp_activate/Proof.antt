use borrow.Author.Rules.{rules}
use Rattle.rrp.proofs.rrp_activate.Statement.{statement}
use Rattle.rrp.proofs.rrp_activate.Tie as tie

pub rrp_activate_spec : {M : Type 1} → statement M
rrp_activate_spec = tie.close (tie.spec (λ c κs. search rules) (λ c. search rules) (λ c. c.before.before.activate.ensures))
