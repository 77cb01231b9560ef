use borrow.Author.Rules.{rules}
use Rattle.rrp.proofs.rrp_narrow.Statement.{statement}
use Rattle.rrp.proofs.rrp_narrow.Tie as tie

pub rrp_narrow_spec : {M : Type 1} → statement M
rrp_narrow_spec = tie.close (tie.spec (λ c κs. search rules) (λ c. search rules) (λ c. c.before.before.narrow.ensures))
