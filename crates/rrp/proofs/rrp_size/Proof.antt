use borrow.Author.Rules.{rules}
use Rattle.rrp.proofs.rrp_size.Statement.{statement}
use Rattle.rrp.proofs.rrp_size.Tie as tie

pub rrp_size_spec : {M : Type 1} → statement M
rrp_size_spec = tie.close (tie.spec (λ c κs. search rules) (λ c. c.size.ensures))
