use borrow.Author.Rules.{rules}
use Rattle.rrp.proofs.rrp_relies.Statement.{statement}
use Rattle.rrp.proofs.rrp_relies.Tie as tie

pub rrp_relies_spec : {M : Type 1} → statement M
rrp_relies_spec = tie.close (tie.spec (λ c κs. search rules) (λ c. c.relies.ensures))
