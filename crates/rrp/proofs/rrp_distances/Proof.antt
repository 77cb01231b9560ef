use borrow.Author.Rules.{rules}
use Rattle.rrp.proofs.rrp_distances.Statement.{statement}
use Rattle.rrp.proofs.rrp_distances.Tie as tie

pub rrp_distances_spec : {M : Type 1} → statement M
rrp_distances_spec = tie.close (tie.spec (λ c κs. search rules) (λ c. search rules) (λ c. c.before.before.distances.ensures))
