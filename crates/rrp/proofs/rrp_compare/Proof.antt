use borrow.Author.Rules.{rules}
use Rattle.rrp.proofs.rrp_compare.Statement.{statement}
use Rattle.rrp.proofs.rrp_compare.Tie as tie

pub rrp_compare_spec : {M : Type 1} → statement M
rrp_compare_spec = tie.close (tie.spec (λ c κs. search rules) (λ c. c.compare.ensures))
