use borrow.Author.Rules.{rules}
use Rattle.rrp.proofs.rrp_list.Statement.{statement}
use Rattle.rrp.proofs.rrp_list.Tie as tie

pub rrp_list_spec : {M : Type 1} → statement M
rrp_list_spec = tie.close (tie.spec (λ c κs. search rules) (λ c. c.list.ensures))
