use borrow.Author.Rules.{rules}
use Rattle.call_query.proofs.lists.egress_list_refusal.Statement.{statement}
use Rattle.call_query.proofs.lists.egress_list_refusal.Tie as tie

pub egress_list_refusal_spec : {M : Type 1} → statement M
egress_list_refusal_spec =
    tie.close
    (tie.spec (λ c κs. search rules) (λ c κs. search rules) (λ c. c.list_refusal.ensures _ c.check.ensures))
