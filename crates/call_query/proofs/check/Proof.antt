use borrow.Author.Rules.{rules}
use Rattle.call_query.proofs.check.Statement.{statement}
use Rattle.call_query.proofs.check.Tie as tie

pub check_spec : {M : Type 1} → statement M
check_spec = tie.close (tie.spec (λ c κs. search rules) (λ c. c.refusal.ensures))
