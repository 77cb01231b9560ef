use borrow.Author.Rules.{rules}
use Rattle.c_query.proofs.Given.{hop-set-refused, hop-set-given}
use Rattle.c_query.proofs.hop_set.Statement.{statement}
use Rattle.c_query.proofs.hop_set.Tie as tie

-- an arm knows the answer that it matched
pub hop_set_spec : {M : Type 1} → statement M
hop_set_spec =
    tie.close
    (tie.spec
    (λ c κs. search rules)
    (λ c. search rules)
    (λ c. hop-set-refused _ _ _ c.hop_set-answer.ensures _ _ c.in-Refused.is)
    (λ c. search rules)
    (λ c. hop-set-given _ _ _ c.hop_set-answer.ensures _ _ c.in-Named.is))
