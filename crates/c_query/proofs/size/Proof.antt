use borrow.Author.Rules.{rules}
use Rattle.c_query.proofs.Given.{size-refused, size-given}
use Rattle.c_query.proofs.size.Statement.{statement}
use Rattle.c_query.proofs.size.Tie as tie

pub size_spec : {M : Type 1} → statement M
size_spec =
    tie.close
    (tie.spec
    (λ c κs. search rules)
    (λ c. size-refused _ _ c.size-answer.ensures _ _ c.if-answer-ne0.true)
    (λ c. size-given _ _ c.size-answer.ensures _ _ c.if-answer-ne0.false))
