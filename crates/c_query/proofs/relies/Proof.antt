use mathlib.Core.Path.{ap}
use mathlib.Core.Bool.{true, false}
use borrow.Author.Rules.{rules}
use Rattle.call_query.specs.Relies.{relies_number, relies_flag}
use Rattle.c_query.proofs.Given.{relies-refused, relies-given}
use Rattle.c_query.proofs.relies.Statement.{statement}
use Rattle.c_query.proofs.relies.Tie as tie

-- an arm knows the answer that it matched
pub relies_spec : {M : Type 1} → statement M
relies_spec =
    tie.close
    (tie.spec
    (λ c κs. search rules)
    (λ c. search rules)
    (λ c. relies-refused _ _ _ _ _ c.relies-answer.ensures _ _ c.in-Refused.is)
    (λ c. search rules)
    (λ c.
    let is = c.in-Yes.is in
    relies-given _ _ _ _ _ c.relies-answer.ensures _ true (ap relies_number is) (ap relies_flag is))
    (λ c. search rules)
    (λ c.
    let is = c.in-No.is in
    relies-given _ _ _ _ _ c.relies-answer.ensures _ false (ap relies_number is) (ap relies_flag is)))
