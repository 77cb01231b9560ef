use borrow.Author.Rules.{rules}
use mir.Syntax.{w64}
use mir.ValLaws.{to_z-of_z}
use Rattle.c_rules.proofs.Written.{as_byte}
use Rattle.c_explain.proofs.Given.{explain-refused, explain-given}
use Rattle.c_explain.proofs.explain.Statement.{statement}
use Rattle.c_explain.proofs.explain.Tie as tie

returns-2 : tie.Need-returns
returns-2 c =
    let values = c.values_of-values in
    let d = c in
    let number = d.number_of-refused in
    explain-given _ _ _ _ _ d.explain-answer.ensures _ number.ensures _ _ _ _ _ _ d.if-refused-ne0.false values.result
    values.ensures _ _ _ (as_byte values.result.relies) (as_byte values.result.compared)
    (to_z-of_z w64 _ (search (rules, c.struct_told-1.given.1.1.1.1.1.0)))

pub explain_spec : {M : Type 1} → statement M
explain_spec =
    tie.close
    (tie.spec
    (λ c κs. search rules)
    (λ c κs. search rules)
    (λ c. explain-refused _ _ _ _ _ c.explain-answer.ensures _ c.number_of-refused.ensures _ _ _ _ _ _ c.if-refused-ne0.true)
    (λ c κs. search rules)
    (λ c. search rules)
    (λ c. search rules)
    returns-2)
