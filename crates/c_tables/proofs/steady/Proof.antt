use borrow.Author.Rules.{rules}
use Rattle.c_tables.proofs.Given.{steady-refused, steady-given}
use Rattle.c_tables.proofs.steady.Statement.{statement}
use Rattle.c_tables.proofs.steady.Tie as tie

returns : tie.Need-returns-in-Refused
returns c =
    let d = c in
    steady-refused _ _ _ _ d.steady-answer.ensures _ _ c.in-Refused.is

returns-2 : tie.Need-returns-in-Listed
returns-2 c =
    let d = c in
    steady-given _ _ _ _ d.steady-answer.ensures _ _ c.in-Listed.is

pub steady_spec : {M : Type 1} → statement M
steady_spec =
    tie.close
    (tie.spec
    (λ c κs. search rules)
    (λ c. search rules)
    (λ c. search rules)
    returns
    (λ c. search rules)
    (λ c. search rules)
    returns-2)
