use mathlib.Core.Path.{ap}
use mathlib.Core.Bool.{true, false}
use borrow.Author.Rules.{rules}
use Rattle.call_verdict.specs.Verdict.{verdict_number, verdict_is_stable, verdict_size}
use Rattle.c_tables.proofs.Given.{verdict-refused, verdict-given}
use Rattle.c_tables.proofs.verdict.Statement.{statement}
use Rattle.c_tables.proofs.verdict.Tie as tie

returns : tie.Need-returns-in-Refused
returns c =
    let d = c in
    verdict-refused _ _ _ _ _ _ _ d.verdict-answer.ensures _ _ _ c.in-Refused.is

returns-2 : tie.Need-returns-in-Stable
returns-2 c =
    let d = c in
    let is = c.in-Stable.is in
    verdict-given _ _ _ _ _ _ _ d.verdict-answer.ensures _ _ true _ (ap verdict_number is) (ap verdict_is_stable is) (ap verdict_size is)

returns-3 : tie.Need-returns-in-Suspect
returns-3 c =
    let d = c in
    let is = c.in-Suspect.is in
    verdict-given _ _ _ _ _ _ _ d.verdict-answer.ensures _ _ false _ (ap verdict_number is) (ap verdict_is_stable is) (ap verdict_size is)

pub verdict_spec : {M : Type 1} → statement M
verdict_spec =
    tie.close
    (tie.spec
    (λ c κs. search rules)
    (λ c. search rules)
    (λ c. search rules)
    (λ c. search rules)
    (λ c. search rules)
    (λ c. search rules)
    returns
    (λ c. search rules)
    (λ c. search rules)
    (λ c. search rules)
    (λ c. search rules)
    (λ c. search rules)
    returns-2
    (λ c. search rules)
    (λ c. search rules)
    (λ c. search rules)
    (λ c. search rules)
    (λ c. search rules)
    returns-3)
