use borrow.Author.Rules.{rules}
use Rattle.c_rules.proofs.Written.{as_byte}
use Rattle.c_tables.proofs.Given.{run-refused, run-given}
use Rattle.c_tables.proofs.run.Statement.{statement}
use Rattle.c_tables.proofs.run.Tie as tie

returns-2 : tie.Need-returns
returns-2 c =
    let run = c.run-done in
    run-given _ _ _ _ _ run.result run.ensures _ _ _ _ (as_byte run.result.exhausted) c.if-done-ne0.false

pub run_spec : {M : Type 1} → statement M
run_spec =
    tie.close
    (tie.spec
    (λ c κs. search rules)
    (λ c. search rules)
    (λ c. run-refused _ _ _ _ _ _ c.run-done.ensures _ _ _ c.if-done-ne0.true)
    (λ c. search rules)
    (λ c. search rules)
    returns-2)
