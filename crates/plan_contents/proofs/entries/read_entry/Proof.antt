use borrow.Author.Rules.{rules}
use Rattle.plan_contents.proofs.entries.read_entry.Statement.{statement}
use Rattle.plan_contents.proofs.entries.read_entry.Tie as tie

returns : tie.Need-returns
returns c = cc

pub read_entry_spec : {M : Type 1} → statement M
read_entry_spec =
    tie.close
    (tie.spec
    (λ c. search rules)
    (λ c. search rules)
    (λ c κs. search rules)
    (λ c. search rules)
    (λ c. search rules)
    (λ c κs. search rules)
    (λ c. search rules)
    returns)
