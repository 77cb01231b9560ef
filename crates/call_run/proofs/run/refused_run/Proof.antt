use borrow.Author.Rules.{rules}
use Rattle.call_run.proofs.run.refused_run.Statement.{statement}
use Rattle.call_run.proofs.run.refused_run.Tie as tie

pub refused_run_spec : {M : Type 1} → statement M
refused_run_spec = tie.close (tie.spec (λ c. search rules))
