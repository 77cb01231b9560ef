-- `checker::verdict::answer`: an arm knows the variant that it matched.
use mathlib.Core.Path.{sym, ap}
use borrow.Author.Rules.{rules}
use Rattle.call_verdict.specs.Verdict.{answer_of}
use Rattle.call_verdict.proofs.verdict.answer.Statement.{statement}
use Rattle.call_verdict.proofs.verdict.answer.Tie as tie

pub answer_spec : {M : Type 1} → statement M
answer_spec =
    tie.close
    (tie.spec
    (λ c. search rules)
    (λ c. search rules)
    (λ c. sym (ap answer_of c.in-Stable.is))
    (λ c. sym (ap answer_of c.in-Suspect.is)))
