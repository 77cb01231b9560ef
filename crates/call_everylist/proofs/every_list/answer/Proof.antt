-- An arm knows the variant that it matched.
use mathlib.Core.Path.{sym, ap}
use borrow.Author.Rules.{rules}
use Rattle.call_everylist.specs.EveryList.{as_answer}
use Rattle.call_everylist.proofs.every_list.answer.Statement.{statement}
use Rattle.call_everylist.proofs.every_list.answer.Tie as tie

pub answer_spec : {M : Type 1} → statement M
answer_spec =
    tie.close
    (tie.spec
    (λ c. search rules)
    (λ c. search rules)
    (λ c. search rules)
    (λ c. sym (ap as_answer c.in-Yes.is))
    (λ c. sym (ap as_answer c.in-No.is))
    (λ c. sym (ap as_answer c.in-Undecided.is)))
