use mathlib.Core.Path.{refl, sym}
use borrow.Author.Rules.{rules}
use Rattle.plan_rules.proofs.Refused.{when-refused, when-given}
use Rattle.c_convert.proofs.put_length.Statement.{statement}
use Rattle.c_convert.proofs.put_length.Tie as tie

pub put_length_spec : {M : Type 1} → statement M
put_length_spec =
    tie.close
    (tie.spec
    (λ c. (refl, sym (when-refused _ _ _ c.if-answer-ne0.true)))
    (λ c. search rules))
