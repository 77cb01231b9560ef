-- What the buffer and the variable hold, by what the call answers and what is put into the variable.
use Prim.Native.Nat.{ℕ, zero, suc}
use mathlib.Core.Path.{◌≡◌, refl, ◌∙◌, ap₂}
use mathlib.Core.List.{List}
use lib.ListN.{length}
use Rattle.base.specs.Lent.{Lent}
use Rattle.plan_rules.specs.Converted.{converted}
use Rattle.plan_rules.specs.Refused.{unless_refused, field}
use Rattle.call_convert.specs.declared.convert.ConvertAnswer.{ConvertAnswer}
use Rattle.call_convert.specs.Convert.{convert_length, Converts}
use Rattle.c_rules.specs.Exports.{ConvertWritten}

-- a field of an answer, put into a variable
field_put : (number before value : ℕ) → unless_refused number before (field number value) ≡ unless_refused number before value
field_put zero before value = refl
field_put (suc number) before value = refl

pub put : {to number r : ℕ} {plan : List ℕ} {out : Lent (List ℕ)} {size : Lent ℕ} {answer : ConvertAnswer}
    → Converts to plan number out.before answer out.after
    → (r ≡ answer.refused) × (size.after ≡ unless_refused answer.refused size.before answer.length)
    → ConvertWritten to plan number r out size
unfolding convert_length
put {to} {number} {plan = plan} {size = size} call q = record {
  numbered = q.0 ∙ call.numbered;
  bytes = call.bytes;
  sized =
      q.1
      ∙ ap₂ (λ n l. unless_refused n size.before l) call.numbered call.long
      ∙ field_put number size.before (length (converted to plan));
}
