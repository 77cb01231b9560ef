-- What a conversion returns and leaves.
use Prim.Native.Nat.{ℕ, ◌≤◌, ◌<◌}
use native.Mathlib.Omega.{arith}
use mathlib.Core.Path.{◌≡◌, ◌∙◌, sym}
use mathlib.Core.Bool.{true, false}
use mathlib.Core.List.{List, ◌++◌}
use borrow.Author.Tests.{le-leb, lt-leb}
use lib.Dec.{leb, eqb}
use lib.ListN.{length, drop}
use Rattle.plan_contents.specs.Header.{mark}
use Rattle.plan_rules.specs.Refusal.{refuse, plan_checks, plan_refusal}
use Rattle.plan_rules.specs.Converted.{converted}
use Rattle.plan_rules.proofs.Cascade.{marked-cascade}
use Rattle.plan_rules.proofs.Refused.{when-refused, when-given}
use Rattle.plan_read.specs.declared.refusal.CheckedPlan.{CheckedPlan}
use Rattle.plan_read.specs.Checked.{Checked}
use Rattle.call_convert.specs.declared.convert.ConvertAnswer.{ConvertAnswer}
use Rattle.call_convert.specs.Convert.{convert_length, convert_buffer, CheckedMark, Converts}

-- a refused one
pub converts-not : {to number refusal : ℕ} {plan out : List ℕ} {r : ConvertAnswer} → refusal ≡ number → 0 < number
    → (r.refused ≡ number) × (r.length ≡ 0) → Converts to plan refusal out r out
unfolding convert_length convert_buffer
converts-not {refusal = refusal} e some q =
    let n : refusal ≡ 0 → ⊥ = λ z. omega arith in
    record { numbered = q.0 ∙ sym e; long = q.1 ∙ sym (when-refused _ _ _ n); bytes = sym (when-refused _ _ _ n) }

-- by another name of its refusal
pub converts-as : {to other refusal : ℕ} {plan out after : List ℕ} {r : ConvertAnswer} → refusal ≡ other → Converts to plan other out r after
    → Converts to plan refusal out r after
converts-as e q = rw e q

-- the checks of the mark and of the plan, and that they decide unless they pass
module _ {letter : ℕ} {plan : List ℕ} {checked : CheckedPlan} where
  pub mark-refused : eqb (mark plan) letter ≡ false → checked.refused ≡ 1 → CheckedMark letter plan checked
  unfolding refuse
  mark-refused h e = record { number = e ∙ rw h; accepted = λ z. absurd (omega arith) }

  pub mark-passed : eqb (mark plan) letter ≡ true → Checked plan checked → CheckedMark letter plan checked
  unfolding refuse plan_refusal
  mark-passed h q = record { number = q.number ∙ rw h; accepted = λ z. q.accepted (sym q.number ∙ z) }

  module _ (q : CheckedMark letter plan checked) where
    pub refused-before : (checked.refused ≡ 0 → ⊥) → (rest : ℕ) → refuse (eqb (mark plan) letter) 1 (plan_checks plan rest) ≡ checked.refused
    refused-before ne rest = (marked-cascade plan (eqb (mark plan) letter)).refused (λ z. ne (q.number ∙ z)) rest ∙ sym q.number

    pub rest-decides : checked.refused ≡ 0 → (rest : ℕ) → refuse (eqb (mark plan) letter) 1 (plan_checks plan rest) ≡ rest
    rest-decides z rest = (marked-cascade plan (eqb (mark plan) letter)).passed (sym q.number ∙ z) rest

-- row 9, where no row before it refuses
module _ (to : ℕ) (plan out : List ℕ) (r : ConvertAnswer) where
  abbrev room_row : ℕ
  room_row = refuse (leb (length (converted to plan)) (length out)) 9 0

  pub too_short : length out < length (converted to plan) → (r.refused ≡ 9) × (r.length ≡ 0) → Converts to plan room_row out r out
  unfolding refuse
  too_short h q = converts-not (rw (lt-leb _ _ h)) (omega arith) q

  pub long-enough : length (converted to plan) ≤ length out → (after : List ℕ) → (r.refused ≡ 0) × (r.length ≡ length (converted to plan))
      → after ≡ converted to plan ++ drop (length (converted to plan)) out → Converts to plan room_row out r after
  unfolding refuse convert_length convert_buffer
  long-enough h after q e =
      let z : room_row ≡ 0 = rw (le-leb _ _ h) in
      record { numbered = q.0 ∙ sym z; long = q.1 ∙ sym (when-given _ _ _ z); bytes = e ∙ sym (when-given _ _ _ z) }
