-- Document 02, "Wider distances": "A converter turns RRP1 into RRP2 .., and back again ..; it returns the length and leaves later bytes
-- untouched." `to` is the width of the distances in the result, `number` the call's refusal.
use Rattle.std.specs.Prelude.{ℕ, List, ◌++◌, ◌≡◌, eqb, length, drop}
use Rattle.plan_contents.specs.Header.{mark}
use Rattle.plan_rules.specs.Refusal.{refuse, plan_checks}
use Rattle.plan_rules.specs.Converted.{converted, widen_refusal, narrow_refusal}
use Rattle.plan_rules.specs.Refused.{unless_refused, field}
use Rattle.plan_read.specs.declared.refusal.CheckedPlan.{CheckedPlan}
use Rattle.plan_read.specs.Checked.{Accepted}
use Rattle.call_convert.specs.declared.convert.ConvertAnswer.{ConvertAnswer}

-- "it returns the length": that of the result
unfoldable pub convert_length : ℕ → ℕ → List ℕ → ℕ
convert_length number to plan = field number (length (converted to plan))

-- "and leaves later bytes untouched": every byte of the buffer after the call
unfoldable pub convert_buffer : ℕ → ℕ → List ℕ → List ℕ → List ℕ
convert_buffer number to plan out = unless_refused number out (converted to plan ++ drop (length (converted to plan)) out)

-- what the checks of a plan that has to have this mark hand on: "A plan of the wrong mark for the direction gives 1", then its own rows
pub record CheckedMark (letter : ℕ) (plan : List ℕ) (checked : CheckedPlan) : Type 0 where
  pub number : checked.refused ≡ refuse (eqb (mark plan) letter) 1 (plan_checks plan 0)
  pub accepted : checked.refused ≡ 0 → Accepted plan checked

-- a conversion returns r and leaves the buffer `after`
pub record Converts (to : ℕ) (plan : List ℕ) (number : ℕ) (out : List ℕ) (r : ConvertAnswer) (after : List ℕ) : Type 0 where
  pub numbered : r.refused ≡ number
  pub long : r.length ≡ convert_length number to plan
  pub bytes : after ≡ convert_buffer number to plan out

-- RRP1 into RRP2, and back
abbrev pub Widens : List ℕ → List ℕ → ConvertAnswer → List ℕ → Type 0
Widens plan out = Converts 4 plan (widen_refusal plan (length out)) out

abbrev pub Narrows : List ℕ → List ℕ → ConvertAnswer → List ℕ → Type 0
Narrows plan out = Converts 2 plan (narrow_refusal plan (length out)) out
