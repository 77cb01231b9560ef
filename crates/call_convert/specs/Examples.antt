-- Examples that tell what a conversion returns and leaves from a misreading of it, on the plan of two routers that crate plan_rules gives
-- in literal bytes in both forms. Beside each stands what a misreading gives.
use Rattle.std.specs.Prelude.{ℕ, ◌≡◌, List, [], ◌∷◌, ◌++◌, replicate}
use Rattle.plan_rules.specs.Converted.{widen_refusal, narrow_refusal}
use Rattle.plan_rules.specs.ConvertedExamples.{with_narrow, with_wide}
use Rattle.call_convert.specs.Convert.{convert_length, convert_buffer}

-- a buffer of so many bytes; the RRP1 plan has 49, the RRP2 plan 57
unfoldable pub lent : ℕ → List ℕ
lent room = replicate room 7

-- the answers of both calls, and what they leave in a buffer of `room` bytes
abbrev pub widen_length : List ℕ → ℕ → ℕ
widen_length plan room = convert_length (widen_refusal plan room) 4 plan

abbrev pub narrow_length : List ℕ → ℕ → ℕ
narrow_length plan room = convert_length (narrow_refusal plan room) 2 plan

abbrev pub widen_buffer : List ℕ → ℕ → List ℕ
widen_buffer plan room = convert_buffer (widen_refusal plan room) 4 plan (lent room)

abbrev pub narrow_buffer : List ℕ → ℕ → List ℕ
narrow_buffer plan room = convert_buffer (narrow_refusal plan room) 2 plan (lent room)

pub record ConvertExamples : Type 0 where
  -- "it returns the length"
  pub widened : widen_length (with_narrow 5 0 255 255) 58 ≡ 57  -- that of the plan: 49; of the buffer: 58
  pub narrowed : narrow_length (with_wide 5 0 0 0 255 255 255 255) 58 ≡ 49  -- that of the plan: 57; of the buffer: 58
  -- "and leaves later bytes untouched": here one, and nine
  pub widened_bytes : widen_buffer (with_narrow 5 0 255 255) 58 ≡ with_wide 5 0 0 0 255 255 255 255 ++ (7 ∷ [])  -- cleared: 0
  pub narrowed_bytes : narrow_buffer (with_wide 5 0 0 0 255 255 255 255) 58 ≡ with_narrow 5 0 255 255 ++ replicate 9 7  -- cleared: zeros
  pub just_enough : widen_buffer (with_narrow 5 0 255 255) 57 ≡ with_wide 5 0 0 0 255 255 255 255
  -- "beside a refusal number every other returned field is zero or no", and lent buffers are "unchanged"
  pub short_length : widen_length (with_narrow 5 0 255 255) 56 ≡ 0  -- the length that is needed: 57
  pub short_bytes : widen_buffer (with_narrow 5 0 255 255) 56 ≡ lent 56  -- as much as fits
  pub too_far_length : narrow_length (with_wide 255 255 0 0 5 0 0 0) 58 ≡ 0  -- as if not refused: 49
  pub too_far_bytes : narrow_buffer (with_wide 255 255 0 0 5 0 0 0) 58 ≡ lent 58  -- as if not refused: no way for 65,535
  pub wrong_mark_bytes : widen_buffer (with_wide 5 0 0 0 255 255 255 255) 58 ≡ lent 58  -- either mark: the plan as it was
