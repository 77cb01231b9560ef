-- Examples that tell what the call returns and leaves from a misreading of it, over the networks that crate steady_rules gives in literal
-- lists. Beside each stands what a misreading gives.
use Rattle.std.specs.Prelude.{ℕ, ◌≡◌, List, [], ◌∷◌}
use Rattle.steady_rules.specs.Examples.{m3, three_in_a_cycle}
use Rattle.call_steady.specs.declared.steady.SteadyAnswer.TheVariants.{Refused, Listed}
use Rattle.call_steady.specs.Steady.{number_bytes, steady_answer, numbers_after}

-- a buffer of five bytes
abbrev pub lent : List ℕ
lent = 7 ∷ 7 ∷ 7 ∷ 7 ∷ 7 ∷ []

pub record SteadyAnswerExamples : Type 0 where
  -- "two bytes for each number listed, low byte first"
  pub low_byte_first : number_bytes (1 ∷ 258 ∷ 4095 ∷ []) ≡ 1 ∷ 0 ∷ 2 ∷ 1 ∷ 255 ∷ 15 ∷ []  -- high byte first: 0 1 1 2 15 255; a byte each: 1 2 255
  -- "with the count"
  pub two : steady_answer 0 m3 ≡ Listed 2  -- as many bytes: 4
  pub none : steady_answer 0 three_in_a_cycle ≡ Listed 0
  -- "and leaves the rest untouched"
  pub two_written : numbers_after 0 m3 lent ≡ 1 ∷ 0 ∷ 2 ∷ 0 ∷ 7 ∷ []  -- cleared: 0 at the end
  pub none_written : numbers_after 0 three_in_a_cycle lent ≡ lent
  -- "beside a refusal number every other returned field is zero or no", and lent buffers are "unchanged"
  pub refused : steady_answer 15 m3 ≡ Refused 15  -- with the count all the same: Listed 2
  pub refused_written : numbers_after 9 m3 lent ≡ lent  -- as much as fits
