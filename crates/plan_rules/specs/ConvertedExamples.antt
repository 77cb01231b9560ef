-- Examples that tell the rules of the converter from a misreading of them, in literal bytes. Beside each stands what a misreading gives.
use Rattle.std.specs.Prelude.{ℕ, ◌≡◌, List, [], ◌∷◌, set}
use Rattle.plan_rules.specs.Converted.{entry_bytes, converted_distances_entry, converted_lists_entry, converted, widen_refusal, narrow_refusal}

-- A plan of two routers in both forms: reflector 0, client 1, their session, the list of router 1 alone, and the distances from 0 to 1 and
-- from 1 to 0 in these bytes.
unfoldable pub with_narrow : (a b c d : ℕ) → List ℕ
with_narrow a b c d =
    82 ∷ 82 ∷ 80 ∷ 49 ∷ 2 ∷ 4  -- RRP1, n, the number of entries
    ∷ 1 ∷ 26 ∷ 0 ∷ 10 ∷ 0
    ∷ 2 ∷ 36 ∷ 0 ∷ 2 ∷ 0
    ∷ 3 ∷ 38 ∷ 0 ∷ 8 ∷ 0
    ∷ 4 ∷ 46 ∷ 0 ∷ 3 ∷ 0
    ∷ 1 ∷ 1 ∷ 0 ∷ 0 ∷ 0
    ∷ 2 ∷ 2 ∷ 0 ∷ 0 ∷ 0
    ∷ 0 ∷ 1
    ∷ 0 ∷ 0 ∷ a ∷ b ∷ c ∷ d ∷ 0 ∷ 0
    ∷ 1 ∷ 1 ∷ 1
    ∷ []

unfoldable pub with_wide : (a b c d e f g h : ℕ) → List ℕ
with_wide a b c d e f g h =
    82 ∷ 82 ∷ 80 ∷ 50 ∷ 2 ∷ 4  -- RRP2
    ∷ 1 ∷ 26 ∷ 0 ∷ 10 ∷ 0
    ∷ 2 ∷ 36 ∷ 0 ∷ 2 ∷ 0
    ∷ 3 ∷ 38 ∷ 0 ∷ 16 ∷ 0
    ∷ 4 ∷ 54 ∷ 0 ∷ 3 ∷ 0
    ∷ 1 ∷ 1 ∷ 0 ∷ 0 ∷ 0
    ∷ 2 ∷ 2 ∷ 0 ∷ 0 ∷ 0
    ∷ 0 ∷ 1
    ∷ 0 ∷ 0 ∷ 0 ∷ 0 ∷ a ∷ b ∷ c ∷ d ∷ e ∷ f ∷ g ∷ h ∷ 0 ∷ 0 ∷ 0 ∷ 0
    ∷ 1 ∷ 1 ∷ 1
    ∷ []

-- the first 26 bytes of an RRP1 plan of eight routers: sessions of 14 bytes, lists of 100
unfoldable pub first_of_eight : List ℕ
first_of_eight =
    82 ∷ 82 ∷ 80 ∷ 49 ∷ 8 ∷ 4
    ∷ 1 ∷ 26 ∷ 0 ∷ 40 ∷ 0
    ∷ 2 ∷ 66 ∷ 0 ∷ 14 ∷ 0
    ∷ 3 ∷ 80 ∷ 0 ∷ 128 ∷ 0
    ∷ 4 ∷ 208 ∷ 0 ∷ 100 ∷ 0
    ∷ []

pub record WidenExamples : Type 0 where
  -- "A converter turns RRP1 into RRP2 with the same distances, other bodies": here 65,534 and no way
  pub farthest_and_no_way : converted 4 (with_narrow 254 255 255 255) ≡ with_wide 254 255 0 0 255 255 255 255  -- no way as 65,535: 255 255 0 0
  pub low_byte_first : converted 4 (with_narrow 2 1 7 0) ≡ with_wide 2 1 0 0 7 0 0 0  -- high byte first: 0 0 1 2; by columns: 7 0 0 0
  -- kind 3 has 4n² bytes, and the lists start after it, at 336
  pub distances_entry_above255 : entry_bytes (converted_distances_entry 4 first_of_eight) ≡ 3 ∷ 80 ∷ 0 ∷ 0 ∷ 1 ∷ []  -- high byte first: 3 0 80 1 0
  pub lists_entry_above255 : entry_bytes (converted_lists_entry 4 first_of_eight) ≡ 4 ∷ 80 ∷ 1 ∷ 100 ∷ 0 ∷ []  -- where they were: 4 208 0 100 0
  -- 9 where the buffer is shorter than the 57 bytes of the result
  pub enough : widen_refusal (with_narrow 254 255 255 255) 57 ≡ 0  -- more than the result: 9
  pub one_byte_short : widen_refusal (with_narrow 254 255 255 255) 56 ≡ 9  -- 49 bytes, those of the plan: 0
  pub broken_and_short : widen_refusal (set (with_narrow 254 255 255 255) 38 1) 0 ≡ 6  -- the buffer first: 9
  -- "A plan of the wrong mark for the direction gives 1."
  pub wide_mark : widen_refusal (with_wide 254 255 0 0 255 255 255 255) 100 ≡ 1  -- either mark: 0
  pub other_mark : widen_refusal (set (with_narrow 254 255 255 255) 3 51) 100 ≡ 1  -- any mark but RRP2: 0
  pub widened_again : widen_refusal (converted 4 (with_narrow 254 255 255 255)) 100 ≡ 1  -- its own result taken: 0
  pub mark_first : widen_refusal (set (with_wide 254 255 0 0 255 255 255 255) 4 0) 100 ≡ 1  -- after the plan's own rows: 2

pub record NarrowExamples : Type 0 where
  -- "and back again to identical bytes"
  pub farthest_and_no_way_back : converted 2 (with_wide 254 255 0 0 255 255 255 255) ≡ with_narrow 254 255 255 255  -- no way as 65,534: 254 255
  pub low_byte_first_back : converted 2 (with_wide 2 1 0 0 7 0 0 0) ≡ with_narrow 2 1 7 0  -- high byte first: 1 2; by columns: 7 0
  -- entries 3 and 4 as they stood: 16 for 8 and 54 for 46, or the other way round
  pub narrow_after_widen : converted 2 (converted 4 (with_narrow 254 255 255 255)) ≡ with_narrow 254 255 255 255
  pub widen_after_narrow : converted 4 (converted 2 (with_wide 254 255 0 0 255 255 255 255)) ≡ with_wide 254 255 0 0 255 255 255 255
  -- "It refuses with 14 if, on the way back, a distance other than no way exceeds 65,534"
  pub farthest_fits : narrow_refusal (with_wide 254 255 0 0 7 0 0 0) 49 ≡ 0  -- from 65,534 on: 14
  pub no_way_fits : narrow_refusal (with_wide 255 255 255 255 7 0 0 0) 49 ≡ 0  -- of any number above 65,534: 14
  pub two_bytes_full : narrow_refusal (with_wide 255 255 0 0 7 0 0 0) 49 ≡ 14  -- 65,535 as no way, or to 65,535: 0
  pub one_more : narrow_refusal (with_wide 0 0 1 0 7 0 0 0) 49 ≡ 14  -- by its two low bytes, or written as 65,534: 0
  pub farthest_wide : narrow_refusal (with_wide 254 255 255 255 7 0 0 0) 49 ≡ 14  -- as no way: 0
  pub too_far_back : narrow_refusal (with_wide 7 0 0 0 255 255 0 0) 49 ≡ 14  -- asked from the lower router alone: 0
  -- "after 7 and before 8", and so before 9
  pub seven_first : narrow_refusal (set (with_wide 255 255 0 0 7 0 0 0) 54 0) 49 ≡ 7  -- before 7: 14
  pub fourteen_first : narrow_refusal (with_wide 255 255 0 0 7 0 0 0) 48 ≡ 14  -- after 9: 9
  -- 9 where the buffer is shorter than the 49 bytes of the result
  pub enough_back : narrow_refusal (with_wide 254 255 0 0 255 255 255 255) 49 ≡ 0  -- 57 bytes, those of the plan: 9
  pub one_byte_short_back : narrow_refusal (with_wide 254 255 0 0 255 255 255 255) 48 ≡ 9  -- any buffer: 0
  -- "A plan of the wrong mark for the direction gives 1."
  pub narrow_mark : narrow_refusal (with_narrow 254 255 255 255) 100 ≡ 1  -- either mark: 0
  pub narrowed_again : narrow_refusal (converted 2 (with_wide 254 255 0 0 255 255 255 255)) 100 ≡ 1  -- its own result taken: 0
  pub mark_first_back : narrow_refusal (set (with_narrow 254 255 255 255) 4 0) 100 ≡ 1  -- after the plan's own rows: 2
