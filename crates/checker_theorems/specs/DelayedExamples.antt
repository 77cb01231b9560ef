-- Examples of acts that read late, in literal bytes and numbers. After "Misread" stands what a misreading gives. One byte, 9, stands after
-- each table.
use Rattle.std.specs.Prelude.{ℕ, ◌≡◌, true, false, List, [], ◌∷◌, eqb, length, get_or, set}
use Rattle.base.specs.Below.{all_below}
use Rattle.route_theorems.specs.Delayed.{Moments, may_read, may_read_earlier}
use Rattle.plan_examples.specs.Plans.{three_with, m3_with_nobody}
use Rattle.checker_theorems.specs.Delayed.{handed, DelayedCalls, UnsettledCalls}

-- Routers 0 and 1 are reflectors with a session, and 2 is a client of 1, to which 1 has no way: `three_with` with role 1 for router 1, in byte
-- 31, and no way from 1 to 2, in bytes 55 and 56. The one list names router 2. The highest rank is 0.
unfoldable pub cut_off_plan : List ℕ
cut_off_plan = set (set (set (three_with (1 ∷ 1 ∷ 2 ∷ [])) 31 1) 55 255) 56 255

abbrev pub two_rounds : List ℕ
two_rounds = 0 ∷ 1 ∷ 2 ∷ 0 ∷ 1 ∷ 2 ∷ []

abbrev pub three_rounds : List ℕ
three_rounds = 0 ∷ 1 ∷ 2 ∷ 0 ∷ 1 ∷ 2 ∷ 0 ∷ 1 ∷ 2 ∷ []

-- router 1 is left with its client's route; router 0 takes it up, router 1 lets it go, and at last router 0 too
abbrev pub left_over : List ℕ
left_over = 255 ∷ 255 ∷ 2 ∷ 2 ∷ 2 ∷ 2 ∷ 9 ∷ []

abbrev pub taken_up : List ℕ
taken_up = 2 ∷ 1 ∷ 2 ∷ 2 ∷ 2 ∷ 2 ∷ 9 ∷ []

abbrev pub held_on : List ℕ
held_on = 2 ∷ 1 ∷ 255 ∷ 255 ∷ 2 ∷ 2 ∷ 9 ∷ []

abbrev pub settled : List ℕ
settled = 255 ∷ 255 ∷ 255 ∷ 255 ∷ 2 ∷ 2 ∷ 9 ∷ []

-- in the second round router 0 still reads router 1 as it stood at the start, and in the third as it stood at moment 3
abbrev pub two_moments : List ℕ
two_moments = 0 ∷ 1 ∷ 2 ∷ 0 ∷ 4 ∷ 5 ∷ []

abbrev pub two_buffers : List (List ℕ)
two_buffers = left_over ∷ taken_up ∷ held_on ∷ held_on ∷ held_on ∷ held_on ∷ held_on ∷ []

abbrev pub three_moments : List ℕ
three_moments = 0 ∷ 1 ∷ 2 ∷ 0 ∷ 4 ∷ 5 ∷ 3 ∷ 7 ∷ 8 ∷ []

abbrev pub three_buffers : List (List ℕ)
three_buffers = left_over ∷ taken_up ∷ held_on ∷ held_on ∷ held_on ∷ held_on ∷ held_on ∷ settled ∷ settled ∷ settled ∷ []

-- .. or as it stood at the start in the third round too
abbrev pub early_moments : List ℕ
early_moments = 0 ∷ 1 ∷ 2 ∷ 0 ∷ 4 ∷ 5 ∷ 0 ∷ 7 ∷ 8 ∷ []

abbrev pub early_buffers : List (List ℕ)
early_buffers = left_over ∷ taken_up ∷ held_on ∷ held_on ∷ held_on ∷ held_on ∷ held_on ∷ held_on ∷ held_on ∷ held_on ∷ []

-- act 1, of router 1, reads router 0 as it stood at the start, and router 2 as it stands
unfoldable pub apart : Moments
apart i v = elim (eqb v 0) [ true ↦ 0 | false ↦ i ]

-- M3's plan with a list of nobody, list 1, and role 4, a reflector with the hop step, for routers 0 and 1. The highest rank is 1.
unfoldable pub gone_with_step : List ℕ
gone_with_step = set (set m3_with_nobody 26 4) 31 4

abbrev pub four_rounds : List ℕ
four_rounds = 0 ∷ 1 ∷ 2 ∷ 3 ∷ 0 ∷ 1 ∷ 2 ∷ 3 ∷ 0 ∷ 1 ∷ 2 ∷ 3 ∷ 0 ∷ 1 ∷ 2 ∷ 3 ∷ []

-- router 0 reads router 1 as it stood at the start in the second round too, and router 2 reads in the fourth what router 0 held before its
-- act of the third
abbrev pub four_moments : List ℕ
four_moments = 0 ∷ 1 ∷ 2 ∷ 3 ∷ 0 ∷ 5 ∷ 6 ∷ 7 ∷ 8 ∷ 9 ∷ 10 ∷ 11 ∷ 12 ∷ 13 ∷ 8 ∷ 15 ∷ []

-- the buffer at the start, where router 1 is left with a route to 3, and after each act
abbrev pub four_buffers : List (List ℕ)
four_buffers =
    (255 ∷ 255 ∷ 3 ∷ 3 ∷ 255 ∷ 255 ∷ 255 ∷ 255 ∷ 9 ∷ [])
    ∷ (3 ∷ 1 ∷ 3 ∷ 3 ∷ 255 ∷ 255 ∷ 255 ∷ 255 ∷ 9 ∷ [])
    ∷ (3 ∷ 1 ∷ 255 ∷ 255 ∷ 255 ∷ 255 ∷ 255 ∷ 255 ∷ 9 ∷ [])
    ∷ (3 ∷ 1 ∷ 255 ∷ 255 ∷ 3 ∷ 0 ∷ 255 ∷ 255 ∷ 9 ∷ [])
    ∷ (3 ∷ 1 ∷ 255 ∷ 255 ∷ 3 ∷ 0 ∷ 255 ∷ 255 ∷ 9 ∷ [])
    ∷ (3 ∷ 1 ∷ 255 ∷ 255 ∷ 3 ∷ 0 ∷ 255 ∷ 255 ∷ 9 ∷ [])
    ∷ (3 ∷ 1 ∷ 255 ∷ 255 ∷ 3 ∷ 0 ∷ 255 ∷ 255 ∷ 9 ∷ [])
    ∷ (3 ∷ 1 ∷ 255 ∷ 255 ∷ 3 ∷ 0 ∷ 255 ∷ 255 ∷ 9 ∷ [])
    ∷ (3 ∷ 1 ∷ 255 ∷ 255 ∷ 3 ∷ 0 ∷ 255 ∷ 255 ∷ 9 ∷ [])
    ∷ (255 ∷ 255 ∷ 255 ∷ 255 ∷ 3 ∷ 0 ∷ 255 ∷ 255 ∷ 9 ∷ [])
    ∷ (255 ∷ 255 ∷ 255 ∷ 255 ∷ 3 ∷ 0 ∷ 255 ∷ 255 ∷ 9 ∷ [])
    ∷ (255 ∷ 255 ∷ 255 ∷ 255 ∷ 255 ∷ 255 ∷ 255 ∷ 255 ∷ 9 ∷ [])
    ∷ (255 ∷ 255 ∷ 255 ∷ 255 ∷ 255 ∷ 255 ∷ 255 ∷ 255 ∷ 9 ∷ [])
    ∷ (255 ∷ 255 ∷ 255 ∷ 255 ∷ 255 ∷ 255 ∷ 255 ∷ 255 ∷ 9 ∷ [])
    ∷ (255 ∷ 255 ∷ 255 ∷ 255 ∷ 255 ∷ 255 ∷ 255 ∷ 255 ∷ 9 ∷ [])
    ∷ (255 ∷ 255 ∷ 255 ∷ 255 ∷ 3 ∷ 0 ∷ 255 ∷ 255 ∷ 9 ∷ [])
    ∷ (255 ∷ 255 ∷ 255 ∷ 255 ∷ 3 ∷ 0 ∷ 255 ∷ 255 ∷ 9 ∷ [])
    ∷ []

pub record DelayedCallsExamples : Type 0 where
  -- "Let an act read each neighbour as it stood at any moment": what act 1 is handed. Misread at one moment for both neighbours, that of
  -- router 2: 2 1 2 2 2 2.
  pub own_moments : handed cut_off_plan two_rounds apart (λ m. get_or two_buffers m []) 1 ≡ 255 ∷ 255 ∷ 2 ∷ 2 ∷ 2 ∷ 2 ∷ []
  -- .. and act 14, of router 2: router 0 as it stood at moment 8, and the others, which are no neighbours, as they stand. Misread as the
  -- whole table of moment 8: 3 1 255 255 3 0 255 255.
  pub neighbours_alone :
      handed gone_with_step four_rounds (λ i v. 8) (λ m. get_or four_buffers m []) 14 ≡ 3 ∷ 1 ∷ 255 ∷ 255 ∷ 255 ∷ 255 ∷ 255 ∷ 255 ∷ []
  -- "within twice the highest rank plus three rounds": two are not enough where the highest rank is 0, with a cut-off router,
  pub not_in_two : UnsettledCalls may_read cut_off_plan 0 0 2 two_rounds two_moments two_buffers
  -- .. three are, where each act reads what it may,
  pub read_in_three : all_below (λ i. may_read 3 three_rounds i (get_or three_moments i 0)) (length three_rounds) ≡ true
  pub in_three : DelayedCalls cut_off_plan 0 three_rounds (λ i v. get_or three_moments i 0) (λ m. get_or three_buffers m [])
  -- .. and four are not where it is 1, with an empty list and reflectors that have the hop step
  pub not_in_four : UnsettledCalls may_read gone_with_step 1 1 4 four_rounds four_moments four_buffers
  -- "no earlier than the start of the round before": where acts may read one round further back, three rounds are not enough
  pub too_early : UnsettledCalls may_read_earlier cut_off_plan 0 0 3 three_rounds early_moments early_buffers
