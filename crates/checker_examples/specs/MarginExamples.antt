-- Examples that tell the rules of document 02, "The margin with its sign", from a misreading of them, in literal bytes and numbers: the
-- margins at both ends, at zero and where there is none, and the entry of document 00 that was false for a year. After "Misread" stands
-- the answer that a misreading gives.
use Rattle.std.specs.Prelude.{ℕ, false, List, [], ◌∷◌, replicate, pos, neg_ℤ}
use Rattle.call_compare.specs.declared.compare.CompareAnswer.TheVariants.{Refused}
use Rattle.call_query.specs.declared.relies.ReliesAnswer.TheVariants.{Yes}
use Rattle.call_verdict.specs.declared.verdict.VerdictAnswer.TheVariants.{Stable, Suspect}
use Rattle.checker_examples.specs.Questions.{Question, compare_asked, relies_asked, verdict_asked}
use Rattle.checker_examples.specs.Questions.{compare_is, relies_is, verdict_is, Example, example, Hold}
use Rattle.checker_examples.specs.TellingExamples.{first_better, second_better, neither_better}
use Rattle.checker_examples.specs.CutOffExamples.{first_alone, second_alone, no_way_to_both}

-- Three clients without a session. From 0 it is 65,534 to 1 and to 2; from 1 it is 7 to 2, and there is no way to 0; from 2 there is no
-- way to 0 and 1.
unfoldable pub ends : List ℕ
ends =
    82 ∷ 82 ∷ 80 ∷ 49 ∷ 3 ∷ 4
    ∷ 1 ∷ 26 ∷ 0 ∷ 15 ∷ 0
    ∷ 2 ∷ 41 ∷ 0 ∷ 0 ∷ 0
    ∷ 3 ∷ 41 ∷ 0 ∷ 18 ∷ 0
    ∷ 4 ∷ 59 ∷ 0 ∷ 3 ∷ 0
    ∷ 2 ∷ 10 ∷ 0 ∷ 0 ∷ 0 ∷ 2 ∷ 20 ∷ 0 ∷ 0 ∷ 0 ∷ 2 ∷ 30 ∷ 0 ∷ 0 ∷ 0
    ∷ 0 ∷ 0 ∷ 254 ∷ 255 ∷ 254 ∷ 255
    ∷ 255 ∷ 255 ∷ 0 ∷ 0 ∷ 7 ∷ 0
    ∷ 255 ∷ 255 ∷ 255 ∷ 255 ∷ 0 ∷ 0
    ∷ 1 ∷ 1 ∷ 0
    ∷ []

-- "the first distance minus the second, from minus 65,534 to 65,534": 0 and 65,534. Misread as the magnitude, or with the sign turned:
-- First, 65,534; in two bytes: First, 2.
abbrev pub least : Example
least = example ends (compare_asked 0 0 1) (first_better (neg_ℤ (pos 65534)))

-- 65,534 and 0. Misread with the sign turned: Second, -65,534.
abbrev pub greatest : Example
greatest = example ends (compare_asked 0 1 0) (second_better (pos 65534))

-- "Zero means that the numbers decide": 65,534 and 65,534, and 1 is lower than 2. Misread by the higher number: Second.
abbrev pub zero_by_the_number : Example
zero_by_the_number = example ends (compare_asked 0 1 2) (first_better (pos 0))

abbrev pub zero_by_the_number_exchanged : Example
zero_by_the_number_exchanged = example ends (compare_asked 0 2 1) (second_better (pos 0))

-- "or the two are the same route". Misread as no margin: Neither, none.
abbrev pub zero_of_one_route : Example
zero_of_one_route = example ends (compare_asked 0 2 2) neither_better

-- "A margin exists only if both have a way": 1 has none to 0. Misread as a distance: Second, 65,528.
abbrev pub no_way_to_the_first : Example
no_way_to_the_first = example ends (compare_asked 1 0 2) second_alone

-- Misread as a distance: First, -65,528; as zero: First, 0.
abbrev pub no_way_to_the_second : Example
no_way_to_the_second = example ends (compare_asked 1 2 0) first_alone

-- 2 has no way to 0 and 1. Misread as two equal distances: First, 0.
abbrev pub no_way_to_either : Example
no_way_to_either = example ends (compare_asked 2 0 1) no_way_to_both

abbrev pub no_way_to_one_twice : Example
no_way_to_one_twice = example ends (compare_asked 2 0 0) no_way_to_both

-- "beside a refusal number every other returned field is zero or no": there is no router 3. Misread without that check: a margin.
abbrev pub refused_comparison : Example
refused_comparison = example ends (compare_asked 0 1 3) (compare_is (Refused 8) 0 false (pos 0))

-- Document 00: "One entry was false for a year: a checker scaled each difference of distances to tens before comparing, minus four became
-- nought, the router identifier decided instead, and one reliance dropped out of a ring of four reflectors." Reflectors 0 to 3 with the
-- sessions 0-1, 0-3, 1-2, 2-3, each with a client: 4, 5, 6, 7, all listed. Each reflector is nearer to the client of the next one than to
-- its own. `own₀` is the distance from 0 to its client and `own` that of every other; `near` the distance to the next one's client.
unfoldable pub cycle_plan : (own₀ near own far : ℕ) → List ℕ
cycle_plan own₀ near own far =
    82 ∷ 82 ∷ 80 ∷ 49 ∷ 8 ∷ 4
    ∷ 1 ∷ 26 ∷ 0 ∷ 40 ∷ 0
    ∷ 2 ∷ 66 ∷ 0 ∷ 16 ∷ 0
    ∷ 3 ∷ 82 ∷ 0 ∷ 128 ∷ 0
    ∷ 4 ∷ 210 ∷ 0 ∷ 6 ∷ 0
    ∷ 1 ∷ 10 ∷ 0 ∷ 0 ∷ 0 ∷ 1 ∷ 20 ∷ 0 ∷ 0 ∷ 0 ∷ 1 ∷ 30 ∷ 0 ∷ 0 ∷ 0 ∷ 1 ∷ 40 ∷ 0 ∷ 0 ∷ 0
    ∷ 2 ∷ 50 ∷ 0 ∷ 0 ∷ 0 ∷ 2 ∷ 60 ∷ 0 ∷ 0 ∷ 0 ∷ 2 ∷ 70 ∷ 0 ∷ 0 ∷ 0 ∷ 2 ∷ 80 ∷ 0 ∷ 0 ∷ 0
    ∷ 0 ∷ 1 ∷ 0 ∷ 3 ∷ 0 ∷ 4 ∷ 1 ∷ 2 ∷ 1 ∷ 5 ∷ 2 ∷ 3 ∷ 2 ∷ 6 ∷ 3 ∷ 7
    ∷ 0 ∷ 0 ∷ far ∷ 0 ∷ far ∷ 0 ∷ far ∷ 0 ∷ own₀ ∷ 0 ∷ near ∷ 0 ∷ far ∷ 0 ∷ far ∷ 0
    ∷ far ∷ 0 ∷ 0 ∷ 0 ∷ far ∷ 0 ∷ far ∷ 0 ∷ far ∷ 0 ∷ own ∷ 0 ∷ near ∷ 0 ∷ far ∷ 0
    ∷ far ∷ 0 ∷ far ∷ 0 ∷ 0 ∷ 0 ∷ far ∷ 0 ∷ far ∷ 0 ∷ far ∷ 0 ∷ own ∷ 0 ∷ near ∷ 0
    ∷ far ∷ 0 ∷ far ∷ 0 ∷ far ∷ 0 ∷ 0 ∷ 0 ∷ near ∷ 0 ∷ far ∷ 0 ∷ far ∷ 0 ∷ own ∷ 0
    ∷ far ∷ 0 ∷ far ∷ 0 ∷ far ∷ 0 ∷ far ∷ 0 ∷ 0 ∷ 0 ∷ far ∷ 0 ∷ far ∷ 0 ∷ far ∷ 0
    ∷ far ∷ 0 ∷ far ∷ 0 ∷ far ∷ 0 ∷ far ∷ 0 ∷ far ∷ 0 ∷ 0 ∷ 0 ∷ far ∷ 0 ∷ far ∷ 0
    ∷ far ∷ 0 ∷ far ∷ 0 ∷ far ∷ 0 ∷ far ∷ 0 ∷ far ∷ 0 ∷ far ∷ 0 ∷ 0 ∷ 0 ∷ far ∷ 0
    ∷ far ∷ 0 ∷ far ∷ 0 ∷ far ∷ 0 ∷ far ∷ 0 ∷ far ∷ 0 ∷ far ∷ 0 ∷ far ∷ 0 ∷ 0 ∷ 0
    ∷ 1 ∷ 4 ∷ 4 ∷ 5 ∷ 6 ∷ 7
    ∷ []

-- from 0 it is 14 to its client 4 and 10 to 5, that of 1; the same plan as such a checker reads it, in tens
abbrev pub four_in_a_cycle : List ℕ
four_in_a_cycle = cycle_plan 14 10 30 60

abbrev pub four_in_tens : List ℕ
four_in_tens = cycle_plan 1 1 3 6

-- the verdict of its list, with as many bytes lent as the call needs, all 255
abbrev pub verdict_of_eight : Question
verdict_of_eight = verdict_asked 0 (replicate 8 255) (replicate 8 255) (replicate 16 255) (replicate 8 255)

-- minus four. Misread in tens: Second, 0.
abbrev pub minus_four : Example
minus_four = example four_in_a_cycle (compare_asked 0 5 4) (first_better (neg_ℤ (pos 4)))

-- so 0 relies on 1, which offers 5. Misread in tens: No.
abbrev pub reliance_by_four : Example
reliance_by_four = example four_in_a_cycle (relies_asked 0 0 1) (relies_is Yes)

-- and the cycle is there: suspect. Misread in tens: stable, as below.
abbrev pub cycle_of_four : Example
cycle_of_four =
    example four_in_a_cycle verdict_of_eight
    (verdict_is (Suspect 4) (0 ∷ 0 ∷ 0 ∷ 0 ∷ 4 ∷ 5 ∷ 6 ∷ 7 ∷ []) (replicate 8 255) (replicate 16 255)
    (0 ∷ 1 ∷ 2 ∷ 3 ∷ 255 ∷ 255 ∷ 255 ∷ 255 ∷ []))

-- What such a checker found: of 5 and 4, at equal distances, the lower number is better, and 0 relies on no reflector.
abbrev pub zero_in_tens : Example
zero_in_tens = example four_in_tens (compare_asked 0 5 4) (second_better (pos 0))

abbrev pub stable_in_tens : Example
stable_in_tens =
    example four_in_tens verdict_of_eight
    (verdict_is (Stable 4) (0 ∷ 1 ∷ 2 ∷ 3 ∷ 4 ∷ 5 ∷ 6 ∷ 7 ∷ []) (1 ∷ 4 ∷ 3 ∷ 2 ∷ 0 ∷ 0 ∷ 0 ∷ 0 ∷ [])
    (4 ∷ 4 ∷ 6 ∷ 2 ∷ 6 ∷ 6 ∷ 4 ∷ 0 ∷ 4 ∷ 4 ∷ 5 ∷ 5 ∷ 6 ∷ 6 ∷ 7 ∷ 7 ∷ [])
    (replicate 8 255))

unfoldable pub margin_examples : List Example
margin_examples =
    least ∷ greatest ∷ zero_by_the_number ∷ zero_by_the_number_exchanged ∷ zero_of_one_route ∷ no_way_to_the_first ∷ no_way_to_the_second ∷ no_way_to_either
    ∷ no_way_to_one_twice ∷ refused_comparison ∷ minus_four ∷ reliance_by_four ∷ cycle_of_four ∷ zero_in_tens ∷ stable_in_tens ∷ []

-- The calls give each entry's answer.
abbrev pub MarginExamplesHold : Type 0
MarginExamplesHold = Hold margin_examples
