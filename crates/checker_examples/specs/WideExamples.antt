-- Examples that tell the rules of document 02, "Wider distances", from a misreading of them, in literal bytes and numbers. After "Misread"
-- stands the answer that a misreading gives.
use Rattle.std.specs.Prelude.{ℕ, List, [], ◌∷◌, pos, neg_ℤ, set, replicate}
use Rattle.plan_examples.specs.Plans.{wide_ends}
use Rattle.call_verdict.specs.declared.verdict.VerdictAnswer.TheVariants.{Suspect}
use Rattle.call_query.specs.declared.relies.ReliesAnswer.TheVariants.{Yes}
use Rattle.checker_examples.specs.Questions.{check_asked, compare_asked, relies_asked, explain_asked, verdict_asked}
use Rattle.checker_examples.specs.Questions.{check_is, relies_is, verdict_is, Example, example, Hold}
use Rattle.checker_examples.specs.TellingExamples.{first_better, second_better}
use Rattle.checker_examples.specs.CutOffExamples.{second_alone}
use Rattle.checker_examples.specs.ExplainExamples.{by_better_offer}

-- Document 01's routers and sessions of the small plans in an RRP2 plan, with list 2,3. Distances 0 to 2 and 1 to 3 have the four bytes
-- given, 0 to 3 and 1 to 2 are p; the others are 30.
unfoldable pub wide_four : (a b c d p : ℕ) → List ℕ
wide_four a b c d p =
    82 ∷ 82 ∷ 80 ∷ 50 ∷ 4 ∷ 4
    ∷ 1 ∷ 26 ∷ 0 ∷ 20 ∷ 0
    ∷ 2 ∷ 46 ∷ 0 ∷ 6 ∷ 0
    ∷ 3 ∷ 52 ∷ 0 ∷ 64 ∷ 0
    ∷ 4 ∷ 116 ∷ 0 ∷ 4 ∷ 0
    ∷ 1 ∷ 10 ∷ 0 ∷ 0 ∷ 0 ∷ 1 ∷ 20 ∷ 0 ∷ 0 ∷ 0 ∷ 2 ∷ 30 ∷ 0 ∷ 0 ∷ 0 ∷ 2 ∷ 40 ∷ 0 ∷ 0 ∷ 0
    ∷ 0 ∷ 1 ∷ 0 ∷ 2 ∷ 1 ∷ 3
    ∷ 0 ∷ 0 ∷ 0 ∷ 0 ∷ 30 ∷ 0 ∷ 0 ∷ 0 ∷ a ∷ b ∷ c ∷ d ∷ p ∷ 0 ∷ 0 ∷ 0
    ∷ 30 ∷ 0 ∷ 0 ∷ 0 ∷ 0 ∷ 0 ∷ 0 ∷ 0 ∷ p ∷ 0 ∷ 0 ∷ 0 ∷ a ∷ b ∷ c ∷ d
    ∷ 30 ∷ 0 ∷ 0 ∷ 0 ∷ 30 ∷ 0 ∷ 0 ∷ 0 ∷ 0 ∷ 0 ∷ 0 ∷ 0 ∷ 30 ∷ 0 ∷ 0 ∷ 0
    ∷ 30 ∷ 0 ∷ 0 ∷ 0 ∷ 30 ∷ 0 ∷ 0 ∷ 0 ∷ 30 ∷ 0 ∷ 0 ∷ 0 ∷ 0 ∷ 0 ∷ 0 ∷ 0
    ∷ 1 ∷ 2 ∷ 2 ∷ 3
    ∷ []

-- 65,546 and 100: a reader of two bytes takes 65,546 for 10
abbrev pub wide_cycle : List ℕ
wide_cycle = wide_four 10 0 1 0 100

-- 4,294,967,294 and 0
abbrev pub far_client : List ℕ
far_client = wide_four 254 255 255 255 0

-- "Plans that start RRP2": with 3 for the mark; with the mark of RRP1, whose kind 3 has 2n² bytes; with no way from 2 to itself
unfoldable pub other_mark : List ℕ
other_mark = set wide_ends 3 51

unfoldable pub narrow_mark : List ℕ
narrow_mark = set wide_ends 3 49

unfoldable pub no_way_to_itself : List ℕ
no_way_to_itself = set (set (set (set wide_ends 73 255) 74 255) 75 255) 76 255

-- Misread as RRP1 alone: 1.
abbrev pub wide_is_read : Example
wide_is_read = example wide_ends check_asked (check_is 0)

-- Misread with any mark: 0.
abbrev pub other_mark_is_refused : Example
other_mark_is_refused = example other_mark check_asked (check_is 1)

-- "kind 3 has 4n² bytes". Misread by the length alone, whatever the mark: 0.
abbrev pub length_by_the_mark : Example
length_by_the_mark = example narrow_mark check_asked (check_is 3)

-- "refusal 6 covers 65,535 on the diagonal only", here 4,294,967,295. Misread as allowed anywhere: 0.
abbrev pub wide_diagonal : Example
wide_diagonal = example no_way_to_itself check_asked (check_is 6)

-- "Margins grow to match": 0 and 4,294,967,294. Misread in four bytes with a sign: 2; in two bytes: -65,534.
abbrev pub wide_least : Example
wide_least = example wide_ends (compare_asked 0 0 1) (first_better (neg_ℤ (pos 4294967294)))

abbrev pub wide_greatest : Example
wide_greatest = example wide_ends (compare_asked 0 1 0) (second_better (pos 4294967294))

-- 65,535 is a distance. Misread as no way: no margin.
abbrev pub two_bytes_full_is_a_distance : Example
two_bytes_full_is_a_distance = example wide_ends (compare_asked 0 0 2) (first_better (neg_ℤ (pos 65535)))

-- "4,294,967,295 is no way". Misread as a distance: 4,294,967,288.
abbrev pub wide_no_way : Example
wide_no_way = example wide_ends (compare_asked 1 0 2) second_alone

-- 70,000 and 5,000. Misread by two bytes: First, -536; as a sum of bytes: First.
abbrev pub all_four_bytes : Example
all_four_bytes = example wide_ends (compare_asked 2 0 1) (second_better (pos 65000))

-- 0 is nearer to 3 than to its own client. Misread by two bytes: No.
abbrev pub wide_reliance : Example
wide_reliance = example wide_cycle (relies_asked 0 0 1) (relies_is Yes)

-- so both reflectors rely on each other. Misread by two bytes: stable, highest rank 1.
abbrev pub wide_suspect : Example
wide_suspect =
    example wide_cycle (verdict_asked 0 (replicate 4 255) (replicate 4 255) (replicate 8 255) (replicate 4 255))
    (verdict_is (Suspect 2) (0 ∷ 0 ∷ 2 ∷ 3 ∷ []) (replicate 4 255) (replicate 8 255) (0 ∷ 1 ∷ 255 ∷ 255 ∷ []))

-- the margin of the offer, 0, and the own best client, 4,294,967,294. Misread in 32 bits: 2.
abbrev pub wide_explained : Example
wide_explained = example far_client (explain_asked 0 0 1) (by_better_offer 3 2 (neg_ℤ (pos 4294967294)))

unfoldable pub wide_examples : List Example
wide_examples =
    wide_is_read ∷ other_mark_is_refused ∷ length_by_the_mark ∷ wide_diagonal ∷ wide_least ∷ wide_greatest ∷ two_bytes_full_is_a_distance ∷ wide_no_way
    ∷ all_four_bytes ∷ wide_reliance ∷ wide_suspect ∷ wide_explained ∷ []

-- The calls give each entry's answer.
abbrev pub WideExamplesHold : Type 0
WideExamplesHold = Hold wide_examples
