-- Examples that tell what document 02, "Reflectors with the hop step", says of the comparison from a misreading of it, in literal bytes and
-- numbers. After "Misread" stands the answer that a misreading gives.
use Rattle.std.specs.Prelude.{ℕ, true, false, List, [], ◌∷◌, pos, neg_ℤ}
use Rattle.call_compare.specs.declared.compare.CompareAnswer.TheVariants.{Refused}
use Rattle.checker_examples.specs.Questions.{check_asked, compare_told_asked, check_is, compare_is, Example, example, Hold}
use Rattle.checker_examples.specs.TellingExamples.{first_better, second_better, neither_better}
use Rattle.checker_examples.specs.CutOffExamples.{first_alone, second_alone, no_way_to_both}

-- Reflector 0 of the given role with clients 2 and 4, and reflector 1 of role 1 with client 3; the two have a session. From 0 it is 10 to 2
-- and 6 to 3, which 1 passes on, and there is no way to 1; the distance to 4 is given, low byte first. From 1 it is 6 to 2 and 10 to 3,
-- and from client 2 it is 6 to 3 and 10 to 4; every other distance is 30.
unfoldable pub five_routers : (role₀ low high : ℕ) → List ℕ
five_routers role₀ low high =
    82 ∷ 82 ∷ 80 ∷ 49 ∷ 5 ∷ 4  -- the letters RRP1, n, the number of contents entries
    ∷ 1 ∷ 26 ∷ 0 ∷ 25 ∷ 0  -- contents: kind, offset, length of the routers
    ∷ 2 ∷ 51 ∷ 0 ∷ 8 ∷ 0  -- .. of the sessions
    ∷ 3 ∷ 59 ∷ 0 ∷ 50 ∷ 0  -- .. of the distances
    ∷ 4 ∷ 109 ∷ 0 ∷ 5 ∷ 0  -- .. of the lists
    ∷ role₀ ∷ 10 ∷ 0 ∷ 0 ∷ 0  -- router 0: role, identifier
    ∷ 1 ∷ 20 ∷ 0 ∷ 0 ∷ 0
    ∷ 2 ∷ 30 ∷ 0 ∷ 0 ∷ 0 ∷ 2 ∷ 40 ∷ 0 ∷ 0 ∷ 0 ∷ 2 ∷ 50 ∷ 0 ∷ 0 ∷ 0
    ∷ 0 ∷ 1 ∷ 0 ∷ 2 ∷ 0 ∷ 4 ∷ 1 ∷ 3  -- sessions
    ∷ 0 ∷ 0 ∷ 255 ∷ 255 ∷ 10 ∷ 0 ∷ 6 ∷ 0 ∷ low ∷ high  -- distances from 0
    ∷ 30 ∷ 0 ∷ 0 ∷ 0 ∷ 6 ∷ 0 ∷ 10 ∷ 0 ∷ 30 ∷ 0
    ∷ 30 ∷ 0 ∷ 30 ∷ 0 ∷ 0 ∷ 0 ∷ 6 ∷ 0 ∷ 10 ∷ 0
    ∷ 30 ∷ 0 ∷ 30 ∷ 0 ∷ 30 ∷ 0 ∷ 0 ∷ 0 ∷ 30 ∷ 0
    ∷ 30 ∷ 0 ∷ 30 ∷ 0 ∷ 30 ∷ 0 ∷ 30 ∷ 0 ∷ 0 ∷ 0
    ∷ 1 ∷ 3 ∷ 2 ∷ 3 ∷ 4  -- m; count and numbers of the list
    ∷ []

-- from 0 it is 10 to 4, as to 2
abbrev pub with_role : (role₀ : ℕ) → List ℕ
with_role role₀ = five_routers role₀ 10 0

-- there is no way from 0 to 4, nor to 1
abbrev pub cut_step : List ℕ
cut_step = five_routers 4 255 255

-- "Refusal 4 now admits 1 to 5."
abbrev pub role4_is_read : Example
role4_is_read = example (with_role 4) check_asked (check_is 0)

abbrev pub role5_is_read : Example
role5_is_read = example (with_role 5) check_asked (check_is 0)

-- "a route told by its own egress router beats one passed on", "the margin is worked out as before": 10 and 6. Misread by the distance:
-- Second; with a margin to match: First, -4.
abbrev pub told_beats_nearer : Example
told_beats_nearer = example (with_role 4) (compare_told_asked 0 2 true 3 false) (first_better (pos 4))

-- Misread with the flags exchanged: First.
abbrev pub told_as_the_second : Example
told_as_the_second = example (with_role 4) (compare_told_asked 0 3 false 2 true) (second_better (neg_ℤ (pos 4)))

-- "Roles 4 and 5 are roles 1 and 3 with that step". Misread as role 4 alone: Second.
abbrev pub told_at_role5 : Example
told_at_role5 = example (with_role 5) (compare_told_asked 0 2 true 3 false) (first_better (pos 4))

-- .. and at roles 1 and 3 the distance decides. Misread with the step at every reflector: First.
abbrev pub not_at_role1 : Example
not_at_role1 = example (with_role 1) (compare_told_asked 0 2 true 3 false) (second_better (pos 4))

abbrev pub not_at_role3 : Example
not_at_role3 = example (with_role 3) (compare_told_asked 0 2 true 3 false) (second_better (pos 4))

-- .. also beside a reflector that has it: 1 has role 1. Misread as the step of the plan: First.
abbrev pub not_at_the_other : Example
not_at_the_other = example (with_role 4) (compare_told_asked 1 3 true 2 false) (second_better (pos 4))

-- "on reflectors only": client 2 has none. Misread with the step at every router, or by the role of its parent: First.
abbrev pub not_at_a_client : Example
not_at_a_client = example (with_role 4) (compare_told_asked 2 4 true 3 false) (second_better (pos 4))

-- "and only then distance and number count": of two told by their own egress, and of two passed on. Misread as always one of the two by the
-- step: First.
abbrev pub nearer_of_two_told : Example
nearer_of_two_told = example (with_role 4) (compare_told_asked 0 2 true 3 true) (second_better (pos 4))

abbrev pub nearer_of_two_passed_on : Example
nearer_of_two_passed_on = example (with_role 4) (compare_told_asked 0 2 false 3 false) (second_better (pos 4))

-- "and at such a reflector a zero may also mean that the step decided": against the lower number. Misread as the numbers alone: Second.
abbrev pub zero_by_the_step : Example
zero_by_the_step = example (with_role 4) (compare_told_asked 0 4 true 2 false) (first_better (pos 0))

abbrev pub zero_by_the_step_exchanged : Example
zero_by_the_step_exchanged = example (with_role 4) (compare_told_asked 0 2 false 4 true) (second_better (pos 0))

-- .. and it need not: told alike the numbers decide. Misread as always the step: First, or Neither.
abbrev pub zero_by_the_number_at_the_step : Example
zero_by_the_number_at_the_step = example (with_role 4) (compare_told_asked 0 4 false 2 false) (second_better (pos 0))

-- "two routes of one egress are still the same". Misread as two routes: First, and Second of the other.
abbrev pub one_egress_twice : Example
one_egress_twice = example (with_role 4) (compare_told_asked 0 2 true 2 false) neither_better

abbrev pub one_egress_twice_exchanged : Example
one_egress_twice_exchanged = example (with_role 4) (compare_told_asked 0 2 false 2 true) neither_better

-- "A way still beats none": 3 is passed on, and there is no way to 1. Misread with the step before the way: Second, and First of the other.
abbrev pub way_passed_on : Example
way_passed_on = example (with_role 4) (compare_told_asked 0 3 false 1 true) first_alone

abbrev pub way_passed_on_exchanged : Example
way_passed_on_exchanged = example (with_role 4) (compare_told_asked 0 1 true 3 false) second_alone

-- .. "and of two without a way neither is better". Misread by the step: First.
abbrev pub no_way_told_by_its_egress : Example
no_way_told_by_its_egress = example cut_step (compare_told_asked 0 4 true 1 false) no_way_to_both

-- "beside a refusal number every other returned field is zero or no": there is no router 5. Misread without that check: First.
abbrev pub refused_at_the_step : Example
refused_at_the_step = example (with_role 4) (compare_told_asked 0 2 true 5 false) (compare_is (Refused 8) 0 false (pos 0))

unfoldable pub hop_compare_examples : List Example
hop_compare_examples =
    role4_is_read ∷ role5_is_read ∷ told_beats_nearer ∷ told_as_the_second ∷ told_at_role5 ∷ not_at_role1 ∷ not_at_role3 ∷ not_at_the_other ∷ not_at_a_client
    ∷ nearer_of_two_told ∷ nearer_of_two_passed_on ∷ zero_by_the_step ∷ zero_by_the_step_exchanged ∷ zero_by_the_number_at_the_step ∷ one_egress_twice
    ∷ one_egress_twice_exchanged ∷ way_passed_on ∷ way_passed_on_exchanged ∷ no_way_told_by_its_egress ∷ refused_at_the_step ∷ []

-- The calls give each entry's answer.
abbrev pub HopCompareExamplesHold : Type 0
HopCompareExamplesHold = Hold hop_compare_examples
