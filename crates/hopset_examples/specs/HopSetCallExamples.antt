-- Examples that tell the rules of document 02, "Where to load the hop step", from a misreading of them, in literal bytes and numbers. After
-- "Misread" stands the answer that a misreading gives.
use Rattle.std.specs.Prelude.{ℕ, List, [], ◌∷◌, ◌++◌, set, replicate}
use Rattle.plan_examples.specs.Plans.{m3_plan, m3_with_roles, m3_with_nobody}
use Rattle.call_verdict.specs.declared.verdict.VerdictAnswer.TheVariants.{Stable, Suspect}
use Rattle.call_hopset.specs.declared.hop_set.HopSetAnswer.TheVariants.{Refused, Named}
use Rattle.checker_examples.specs.Questions.{verdict_asked, hop_set_asked, verdict_is, hop_set_is, Example, example, Hold}
use Rattle.checker_examples.specs.ParentsExamples.{around}
use Rattle.checker_examples.specs.WideExamples.{wide_cycle}
use Rattle.steady_examples.specs.SteadyCallExamples.{three_in_turn, pairs_and_one, thirteen_in_a_row}

-- `three_in_turn` with 8 for 30 from 2 to 4, in byte 100: 2 relies on 1 too
unfoldable pub three_with_chord : List ℕ
three_with_chord = set three_in_turn 100 8

-- .. and with the step at 0, or at 1, in bytes 26 and 31
unfoldable pub chord_step_at0 : List ℕ
chord_step_at0 = set three_with_chord 26 4

unfoldable pub chord_step_at1 : List ℕ
chord_step_at1 = set three_with_chord 31 4

-- Reflectors 0 and 1 over client 3, and reflector 2 over client 4, in sessions with both. Each is nearer to the other client, at 6, than to its
-- own, at 10. The list is 3,4.
unfoldable pub two_around_one : List ℕ
two_around_one =
    (82 ∷ 82 ∷ 80 ∷ 49 ∷ 5 ∷ 4  -- the letters RRP1, n, the number of contents entries
    ∷ 1 ∷ 26 ∷ 0 ∷ 25 ∷ 0  -- contents: kind, offset, length of the routers
    ∷ 2 ∷ 51 ∷ 0 ∷ 10 ∷ 0  -- .. of the sessions
    ∷ 3 ∷ 61 ∷ 0 ∷ 50 ∷ 0  -- .. of the distances
    ∷ 4 ∷ 111 ∷ 0 ∷ 4 ∷ 0  -- .. of the lists
    ∷ 1 ∷ 10 ∷ 0 ∷ 0 ∷ 0 ∷ 1 ∷ 20 ∷ 0 ∷ 0 ∷ 0 ∷ 1 ∷ 30 ∷ 0 ∷ 0 ∷ 0  -- routers: role, identifier
    ∷ 2 ∷ 40 ∷ 0 ∷ 0 ∷ 0 ∷ 2 ∷ 50 ∷ 0 ∷ 0 ∷ 0
    ∷ 0 ∷ 2 ∷ 0 ∷ 3 ∷ 1 ∷ 2 ∷ 1 ∷ 3 ∷ 2 ∷ 4  -- sessions
    ∷ 0 ∷ 0 ∷ 30 ∷ 0 ∷ 30 ∷ 0 ∷ 10 ∷ 0 ∷ 6 ∷ 0  -- distances from 0
    ∷ 30 ∷ 0 ∷ 0 ∷ 0 ∷ 30 ∷ 0 ∷ 10 ∷ 0 ∷ 6 ∷ 0
    ∷ 30 ∷ 0 ∷ 30 ∷ 0 ∷ 0 ∷ 0 ∷ 6 ∷ 0 ∷ 10 ∷ 0
    ∷ [])
    ++ replicate 20 0  -- .. from the clients
    ++ (1 ∷ 2 ∷ 3 ∷ 4 ∷ [])  -- m; count and numbers of the list

-- Reflectors 0 to 4 in a row, each in a session with the next; client 5 of 0 and 4, client 6 of 1 and 3, client 7 of 2. Neighbours in the row
-- are nearer to each other's client, at 6, than to their own, at 10. 2 has sessions with 0 and 4 too, and is nearer to their client. The
-- list is 5,6,7.
unfoldable pub five_in_a_row : List ℕ
five_in_a_row =
    (82 ∷ 82 ∷ 80 ∷ 49 ∷ 8 ∷ 4
    ∷ 1 ∷ 26 ∷ 0 ∷ 40 ∷ 0
    ∷ 2 ∷ 66 ∷ 0 ∷ 22 ∷ 0
    ∷ 3 ∷ 88 ∷ 0 ∷ 128 ∷ 0
    ∷ 4 ∷ 216 ∷ 0 ∷ 5 ∷ 0
    ∷ 1 ∷ 10 ∷ 0 ∷ 0 ∷ 0 ∷ 1 ∷ 20 ∷ 0 ∷ 0 ∷ 0 ∷ 1 ∷ 30 ∷ 0 ∷ 0 ∷ 0 ∷ 1 ∷ 40 ∷ 0 ∷ 0 ∷ 0 ∷ 1 ∷ 50 ∷ 0 ∷ 0 ∷ 0
    ∷ 2 ∷ 60 ∷ 0 ∷ 0 ∷ 0 ∷ 2 ∷ 70 ∷ 0 ∷ 0 ∷ 0 ∷ 2 ∷ 80 ∷ 0 ∷ 0 ∷ 0
    ∷ 0 ∷ 1 ∷ 0 ∷ 2 ∷ 0 ∷ 5 ∷ 1 ∷ 2 ∷ 1 ∷ 6 ∷ 2 ∷ 3 ∷ 2 ∷ 4 ∷ 2 ∷ 7 ∷ 3 ∷ 4 ∷ 3 ∷ 6 ∷ 4 ∷ 5  -- sessions
    ∷ 0 ∷ 0 ∷ 30 ∷ 0 ∷ 30 ∷ 0 ∷ 30 ∷ 0 ∷ 30 ∷ 0 ∷ 10 ∷ 0 ∷ 6 ∷ 0 ∷ 30 ∷ 0  -- distances from 0
    ∷ 30 ∷ 0 ∷ 0 ∷ 0 ∷ 30 ∷ 0 ∷ 30 ∷ 0 ∷ 30 ∷ 0 ∷ 6 ∷ 0 ∷ 10 ∷ 0 ∷ 6 ∷ 0
    ∷ 30 ∷ 0 ∷ 30 ∷ 0 ∷ 0 ∷ 0 ∷ 30 ∷ 0 ∷ 30 ∷ 0 ∷ 6 ∷ 0 ∷ 6 ∷ 0 ∷ 10 ∷ 0
    ∷ 30 ∷ 0 ∷ 30 ∷ 0 ∷ 30 ∷ 0 ∷ 0 ∷ 0 ∷ 30 ∷ 0 ∷ 6 ∷ 0 ∷ 10 ∷ 0 ∷ 6 ∷ 0
    ∷ 30 ∷ 0 ∷ 30 ∷ 0 ∷ 30 ∷ 0 ∷ 30 ∷ 0 ∷ 0 ∷ 0 ∷ 10 ∷ 0 ∷ 6 ∷ 0 ∷ 30 ∷ 0
    ∷ [])
    ++ replicate 48 0
    ++ (1 ∷ 3 ∷ 5 ∷ 6 ∷ 7 ∷ [])

-- One of two: M3. Misread with the highest number: 2; all of a group: 3.
abbrev pub one_of_two : Example
one_of_two = example m3_plan (hop_set_asked 0) (hop_set_is (Named 1))

-- "once their roles 1 and 3 become 4 and 5": with role 4 for router 0 the list is stable.
abbrev pub then_stable : Example
then_stable =
    example (m3_with_roles 4 1) (verdict_asked 0 (9 ∷ 9 ∷ 9 ∷ 9 ∷ []) (9 ∷ 9 ∷ 9 ∷ 9 ∷ []) (9 ∷ 9 ∷ 9 ∷ 9 ∷ 9 ∷ 9 ∷ 9 ∷ 9 ∷ []) (9 ∷ 9 ∷ 9 ∷ 9 ∷ []))
    (verdict_is (Stable 2) (0 ∷ 1 ∷ 2 ∷ 3 ∷ []) (1 ∷ 2 ∷ 0 ∷ 0 ∷ []) (2 ∷ 2 ∷ 2 ∷ 0 ∷ 2 ∷ 2 ∷ 3 ∷ 3 ∷ []) (9 ∷ 9 ∷ 9 ∷ 9 ∷ []))

-- .. and a router of role 3 may be named, also in a plan of four-byte distances. Misread with role 3 for the step: 0; by the low two bytes
-- of a distance: 0.
abbrev pub of_role3 : Example
of_role3 = example (m3_with_roles 3 1) (hop_set_asked 0) (hop_set_is (Named 1))

abbrev pub wide_one_of_two : Example
wide_one_of_two = example wide_cycle (hop_set_asked 0) (hop_set_is (Named 1))

-- "a stable list gives 0": list 3, list 0, a list of nobody, and list 2,3 where a reflector has the step. Misread with the step that is there
-- forgotten: 1.
abbrev pub none_for_a_client : Example
none_for_a_client = example m3_plan (hop_set_asked 1) (hop_set_is (Named 0))

abbrev pub none_for_a_reflector : Example
none_for_a_reflector = example m3_plan (hop_set_asked 2) (hop_set_is (Named 0))

abbrev pub none_for_nobody : Example
none_for_nobody = example m3_with_nobody (hop_set_asked 1) (hop_set_is (Named 0))

abbrev pub none_with_the_step : Example
none_with_the_step = example (m3_with_roles 4 1) (hop_set_asked 0) (hop_set_is (Named 0))

abbrev pub none_with_the_step_of_role5 : Example
none_with_the_step_of_role5 = example (m3_with_roles 1 5) (hop_set_asked 0) (hop_set_is (Named 0))

-- A cycle of three: any of them serves. Misread with the highest number: 4.
abbrev pub one_of_three : Example
one_of_three = example three_in_turn (hop_set_asked 0) (hop_set_is (Named 1))

-- A cycle of three with a chord: 0 is in the cycle shown, and does not serve alone. Misread with the first router of the cycle shown: 1, and
-- of each cycle shown: 3; with the highest number: 4.
abbrev pub one_with_chord : Example
one_with_chord = example three_with_chord (hop_set_asked 0) (hop_set_is (Named 2))

-- .. so with the step at 0 the list stays suspect, and 1 is still to be named, which is bit 0 then
abbrev pub step_at0_is_not_enough : Example
step_at0_is_not_enough =
    example chord_step_at0 (verdict_asked 0 (replicate 6 9) (replicate 6 9) (replicate 12 9) (replicate 6 9))
    (verdict_is (Suspect 2) (0 ∷ 1 ∷ 1 ∷ 3 ∷ 4 ∷ 5 ∷ []) (replicate 6 9) (replicate 12 9) (1 ∷ 2 ∷ 9 ∷ 9 ∷ 9 ∷ 9 ∷ []))

abbrev pub one_more_after0 : Example
one_more_after0 = example chord_step_at0 (hop_set_asked 0) (hop_set_is (Named 1))

abbrev pub step_at1_is_enough : Example
step_at1_is_enough = example chord_step_at1 (hop_set_asked 0) (hop_set_is (Named 0))

-- Two groups, and router 2 in none, so that bit 2 is that of router 3: "drawn from groups of two or more and given as a number in the bits of
-- Slip 11". Misread by the routers' own numbers: 9; with one group alone: 1; with the highest number: 10.
abbrev pub of_two_groups : Example
of_two_groups = example pairs_and_one (hop_set_asked 1) (hop_set_is (Named 5))

-- "a smallest set", and only then "the lowest number". Misread with the lowest number that serves, or with the first router of each cycle
-- shown: 3.
abbrev pub one_among_three : Example
one_among_three = example two_around_one (hop_set_asked 0) (hop_set_is (Named 4))

-- Where the router that relies on most is no help. Misread with such a router first: 13, a set of three.
abbrev pub two_of_five : Example
two_of_five = example five_in_a_row (hop_set_asked 0) (hop_set_is (Named 10))

-- "Refusal 15 covers this call too, in the same place.": after 8. Misread with 15 missing: some set; with 15 before 8: 15.
abbrev pub thirteen_refused : Example
thirteen_refused = example thirteen_in_a_row (hop_set_asked 0) (hop_set_is (Refused 15))

abbrev pub eight_before_fifteen : Example
eight_before_fifteen = example thirteen_in_a_row (hop_set_asked 1) (hop_set_is (Refused 8))

-- the plan's own rows come first: a client has five parents. Misread by the list asked for: 8.
abbrev pub plan_first : Example
plan_first = example (around 1) (hop_set_asked 7) (hop_set_is (Refused 13))

unfoldable pub hop_set_call_examples : List Example
hop_set_call_examples =
    one_of_two ∷ then_stable ∷ of_role3 ∷ wide_one_of_two ∷ none_for_a_client ∷ none_for_a_reflector ∷ none_for_nobody ∷ none_with_the_step
    ∷ none_with_the_step_of_role5 ∷ one_of_three ∷ one_with_chord ∷ step_at0_is_not_enough ∷ one_more_after0 ∷ step_at1_is_enough ∷ of_two_groups
    ∷ one_among_three ∷ two_of_five ∷ thirteen_refused ∷ eight_before_fifteen ∷ plan_first ∷ []

-- The calls give each entry's answer.
abbrev pub HopSetCallExamplesHold : Type 0
HopSetCallExamplesHold = Hold hop_set_call_examples
