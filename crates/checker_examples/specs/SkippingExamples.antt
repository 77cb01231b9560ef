-- Examples that tell the rules of document 02, "Reflectors that skip their own clients", from a misreading of them, in literal bytes and
-- numbers. After "Misread" stands the answer that a misreading gives.
use Rattle.std.specs.Prelude.{ℕ, false, List, [], ◌∷◌}
use Rattle.call_query.specs.declared.relies.ReliesAnswer.TheVariants.{Yes, No}
use Rattle.call_verdict.specs.declared.verdict.VerdictAnswer.TheVariants.{Stable, Suspect}
use Rattle.checker_examples.specs.Questions.{Question, check_asked, relies_asked, verdict_asked, activate_asked, run_asked}
use Rattle.checker_examples.specs.Questions.{Answer, check_is, relies_is, verdict_is, activate_is, run_is, Example, example, Hold}

-- Routers 0 and 1 of the given roles, 0 with clients 2, 3 and 4, and 1 with client 5; the two have a session, and so have clients 3 and 4.
-- Client 2 is in no mesh. The lists are 3 and 5 and 0, then 0,5 and 3,5 and 2,3.
unfoldable pub two_sites : (role₀ role₁ : ℕ) → List ℕ
two_sites role₀ role₁ =
    82 ∷ 82 ∷ 80 ∷ 49 ∷ 6 ∷ 4  -- the letters RRP1, n, the number of contents entries
    ∷ 1 ∷ 26 ∷ 0 ∷ 30 ∷ 0  -- contents: kind, offset, length of the routers
    ∷ 2 ∷ 56 ∷ 0 ∷ 12 ∷ 0  -- .. of the sessions
    ∷ 3 ∷ 68 ∷ 0 ∷ 72 ∷ 0  -- .. of the distances
    ∷ 4 ∷ 140 ∷ 0 ∷ 16 ∷ 0  -- .. of the lists
    ∷ role₀ ∷ 10 ∷ 0 ∷ 0 ∷ 0  -- router 0: role, identifier
    ∷ role₁ ∷ 20 ∷ 0 ∷ 0 ∷ 0
    ∷ 2 ∷ 30 ∷ 0 ∷ 0 ∷ 0 ∷ 2 ∷ 40 ∷ 0 ∷ 0 ∷ 0 ∷ 2 ∷ 50 ∷ 0 ∷ 0 ∷ 0 ∷ 2 ∷ 60 ∷ 0 ∷ 0 ∷ 0
    ∷ 0 ∷ 1 ∷ 0 ∷ 2 ∷ 0 ∷ 3 ∷ 0 ∷ 4 ∷ 1 ∷ 5 ∷ 3 ∷ 4  -- sessions
    ∷ 0 ∷ 0 ∷ 30 ∷ 0 ∷ 5 ∷ 0 ∷ 10 ∷ 0 ∷ 30 ∷ 0 ∷ 6 ∷ 0  -- distances from 0
    ∷ 4 ∷ 0 ∷ 0 ∷ 0 ∷ 30 ∷ 0 ∷ 6 ∷ 0 ∷ 30 ∷ 0 ∷ 10 ∷ 0  -- .. from 1
    ∷ 30 ∷ 0 ∷ 30 ∷ 0 ∷ 0 ∷ 0 ∷ 30 ∷ 0 ∷ 30 ∷ 0 ∷ 30 ∷ 0
    ∷ 30 ∷ 0 ∷ 30 ∷ 0 ∷ 30 ∷ 0 ∷ 0 ∷ 0 ∷ 30 ∷ 0 ∷ 30 ∷ 0
    ∷ 30 ∷ 0 ∷ 30 ∷ 0 ∷ 30 ∷ 0 ∷ 30 ∷ 0 ∷ 0 ∷ 0 ∷ 30 ∷ 0
    ∷ 30 ∷ 0 ∷ 30 ∷ 0 ∷ 30 ∷ 0 ∷ 30 ∷ 0 ∷ 30 ∷ 0 ∷ 0 ∷ 0
    ∷ 6 ∷ 1 ∷ 3 ∷ 1 ∷ 5 ∷ 1 ∷ 0 ∷ 2 ∷ 0 ∷ 5 ∷ 2 ∷ 3 ∷ 5 ∷ 2 ∷ 2 ∷ 3  -- m; count and numbers of each list
    ∷ []

-- with role 3 for router 0, and for both
unfoldable pub skipping : List ℕ
skipping = two_sites 3 1

unfoldable pub both_skipping : List ℕ
both_skipping = two_sites 3 3

-- six bytes as they are lent, and twelve
abbrev pub lent6 : List ℕ
lent6 = 255 ∷ 255 ∷ 255 ∷ 255 ∷ 255 ∷ 255 ∷ []

abbrev pub lent12 : List ℕ
lent12 = 255 ∷ 255 ∷ 255 ∷ 255 ∷ 255 ∷ 255 ∷ 255 ∷ 255 ∷ 255 ∷ 255 ∷ 255 ∷ 255 ∷ []

-- the verdict of list k, with as many bytes lent as the call needs, all 255
abbrev pub verdict_on_six : (k : ℕ) → Question
verdict_on_six k = verdict_asked k lent6 lent6 lent12 lent6

-- a stable verdict: each router is its own group, and the cycle's bytes are as they were
abbrev pub stable_six : (highest : ℕ) (ranks settled : List ℕ) → Answer
stable_six highest ranks settled = verdict_is (Stable highest) (0 ∷ 1 ∷ 2 ∷ 3 ∷ 4 ∷ 5 ∷ []) ranks settled lent6

-- "Refusal 4 now admits 1 to 3.", and "1 to 5" since the hop step. Misread as admitting 1 and 2 alone: 4; as admitting 6: 0.
abbrev pub role3_is_read : Example
role3_is_read = example skipping check_asked (check_is 0)

abbrev pub role6_is_refused : Example
role6_is_refused = example (two_sites 6 1) check_asked (check_is 4)

-- "what it hears from a client it announces to reflectors only": 3 is listed, 1 holds 3 from 0, and 5 from 1. "A client with no mesh
-- around it may end with nothing; its entry in the settled table is then 255 255": that of 2. The mesh brings 4 the route from 3. Misread
-- with role 3 telling its clients: 2 holds 3 from 0. Misread with role 3 telling reflectors nothing: 1 and 5 hold nothing.
abbrev pub ends_with_nothing : Example
ends_with_nothing =
    example skipping (verdict_on_six 0)
    (stable_six 3 (1 ∷ 2 ∷ 2 ∷ 0 ∷ 2 ∷ 3 ∷ []) (3 ∷ 3 ∷ 3 ∷ 0 ∷ 255 ∷ 255 ∷ 3 ∷ 3 ∷ 3 ∷ 3 ∷ 3 ∷ 1 ∷ []))

-- .. and with role 1 instead: the ranks are the same, and 2 holds 3 from 0. Misread with every reflector as role 3: 255 255.
abbrev pub role1_tells_its_clients : Example
role1_tells_its_clients =
    example (two_sites 1 1) (verdict_on_six 0)
    (stable_six 3 (1 ∷ 2 ∷ 2 ∷ 0 ∷ 2 ∷ 3 ∷ []) (3 ∷ 3 ∷ 3 ∷ 0 ∷ 3 ∷ 0 ∷ 3 ∷ 3 ∷ 3 ∷ 3 ∷ 3 ∷ 1 ∷ []))

-- "It is otherwise a reflector in every rule": 5 is listed, 0 has its route from reflector 1 and announces it to its clients. Misread with
-- clients skipped whoever told it: 2, 3 and 4 hold nothing.
abbrev pub told_by_a_reflector : Example
told_by_a_reflector =
    example skipping (verdict_on_six 1)
    (stable_six 3 (2 ∷ 1 ∷ 3 ∷ 3 ∷ 3 ∷ 0 ∷ []) (5 ∷ 1 ∷ 5 ∷ 5 ∷ 5 ∷ 0 ∷ 5 ∷ 0 ∷ 5 ∷ 0 ∷ 5 ∷ 5 ∷ []))

-- .. and if 0 itself is listed, it "announces it to every neighbour". Misread as to reflectors only: 2, 3 and 4 hold nothing.
abbrev pub listed_itself : Example
listed_itself =
    example skipping (verdict_on_six 2)
    (stable_six 2 (0 ∷ 1 ∷ 1 ∷ 1 ∷ 1 ∷ 2 ∷ []) (0 ∷ 0 ∷ 0 ∷ 0 ∷ 0 ∷ 0 ∷ 0 ∷ 0 ∷ 0 ∷ 0 ∷ 0 ∷ 1 ∷ []))

-- .. and two reflectors of which each is offered a better client rely on one another. Misread with role 3 as a client, or offering nothing:
-- stable.
abbrev pub cycle_through_role3 : Example
cycle_through_role3 =
    example skipping (verdict_on_six 4)
    (verdict_is (Suspect 2) (0 ∷ 0 ∷ 2 ∷ 3 ∷ 4 ∷ 5 ∷ []) lent6 lent12 (0 ∷ 1 ∷ 255 ∷ 255 ∷ 255 ∷ 255 ∷ []))

-- "and rule 2 of the reliances is unchanged for its clients": 2 relies on 0, which tells it nothing. Misread with role 3 as a client: No.
abbrev pub rule2_on_role3 : Example
rule2_on_role3 = example skipping (relies_asked 0 2 0) (relies_is Yes)

-- Rule 3: 0 is a neighbouring reflector of 1, and listed it offers itself. Misread with role 3 not among the reflectors: No.
abbrev pub rule3_on_role3 : Example
rule3_on_role3 = example skipping (relies_asked 2 1 0) (relies_is Yes)

-- Rule 3 is that of 0 too: 3 is not its best client, 2 is. Misread by rule 2: Yes.
abbrev pub rule3_of_role3 : Example
rule3_of_role3 = example skipping (relies_asked 5 0 3) (relies_is No)

-- "an unlisted one offers its best client": 0 offers 3, and 1 has no best client. Misread with no offer of role 3: No.
abbrev pub offer_of_role3 : Example
offer_of_role3 = example skipping (relies_asked 0 1 0) (relies_is Yes)

-- "the best .. of the listed clients": that of 1 is 5, though 0 is listed and nearer. Misread with role 3 as a client: No.
abbrev pub role3_is_no_best_client : Example
role3_is_no_best_client = example skipping (relies_asked 3 1 5) (relies_is Yes)

-- "what it hears from a client": the sender decides, also of a left-over entry. 0 holds 1 from client 2, and client 3 acts. Misread by the
-- egress, a reflector: 3 holds 1 from 0.
abbrev pub left_over_from_a_client : Example
left_over_from_a_client =
    example skipping (activate_asked 1 3 (1 ∷ 2 ∷ 255 ∷ 255 ∷ 255 ∷ 255 ∷ 1 ∷ 0 ∷ 255 ∷ 255 ∷ 5 ∷ 5 ∷ []))
    (activate_is 0 (1 ∷ 2 ∷ 255 ∷ 255 ∷ 255 ∷ 255 ∷ 255 ∷ 255 ∷ 255 ∷ 255 ∷ 5 ∷ 5 ∷ []))

-- .. and 0 holds 3 from client 3, and reflector 1 acts, to which 3 is nearer than its own client 5. Misread with role 3 telling
-- reflectors nothing: 1 holds 5 from 5.
abbrev pub left_over_to_a_reflector : Example
left_over_to_a_reflector =
    example skipping (activate_asked 1 1 (3 ∷ 3 ∷ 255 ∷ 255 ∷ 255 ∷ 255 ∷ 255 ∷ 255 ∷ 255 ∷ 255 ∷ 5 ∷ 5 ∷ []))
    (activate_is 0 (3 ∷ 3 ∷ 3 ∷ 0 ∷ 255 ∷ 255 ∷ 255 ∷ 255 ∷ 255 ∷ 255 ∷ 5 ∷ 5 ∷ []))

-- .. and 0 holds 3 from reflector 1, and client 2 acts. Misread by the egress, a client: 2 holds nothing.
abbrev pub left_over_from_a_reflector : Example
left_over_from_a_reflector =
    example skipping (activate_asked 1 2 (3 ∷ 1 ∷ 255 ∷ 255 ∷ 255 ∷ 255 ∷ 255 ∷ 255 ∷ 255 ∷ 255 ∷ 5 ∷ 5 ∷ []))
    (activate_is 0 (3 ∷ 1 ∷ 255 ∷ 255 ∷ 3 ∷ 0 ∷ 255 ∷ 255 ∷ 255 ∷ 255 ∷ 5 ∷ 5 ∷ []))

-- .. and 1 has role 3 too: "to reflectors only" is to those of every role. Misread as to role 1 alone: 1 holds 5 from 5.
abbrev pub role3_to_role3 : Example
role3_to_role3 =
    example both_skipping (activate_asked 1 1 (3 ∷ 3 ∷ 255 ∷ 255 ∷ 255 ∷ 255 ∷ 255 ∷ 255 ∷ 255 ∷ 255 ∷ 5 ∷ 5 ∷ []))
    (activate_is 0 (3 ∷ 3 ∷ 3 ∷ 0 ∷ 255 ∷ 255 ∷ 255 ∷ 255 ∷ 255 ∷ 255 ∷ 5 ∷ 5 ∷ []))

-- .. and in the settled table, where 5 has 3 from 1, which has it from a reflector. Misread as to role 1 alone: 1 and 5 hold nothing.
abbrev pub both_of_role3 : Example
both_of_role3 =
    example both_skipping (verdict_on_six 0)
    (stable_six 3 (1 ∷ 2 ∷ 2 ∷ 0 ∷ 2 ∷ 3 ∷ []) (3 ∷ 3 ∷ 3 ∷ 0 ∷ 255 ∷ 255 ∷ 3 ∷ 3 ∷ 3 ∷ 3 ∷ 3 ∷ 1 ∷ []))

-- "plans with role 3 settle in the same count of rounds": the highest rank is 3, and five rounds flush what was left over from role 1.
-- Misread with role 3 telling its clients: 2 holds 3 from 0.
abbrev pub left_over_is_flushed : Example
left_over_is_flushed =
    example skipping
    (run_asked 0
    (5 ∷ 4 ∷ 3 ∷ 2 ∷ 1 ∷ 0 ∷ 0 ∷ 1 ∷ 2 ∷ 3 ∷ 4 ∷ 5 ∷ 5 ∷ 4 ∷ 3 ∷ 2 ∷ 1 ∷ 0 ∷ 0 ∷ 1 ∷ 2 ∷ 3 ∷ 4 ∷ 5 ∷ 5 ∷ 4 ∷ 3 ∷ 2 ∷ 1 ∷ 0 ∷ [])
    30
    (2 ∷ 2 ∷ 2 ∷ 0 ∷ 3 ∷ 0 ∷ 3 ∷ 3 ∷ 2 ∷ 0 ∷ 2 ∷ 1 ∷ []))
    (run_is 0 30 5 false (3 ∷ 3 ∷ 3 ∷ 0 ∷ 255 ∷ 255 ∷ 3 ∷ 3 ∷ 3 ∷ 3 ∷ 3 ∷ 1 ∷ []))

unfoldable pub skipping_examples : List Example
skipping_examples =
    role3_is_read ∷ role6_is_refused ∷ ends_with_nothing ∷ role1_tells_its_clients ∷ told_by_a_reflector ∷ listed_itself ∷ cycle_through_role3
    ∷ rule2_on_role3 ∷ rule3_on_role3 ∷ rule3_of_role3 ∷ offer_of_role3 ∷ role3_is_no_best_client ∷ left_over_from_a_client ∷ left_over_to_a_reflector
    ∷ left_over_from_a_reflector ∷ role3_to_role3 ∷ both_of_role3 ∷ left_over_is_flushed ∷ []

-- The calls give each entry's answer.
abbrev pub SkippingExamplesHold : Type 0
SkippingExamplesHold = Hold skipping_examples
