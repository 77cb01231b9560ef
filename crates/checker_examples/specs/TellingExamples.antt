-- Examples that tell a rule of document 01 from a misreading of it, in literal bytes and numbers. Beside each stand the sentence
-- that it pins, and after "Misread" the answer that a misreading gives.
use Rattle.std.specs.Prelude.{ℕ, true, false, List, [], ◌∷◌, ◌++◌, replicate, ℤ, pos, neg_ℤ, Some}
use Rattle.plan_examples.specs.Plans.{first_of_twelve}
use Rattle.call_compare.specs.declared.compare.Preferred.TheVariants.{First, Second, Neither}
use Rattle.call_compare.specs.declared.compare.CompareAnswer.TheVariants.{Compared}
use Rattle.call_query.specs.declared.relies.ReliesAnswer.TheVariants.{Yes, No}
use Rattle.call_verdict.specs.declared.verdict.VerdictAnswer.TheVariants.{Suspect}
use Rattle.checker_examples.specs.Questions.{check_asked, size_asked, list_asked, compare_asked, relies_asked}
use Rattle.checker_examples.specs.Questions.{verdict_asked, activate_asked, run_asked}
use Rattle.checker_examples.specs.Questions.{check_is, size_is, list_is, compare_is, relies_is, verdict_is, activate_is, run_is}
use Rattle.checker_examples.specs.Questions.{Answer, Example, example, Hold}

-- Six routers, reflectors 0, 1, 2 and clients 3, 4, 5, with the given body of kind 1.
unfoldable pub six_routers : (routers : List ℕ) → List ℕ
six_routers routers =
    (82 ∷ 82 ∷ 80 ∷ 49 ∷ 6 ∷ 4  -- the letters RRP1, n, the number of contents entries
    ∷ 1 ∷ 26 ∷ 0 ∷ 30 ∷ 0  -- contents: kind, offset, length of the routers
    ∷ 2 ∷ 56 ∷ 0 ∷ 16 ∷ 0  -- .. of the sessions
    ∷ 3 ∷ 72 ∷ 0 ∷ 72 ∷ 0  -- .. of the distances
    ∷ 4 ∷ 144 ∷ 0 ∷ 14 ∷ 0  -- .. of the lists
    ∷ [])
    ++ routers
    ++ (0 ∷ 1 ∷ 0 ∷ 2 ∷ 0 ∷ 3 ∷ 1 ∷ 2 ∷ 1 ∷ 4 ∷ 1 ∷ 5 ∷ 2 ∷ 4 ∷ 3 ∷ 5  -- sessions
    ∷ 0 ∷ 0 ∷ 30 ∷ 0 ∷ 30 ∷ 0 ∷ 19 ∷ 0 ∷ 11 ∷ 0 ∷ 2 ∷ 1  -- distances from 0: that to 5 is 258
    ∷ 30 ∷ 0 ∷ 0 ∷ 0 ∷ 30 ∷ 0 ∷ 20 ∷ 0 ∷ 20 ∷ 0 ∷ 10 ∷ 0  -- .. from 1
    ∷ 30 ∷ 0 ∷ 30 ∷ 0 ∷ 0 ∷ 0 ∷ 7 ∷ 0 ∷ 9 ∷ 0 ∷ 30 ∷ 0  -- .. from 2
    ∷ 30 ∷ 0 ∷ 30 ∷ 0 ∷ 30 ∷ 0 ∷ 0 ∷ 0 ∷ 30 ∷ 0 ∷ 30 ∷ 0  -- .. from 3
    ∷ 30 ∷ 0 ∷ 30 ∷ 0 ∷ 30 ∷ 0 ∷ 30 ∷ 0 ∷ 0 ∷ 0 ∷ 30 ∷ 0  -- .. from 4
    ∷ 30 ∷ 0 ∷ 30 ∷ 0 ∷ 30 ∷ 0 ∷ 30 ∷ 0 ∷ 30 ∷ 0 ∷ 0 ∷ 0  -- .. from 5
    ∷ 4  -- m
    ∷ 2 ∷ 3 ∷ 4  -- list 0: count, numbers
    ∷ 3 ∷ 3 ∷ 4 ∷ 5  -- list 1
    ∷ 3 ∷ 1 ∷ 3 ∷ 4  -- list 2
    ∷ 1 ∷ 4  -- list 3
    ∷ [])

-- role and identifier of each: the identifiers rise, and by their low two bytes they fall
unfoldable pub six : List ℕ
six =
    six_routers
    (1 ∷ 9 ∷ 0 ∷ 0 ∷ 0
    ∷ 1 ∷ 8 ∷ 0 ∷ 1 ∷ 0
    ∷ 1 ∷ 7 ∷ 0 ∷ 2 ∷ 0
    ∷ 2 ∷ 6 ∷ 0 ∷ 3 ∷ 0
    ∷ 2 ∷ 5 ∷ 0 ∷ 4 ∷ 0
    ∷ 2 ∷ 4 ∷ 0 ∷ 0 ∷ 1
    ∷ [])

-- other identifiers: the first is the highest, and by their low two bytes they rise
unfoldable pub six_falling : List ℕ
six_falling =
    six_routers
    (1 ∷ 4 ∷ 0 ∷ 1 ∷ 0
    ∷ 1 ∷ 5 ∷ 0 ∷ 0 ∷ 0
    ∷ 1 ∷ 6 ∷ 0 ∷ 0 ∷ 0
    ∷ 2 ∷ 7 ∷ 0 ∷ 0 ∷ 0
    ∷ 2 ∷ 8 ∷ 0 ∷ 0 ∷ 0
    ∷ 2 ∷ 9 ∷ 0 ∷ 0 ∷ 0
    ∷ [])

-- Twelve clients, no session, every distance 0.
unfoldable pub twelve : List ℕ
twelve =
    first_of_twelve
    ++ (2 ∷ 1 ∷ 0 ∷ 0 ∷ 0 ∷ 2 ∷ 2 ∷ 0 ∷ 0 ∷ 0 ∷ 2 ∷ 3 ∷ 0 ∷ 0 ∷ 0 ∷ 2 ∷ 4 ∷ 0 ∷ 0 ∷ 0
    ∷ 2 ∷ 5 ∷ 0 ∷ 0 ∷ 0 ∷ 2 ∷ 6 ∷ 0 ∷ 0 ∷ 0 ∷ 2 ∷ 7 ∷ 0 ∷ 0 ∷ 0 ∷ 2 ∷ 8 ∷ 0 ∷ 0 ∷ 0
    ∷ 2 ∷ 9 ∷ 0 ∷ 0 ∷ 0 ∷ 2 ∷ 10 ∷ 0 ∷ 0 ∷ 0 ∷ 2 ∷ 11 ∷ 0 ∷ 0 ∷ 0 ∷ 2 ∷ 12 ∷ 0 ∷ 0 ∷ 0
    ∷ [])
    ++ replicate 288 0
    ++ (1 ∷ 1 ∷ 11 ∷ [])

-- a comparison that is not refused: the answer, and by number which is better, that there is a margin, and which
abbrev pub first_better : (margin : ℤ) → Answer
first_better margin = compare_is (Compared First (Some margin)) 1 true margin

abbrev pub second_better : (margin : ℤ) → Answer
second_better margin = compare_is (Compared Second (Some margin)) 2 true margin

abbrev pub neither_better : Answer
neither_better = compare_is (Compared Neither (Some (pos 0))) 0 true (pos 0)

-- "a 4-byte identifier, low byte first. Identifiers rise strictly". Misread by two bytes: 4, and 0 of the other.
abbrev pub identifiers_rise : Example
identifiers_rise = example six check_asked (check_is 0)

abbrev pub identifiers_fall : Example
identifiers_fall = example six_falling check_asked (check_is 4)

-- "n, the number of routers", "one byte m .. then m lists". Misread with the two exchanged: 4 6.
abbrev pub size_of_six : Example
size_of_six = example six size_asked (size_is 0 6 4)

-- "kind (1 byte), offset (2), length (2)", "the low byte first". Misread by the low byte of an offset or a length: 3, empty.
abbrev pub contents_above255 : Example
contents_above255 = example twelve (list_asked 0) (list_is 0 376 (11 ∷ []))

-- "the list asked for is m or more": of four lists, 3 is handed back and 4 is not. Misread at m - 1: 8, empty.
abbrev pub last_list : Example
last_list = example six (list_asked 3) (list_is 0 157 (4 ∷ []))

-- Misread at m + 1: 0, and an empty part at 159.
abbrev pub list_at_m : Example
list_at_m = example six (list_asked 4) (list_is 8 0 [])

-- "a router asked for .. is n or more": of six routers, 5 is one. Its distances are all equal, and 0 is lower than 1.
-- Misread at n - 1: Refused 8.
abbrev pub last_router : Example
last_router = example six (compare_asked 5 1 0) (second_better (pos 0))

-- "row u, column e is the distance from u to e", two bytes: 258 and 11. Misread by the low byte, 2 and 11: First, -9.
abbrev pub distance_of_two_bytes : Example
distance_of_two_bytes = example six (compare_asked 0 5 4) (second_better (pos 247))

-- "(the first is better, the second, or neither if they are the same)": 10 and 20. Misread with the two exchanged: Second, 10.
abbrev pub first_is_better : Example
first_is_better = example six (compare_asked 1 5 4) (first_better (neg_ℤ (pos 10)))

-- .. and of a router with itself. Misread as one of the two: Second.
abbrev pub same_router_twice : Example
same_router_twice = example six (compare_asked 1 5 5) neither_better

-- "Scaling distances": 19 and 11. Misread in tens, they are equal and 3 is the lower number: First, 0.
abbrev pub distances_as_they_are : Example
distances_as_they_are = example six (compare_asked 0 3 4) (second_better (pos 8))

-- "taking a tie for no reliance": to 1 the offer 3 is as far as its own client 4, and lower. Misread: No.
abbrev pub tie_is_reliance : Example
tie_is_reliance = example six (relies_asked 0 1 0) (relies_is Yes)

-- "Judging a reflector's best client by the listener's distances": 1 offers 5, nearer to it than 4 and farther from 0 than the
-- client 3 of 0. Misread, it offers 4, nearer to 0: Yes.
abbrev pub offer_by_its_own_distances : Example
offer_by_its_own_distances = example six (relies_asked 1 0 1) (relies_is No)

-- "Letting a reflector tell a reflector what a third one told it": 1 holds 4 from 2, and 0 acts. Misread: 0 holds 4 from 1.
abbrev pub not_from_a_third : Example
not_from_a_third =
    example six (activate_asked 3 0 (4 ∷ 1 ∷ 4 ∷ 2 ∷ 255 ∷ 255 ∷ 255 ∷ 255 ∷ 4 ∷ 4 ∷ 255 ∷ 255 ∷ []))
    (activate_is 0 (255 ∷ 255 ∷ 4 ∷ 2 ∷ 255 ∷ 255 ∷ 255 ∷ 255 ∷ 4 ∷ 4 ∷ 255 ∷ 255 ∷ []))

-- "Counting a client shared by two reflectors as better than itself": 1 and 2 share 4. Misread: Yes.
abbrev pub shared_client_is_not_better : Example
shared_client_is_not_better = example six (relies_asked 0 1 2) (relies_is No)

-- "Letting a listed reflector offer its client": 1 is farther from 0 than the client 3 of 0, and the client 4 of 1 is nearer.
-- Misread: Yes.
abbrev pub listed_reflector_offers_itself : Example
listed_reflector_offers_itself = example six (relies_asked 2 0 1) (relies_is No)

-- "An unlisted client relies on each neighbouring reflector and on each neighbouring listed client." Misread without the
-- clients: No.
abbrev pub relies_on_a_listed_client : Example
relies_on_a_listed_client = example six (relies_asked 0 5 3) (relies_is Yes)

-- "one heard from a client to all neighbours but that client": 1 holds 4 from 5, and 5 acts. Misread: 5 holds 4 from 1.
abbrev pub not_back_to_its_client : Example
not_back_to_its_client =
    example six (activate_asked 3 5 (255 ∷ 255 ∷ 4 ∷ 5 ∷ 255 ∷ 255 ∷ 255 ∷ 255 ∷ 4 ∷ 4 ∷ 4 ∷ 3 ∷ []))
    (activate_is 0 (255 ∷ 255 ∷ 4 ∷ 5 ∷ 255 ∷ 255 ∷ 255 ∷ 255 ∷ 4 ∷ 4 ∷ 255 ∷ 255 ∷ []))

-- .. and 0 acts, a reflector. Misread as told to clients only: 0 holds nothing.
abbrev pub to_a_reflector_too : Example
to_a_reflector_too =
    example six (activate_asked 3 0 (255 ∷ 255 ∷ 4 ∷ 5 ∷ 255 ∷ 255 ∷ 255 ∷ 255 ∷ 4 ∷ 4 ∷ 255 ∷ 255 ∷ []))
    (activate_is 0 (4 ∷ 1 ∷ 4 ∷ 5 ∷ 255 ∷ 255 ∷ 255 ∷ 255 ∷ 4 ∷ 4 ∷ 255 ∷ 255 ∷ []))

-- "two bytes a router, egress and sender", ".. else the lowest number": 1 and 2 hold 4 from 4, and 0 acts. Misread with the two
-- bytes exchanged: 1 4.
abbrev pub egress_then_sender : Example
egress_then_sender =
    example six (activate_asked 3 0 (255 ∷ 255 ∷ 4 ∷ 4 ∷ 4 ∷ 4 ∷ 255 ∷ 255 ∷ 4 ∷ 4 ∷ 255 ∷ 255 ∷ []))
    (activate_is 0 (4 ∷ 1 ∷ 4 ∷ 4 ∷ 4 ∷ 4 ∷ 255 ∷ 255 ∷ 4 ∷ 4 ∷ 255 ∷ 255 ∷ []))

-- "an egress below n with a neighbour as sender": 0 holds 4 from 5, not a neighbour, and 1 acts. Misread with any router as
-- sender: 0, and 1 holds 4 from 4.
abbrev pub stranger_as_sender : Example
stranger_as_sender =
    example six (activate_asked 3 1 (4 ∷ 5 ∷ 255 ∷ 255 ∷ 255 ∷ 255 ∷ 255 ∷ 255 ∷ 4 ∷ 4 ∷ 255 ∷ 255 ∷ []))
    (activate_is 10 (4 ∷ 5 ∷ 255 ∷ 255 ∷ 255 ∷ 255 ∷ 255 ∷ 255 ∷ 4 ∷ 4 ∷ 255 ∷ 255 ∷ []))

-- "a router asked for .. is n or more": of six routers, 6 is none. Misread at n + 1: 0, and 255 255 after the table.
abbrev pub router_at_n : Example
router_at_n =
    example six (activate_asked 3 6 (255 ∷ 255 ∷ 4 ∷ 4 ∷ 255 ∷ 255 ∷ 255 ∷ 255 ∷ 4 ∷ 4 ∷ 255 ∷ 255 ∷ 9 ∷ 9 ∷ []))
    (activate_is 8 (255 ∷ 255 ∷ 4 ∷ 4 ∷ 255 ∷ 255 ∷ 255 ∷ 255 ∷ 4 ∷ 4 ∷ 255 ∷ 255 ∷ 9 ∷ 9 ∷ []))

-- no router holds a route but 4, the only one of list 3
abbrev pub others_hold_nothing : List ℕ
others_hold_nothing = 255 ∷ 255 ∷ 255 ∷ 255 ∷ 255 ∷ 255 ∷ 255 ∷ 255 ∷ 4 ∷ 4 ∷ 255 ∷ 255 ∷ []

-- "the acts applied (the smaller of limit and sequence length), the whole rounds in them, and 'spent' exactly if the sequence is
-- longer than the limit": five of six acts. Misread over the whole sequence: 6 acts, 1 round. Exhausted never said: false.
abbrev pub limit_below_the_length : Example
limit_below_the_length =
    example six (run_asked 3 (3 ∷ 0 ∷ 2 ∷ 1 ∷ 5 ∷ 4 ∷ []) 5 others_hold_nothing)
    (run_is 0 5 0 true (255 ∷ 255 ∷ 4 ∷ 4 ∷ 4 ∷ 4 ∷ 255 ∷ 255 ∷ 4 ∷ 4 ∷ 4 ∷ 1 ∷ []))

-- .. "since the round before ended": seven acts, the last of them in a round of its own. Misread by the limit: 9 acts. Misread
-- since the start: 2 rounds.
abbrev pub limit_above_the_length : Example
limit_above_the_length =
    example six (run_asked 3 (3 ∷ 0 ∷ 2 ∷ 1 ∷ 5 ∷ 4 ∷ 0 ∷ []) 9 others_hold_nothing)
    (run_is 0 7 1 false (4 ∷ 1 ∷ 4 ∷ 4 ∷ 4 ∷ 4 ∷ 255 ∷ 255 ∷ 4 ∷ 4 ∷ 4 ∷ 1 ∷ []))

-- bytes lent for a verdict, in each buffer one more than it needs
abbrev pub seven : List ℕ
seven = 9 ∷ 9 ∷ 9 ∷ 9 ∷ 9 ∷ 9 ∷ 9 ∷ []

abbrev pub thirteen : List ℕ
thirteen = 9 ∷ 9 ∷ 9 ∷ 9 ∷ 9 ∷ 9 ∷ 9 ∷ 9 ∷ 9 ∷ 9 ∷ 9 ∷ 9 ∷ 9 ∷ []

-- "going always to the lowest router relied on in that group": 0 relies on 1 and on 2, and each of them on 0. Misread as the
-- highest: 0 2.
abbrev pub cycle_by_the_lowest : Example
cycle_by_the_lowest =
    example six (verdict_asked 0 seven seven thirteen seven)
    (verdict_is (Suspect 2) (0 ∷ 0 ∷ 0 ∷ 3 ∷ 4 ∷ 5 ∷ 9 ∷ []) seven thirteen (0 ∷ 1 ∷ 9 ∷ 9 ∷ 9 ∷ 9 ∷ 9 ∷ []))

unfoldable pub telling_examples : List Example
telling_examples =
    identifiers_rise ∷ identifiers_fall ∷ size_of_six ∷ contents_above255 ∷ last_list ∷ list_at_m ∷ last_router ∷ distance_of_two_bytes
    ∷ first_is_better ∷ same_router_twice ∷ distances_as_they_are ∷ tie_is_reliance ∷ offer_by_its_own_distances ∷ not_from_a_third
    ∷ shared_client_is_not_better ∷ listed_reflector_offers_itself ∷ relies_on_a_listed_client ∷ not_back_to_its_client ∷ to_a_reflector_too
    ∷ egress_then_sender ∷ stranger_as_sender ∷ router_at_n ∷ limit_below_the_length ∷ limit_above_the_length ∷ cycle_by_the_lowest ∷ []

-- The calls give each entry's answer.
abbrev pub TellingExamplesHold : Type 0
TellingExamplesHold = Hold telling_examples
