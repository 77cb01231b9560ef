-- Examples that tell the rules of document 02, "Prefix gone everywhere", from a misreading of them, in literal bytes and numbers. After
-- "Misread" stands the answer that a misreading gives.
use Rattle.std.specs.Prelude.{ℕ, true, false, List, [], ◌∷◌, ◌++◌, set}
use Rattle.plan_examples.specs.Plans.{three_with, nobody_between, m3_with_nobody}
use Rattle.route_explain_rules.specs.declared.explanation.Rule.TheVariants.{Parent}
use Rattle.route_explain_rules.specs.declared.explanation.Reason.TheVariants.{SameRouter, NotNeighbours, SecondUnlistedClient, NoOffer}
use Rattle.call_query.specs.declared.relies.ReliesAnswer.TheVariants.{Yes, No}
use Rattle.call_verdict.specs.declared.verdict.VerdictAnswer.TheVariants.{Stable}
use Rattle.checker_examples.specs.Questions.{Question, check_asked, size_asked, list_asked, relies_asked}
use Rattle.checker_examples.specs.Questions.{explain_asked, verdict_asked, activate_asked, run_asked}
use Rattle.checker_examples.specs.Questions.{Answer, check_is, size_is, list_is, relies_is, verdict_is, activate_is, run_is}
use Rattle.checker_examples.specs.Questions.{Example, example, Hold}
use Rattle.checker_examples.specs.SmallPlans.{verdict_on, stable_is}
use Rattle.checker_examples.specs.WideExamples.{wide_cycle}
use Rattle.checker_examples.specs.ExplainExamples.{yes, no}

-- `nobody_between` has reflector 0, its client 1, and client 2, which has a session with 1 alone; its lists are 1, then nobody, then 1,2.
-- The same routers with two lists of nobody: the place of the last is the plan's end, byte 66.
abbrev pub nobody_at_all : List ℕ
nobody_at_all = three_with (2 ∷ 0 ∷ 0 ∷ [])

-- `nobody_between` with role 2 for router 0, in byte 26: no client has a parent
unfoldable pub no_reflector : List ℕ
no_reflector = set nobody_between 26 2

-- an RRP2 plan with three lists of nobody, in bytes 116 to 119; for list 2,3 it is suspect
unfoldable pub wide_nobody : List ℕ
wide_nobody = set (set (set (set wide_cycle 116 3) 117 0) 118 0) 119 0

-- "A list with count 0 is now legal": "Refusal 7 no longer covers it." Misread with count 0 refused: 7.
abbrev pub nobody_is_read : Example
nobody_is_read = example nobody_between check_asked (check_is 0)

abbrev pub nobody_alone_is_read : Example
nobody_alone_is_read = example nobody_at_all check_asked (check_is 0)

-- three routers, three lists. Misread with lists of someone counted alone: 2.
abbrev pub nobody_is_counted : Example
nobody_is_counted = example nobody_between size_asked (size_is 0 3 3)

-- The list before it, the list itself, and the list after it. Misread with lists numbered from the last: 68, numbers 1 and 2.
abbrev pub part_before : Example
part_before = example nobody_between (list_asked 0) (list_is 0 65 (1 ∷ []))

-- Misread as refused: 7; with the part of a refused list: 0, at 0.
abbrev pub part_of_nobody : Example
part_of_nobody = example nobody_between (list_asked 1) (list_is 0 67 [])

-- Misread with no count byte for nobody: at 67; with lists of someone numbered alone: 8.
abbrev pub part_after : Example
part_after = example nobody_between (list_asked 2) (list_is 0 68 (1 ∷ 2 ∷ []))

-- Misread as past the plan: refused.
abbrev pub part_at_the_end : Example
part_at_the_end = example nobody_at_all (list_asked 1) (list_is 0 66 [])

-- "the list asked for is m or more". Misread as one more list of nobody: 0, at 67.
abbrev pub no_part_after_the_last : Example
no_part_after_the_last = example nobody_at_all (list_asked 2) (list_is 8 0 [])

-- "one byte m, 1 to 64" still. Misread with no list for a list of nobody: 0.
abbrev pub no_list_is_refused : Example
no_list_is_refused = example (three_with (0 ∷ [])) check_asked (check_is 7)

-- "then m lists": here one of two. Misread with count 0 ending the lists: 0.
abbrev pub one_list_too_few : Example
one_list_too_few = example (three_with (2 ∷ 0 ∷ [])) check_asked (check_is 7)

-- "Nothing follows", in the body and after it. Misread with whatever follows count 0 not read: 0.
abbrev pub byte_in_the_body : Example
byte_in_the_body = example (three_with (1 ∷ 0 ∷ 0 ∷ [])) check_asked (check_is 7)

abbrev pub byte_after_the_body : Example
byte_after_the_body = example (three_with (1 ∷ 0 ∷ []) ++ (0 ∷ [])) check_asked (check_is 3)

-- the verdict of list k on three routers; one byte more is lent in each buffer than the call needs, and 9 is no router
abbrev pub verdict_on_three : (k : ℕ) → Question
verdict_on_three k =
    verdict_asked k (9 ∷ 9 ∷ 9 ∷ 9 ∷ []) (9 ∷ 9 ∷ 9 ∷ 9 ∷ []) (9 ∷ 9 ∷ 9 ∷ 9 ∷ 9 ∷ 9 ∷ 9 ∷ []) (9 ∷ 9 ∷ 9 ∷ 9 ∷ [])

-- a stable verdict: each router is its own group, and the cycle's bytes are as they were
abbrev pub stable_three : (highest : ℕ) (ranks settled : List ℕ) → Answer
stable_three highest ranks settled = verdict_is (Stable highest) (0 ∷ 1 ∷ 2 ∷ 9 ∷ []) ranks settled (9 ∷ 9 ∷ 9 ∷ 9 ∷ [])

-- "reflectors have rank 0, an unlisted client with a parent has rank 1, and all end with nothing". Misread with rank 1 for a client without
-- a parent: ranks 0 1 1; with rank 0 for all who end with nothing: highest rank 0.
abbrev pub stable_for_nobody : Example
stable_for_nobody =
    example nobody_between (verdict_on_three 1)
    (stable_three 1 (0 ∷ 1 ∷ 0 ∷ 9 ∷ []) (255 ∷ 255 ∷ 255 ∷ 255 ∷ 255 ∷ 255 ∷ 9 ∷ []))

-- The lists before it and after it. Misread with nobody listed: 255 255 for all; with one of the two for the other: 2 holds its own route,
-- or that of 1.
abbrev pub verdict_before : Example
verdict_before =
    example nobody_between (verdict_on_three 0) (stable_three 1 (1 ∷ 0 ∷ 1 ∷ 9 ∷ []) (1 ∷ 1 ∷ 1 ∷ 1 ∷ 1 ∷ 1 ∷ 9 ∷ []))

abbrev pub verdict_after : Example
verdict_after =
    example nobody_between (verdict_on_three 2) (stable_three 1 (1 ∷ 0 ∷ 0 ∷ 9 ∷ []) (1 ∷ 1 ∷ 1 ∷ 1 ∷ 2 ∷ 2 ∷ 9 ∷ []))

-- A parent of role 3. Misread as a parent that tells its clients nothing, and so none: ranks 0 0 0.
abbrev pub role3_is_a_parent : Example
role3_is_a_parent =
    example (set nobody_between 26 3) (verdict_on_three 1)
    (stable_three 1 (0 ∷ 1 ∷ 0 ∷ 9 ∷ []) (255 ∷ 255 ∷ 255 ∷ 255 ∷ 255 ∷ 255 ∷ 9 ∷ []))

-- No client has a parent. Misread with rank 1 for each client, or for each that has a neighbour: highest rank 1.
abbrev pub nobody_without_parents : Example
nobody_without_parents =
    example no_reflector (verdict_on_three 1)
    (stable_three 0 (0 ∷ 0 ∷ 0 ∷ 9 ∷ []) (255 ∷ 255 ∷ 255 ∷ 255 ∷ 255 ∷ 255 ∷ 9 ∷ []))

-- Two reflectors with a session, and a client each; for list 2,3 each reflector relies on the other. Misread with that list: suspect.
abbrev pub nobody_beside_a_cycle : Example
nobody_beside_a_cycle =
    example m3_with_nobody (verdict_on 1) (stable_is 1 (0 ∷ 0 ∷ 1 ∷ 1 ∷ []) (255 ∷ 255 ∷ 255 ∷ 255 ∷ 255 ∷ 255 ∷ 255 ∷ 255 ∷ []))

-- .. of four-byte distances. Misread with count 0 as legal in RRP1 alone: refused, 7.
abbrev pub wide_stable_for_nobody : Example
wide_stable_for_nobody =
    example wide_nobody (verdict_on 1) (stable_is 1 (0 ∷ 0 ∷ 1 ∷ 1 ∷ []) (255 ∷ 255 ∷ 255 ∷ 255 ∷ 255 ∷ 255 ∷ 255 ∷ 255 ∷ []))

-- "Nobody offers anything": rule 3 gives no reliance. Misread with any reflector as better than no best client: Yes.
abbrev pub no_reliance_on_a_reflector : Example
no_reliance_on_a_reflector = example m3_with_nobody (relies_asked 1 0 1) (relies_is No)

-- Misread with an unlisted client for the best one: Yes.
abbrev pub no_reliance_on_a_client : Example
no_reliance_on_a_client = example m3_with_nobody (relies_asked 1 0 2) (relies_is No)

-- Rule 2 asks for no offer. Misread with one asked for: No.
abbrev pub reliance_on_the_parent : Example
reliance_on_the_parent = example m3_with_nobody (relies_asked 1 2 0) (relies_is Yes)

-- Misread with any neighbour relied on: Yes.
abbrev pub no_reliance_on_a_peer : Example
no_reliance_on_a_peer = example nobody_between (relies_asked 1 2 1) (relies_is No)

-- The one rule and the four reasons that a list of nobody leaves. Misread with an offer asked for: no offer, 7.
abbrev pub parent_for_nobody : Example
parent_for_nobody = example m3_with_nobody (explain_asked 1 2 0) (yes Parent 1)

-- Misread: no way to the offer, 8; offer not better, 9.
abbrev pub no_offer_for_nobody : Example
no_offer_for_nobody = example m3_with_nobody (explain_asked 1 0 1) (no NoOffer 7)

-- Misread: a client that is not the best one, 6.
abbrev pub client_for_nobody : Example
client_for_nobody = example m3_with_nobody (explain_asked 1 0 2) (no SecondUnlistedClient 4)

-- Misread: both clients with the second unlisted, 5.
abbrev pub peer_for_nobody : Example
peer_for_nobody = example nobody_between (explain_asked 1 2 1) (no SecondUnlistedClient 4)

-- Misread: no offer, 7; second an unlisted client, 4.
abbrev pub not_neighbours_for_nobody : Example
not_neighbours_for_nobody = example m3_with_nobody (explain_asked 1 0 3) (no NotNeighbours 2)

-- Misread: not neighbours, 2.
abbrev pub same_router_for_nobody : Example
same_router_for_nobody = example m3_with_nobody (explain_asked 1 0 0) (no SameRouter 1)

-- "old routes are flushed .. from any left-over table": 0 holds the route that its client 2 had, and acts. There is a byte after the table.
-- Misread with a left-over route kept where nobody is listed: 2 2.
abbrev pub old_route_dropped : Example
old_route_dropped =
    example m3_with_nobody (activate_asked 1 0 (2 ∷ 2 ∷ 2 ∷ 0 ∷ 255 ∷ 255 ∷ 255 ∷ 255 ∷ 9 ∷ []))
    (activate_is 0 (255 ∷ 255 ∷ 2 ∷ 0 ∷ 255 ∷ 255 ∷ 255 ∷ 255 ∷ 9 ∷ []))

-- "An unlisted client announces nothing", also where it holds an old route: 0 acts. Misread with what it holds announced: 3 2.
abbrev pub old_route_of_a_client : Example
old_route_of_a_client =
    example m3_with_nobody (activate_asked 1 0 (3 ∷ 2 ∷ 255 ∷ 255 ∷ 3 ∷ 0 ∷ 255 ∷ 255 ∷ 9 ∷ []))
    (activate_is 0 (255 ∷ 255 ∷ 255 ∷ 255 ∷ 3 ∷ 0 ∷ 255 ∷ 255 ∷ 9 ∷ []))

-- "An unlisted reflector announces the route it holds", an old one too: 1 hears it from 0, and 3 from 1. Misread with nothing announced
-- where nobody is listed: 255 255.
abbrev pub old_route_to_a_reflector : Example
old_route_to_a_reflector =
    example m3_with_nobody (activate_asked 1 1 (2 ∷ 2 ∷ 255 ∷ 255 ∷ 255 ∷ 255 ∷ 255 ∷ 255 ∷ 9 ∷ []))
    (activate_is 0 (2 ∷ 2 ∷ 2 ∷ 0 ∷ 255 ∷ 255 ∷ 255 ∷ 255 ∷ 9 ∷ []))

abbrev pub old_route_to_a_client : Example
old_route_to_a_client =
    example m3_with_nobody (activate_asked 1 3 (255 ∷ 255 ∷ 2 ∷ 0 ∷ 255 ∷ 255 ∷ 255 ∷ 255 ∷ 9 ∷ []))
    (activate_is 0 (255 ∷ 255 ∷ 2 ∷ 0 ∷ 255 ∷ 255 ∷ 2 ∷ 1 ∷ 9 ∷ []))

-- "A listed router's entry names itself twice. Any other entry is 255 255, or an egress below n with a neighbour as sender.": 2 is no
-- longer listed and may not hold its own route. Misread as any left-over route: 0.
abbrev pub own_route_left_over : Example
own_route_left_over =
    example m3_with_nobody (activate_asked 1 0 (2 ∷ 2 ∷ 2 ∷ 0 ∷ 2 ∷ 2 ∷ 255 ∷ 255 ∷ 9 ∷ []))
    (activate_is 10 (2 ∷ 2 ∷ 2 ∷ 0 ∷ 2 ∷ 2 ∷ 255 ∷ 255 ∷ 9 ∷ []))

-- three rounds on what the acts of M8 leave, without the own routes of 2 and 3, up to a limit
abbrev pub flushing_to : (limit : ℕ) → Question
flushing_to limit =
    run_asked 1 (1 ∷ 0 ∷ 2 ∷ 3 ∷ 3 ∷ 1 ∷ 0 ∷ 2 ∷ 2 ∷ 0 ∷ 1 ∷ 3 ∷ []) limit (2 ∷ 2 ∷ 2 ∷ 0 ∷ 255 ∷ 255 ∷ 255 ∷ 255 ∷ 9 ∷ [])

-- "within the promised rounds", highest rank 1 plus two. After two of them 3 still holds the old route: in the second it acted before 1.
-- Misread with highest rank plus one as enough: 255 255.
abbrev pub two_rounds_are_too_few : Example
two_rounds_are_too_few = example m3_with_nobody (flushing_to 8) (run_is 0 8 2 true (255 ∷ 255 ∷ 255 ∷ 255 ∷ 255 ∷ 255 ∷ 2 ∷ 1 ∷ 9 ∷ []))

abbrev pub three_rounds_flush : Example
three_rounds_flush =
    example m3_with_nobody (flushing_to 12) (run_is 0 12 3 false (255 ∷ 255 ∷ 255 ∷ 255 ∷ 255 ∷ 255 ∷ 255 ∷ 255 ∷ 9 ∷ []))

-- Where no client has a parent, highest rank 0 plus two. Misread with clients that announce what they hold: 2 1, 2 2, 2 1.
abbrev pub clients_flushed : Example
clients_flushed =
    example no_reflector (run_asked 1 (0 ∷ 1 ∷ 2 ∷ 2 ∷ 1 ∷ 0 ∷ []) 6 (2 ∷ 1 ∷ 2 ∷ 2 ∷ 255 ∷ 255 ∷ 9 ∷ []))
    (run_is 0 6 2 false (255 ∷ 255 ∷ 255 ∷ 255 ∷ 255 ∷ 255 ∷ 9 ∷ []))

unfoldable pub nobody_examples : List Example
nobody_examples =
    nobody_is_read ∷ nobody_alone_is_read ∷ nobody_is_counted ∷ part_before ∷ part_of_nobody ∷ part_after ∷ part_at_the_end ∷ no_part_after_the_last
    ∷ no_list_is_refused ∷ one_list_too_few ∷ byte_in_the_body ∷ byte_after_the_body ∷ stable_for_nobody ∷ verdict_before ∷ verdict_after
    ∷ role3_is_a_parent ∷ nobody_without_parents ∷ nobody_beside_a_cycle ∷ wide_stable_for_nobody ∷ no_reliance_on_a_reflector
    ∷ no_reliance_on_a_client ∷ reliance_on_the_parent ∷ no_reliance_on_a_peer ∷ parent_for_nobody ∷ no_offer_for_nobody ∷ client_for_nobody
    ∷ peer_for_nobody ∷ not_neighbours_for_nobody ∷ same_router_for_nobody ∷ old_route_dropped ∷ old_route_of_a_client
    ∷ old_route_to_a_reflector ∷ old_route_to_a_client ∷ own_route_left_over ∷ two_rounds_are_too_few ∷ three_rounds_flush
    ∷ clients_flushed ∷ []

-- The calls give each entry's answer.
abbrev pub NobodyExamplesHold : Type 0
NobodyExamplesHold = Hold nobody_examples
