-- Document 02, "Every reliance with its rule": every rule and every reason that is kept occurs as the answer of the call, with its number
-- and values, on plans in literal bytes that are not refused. After "Misread" stands the answer that a misreading gives.
use Rattle.std.specs.Prelude.{ℕ, Bool, true, false, List, [], ◌∷◌, ℤ, pos, neg_ℤ}
use Rattle.route_explain_rules.specs.declared.explanation.Values.{Values}
use Rattle.route_explain_rules.specs.declared.explanation.Explanation.TheVariants.{Refused, Yes, No}
use Rattle.route_explain_rules.specs.declared.explanation.Rule.{Rule}
use Rattle.route_explain_rules.specs.declared.explanation.Rule.TheVariants.{Parent, PeerClient, OwnBestClient, AnyOffer, BetterOffer}
use Rattle.route_explain_rules.specs.declared.explanation.Reason.{Reason}
use Rattle.route_explain_rules.specs.declared.explanation.Reason.TheVariants.{SameRouter, NotNeighbours, FirstListed}
use Rattle.route_explain_rules.specs.declared.explanation.Reason.TheVariants.{SecondUnlistedClient, NotTheBestClient}
use Rattle.route_explain_rules.specs.declared.explanation.Reason.TheVariants.{NoOffer, NoWayToTheOffer, OfferNotBetter}
use Rattle.checker_examples.specs.Questions.{check_asked, explain_asked, Answer, check_is, explain_is, Example, example, Hold}

-- Reflectors 0 to 2, clients 3 to 5. From 0 it is 10 to 3, 20 to 4, 6 to 5; from 1 it is 30 to 3, 10 to 4 and to 5; from 2 there is no way
-- to 3, and it is 7 to 5; every other distance is 30. The lists are 3,5 and 3,4 and 4,5 and 0.
unfoldable pub plan : List ℕ
plan =
    82 ∷ 82 ∷ 80 ∷ 49 ∷ 6 ∷ 4  -- the letters RRP1, n, the number of contents entries
    ∷ 1 ∷ 26 ∷ 0 ∷ 30 ∷ 0  -- contents: kind, offset, length of the routers
    ∷ 2 ∷ 56 ∷ 0 ∷ 14 ∷ 0  -- .. of the sessions
    ∷ 3 ∷ 70 ∷ 0 ∷ 72 ∷ 0  -- .. of the distances
    ∷ 4 ∷ 142 ∷ 0 ∷ 12 ∷ 0  -- .. of the lists
    ∷ 1 ∷ 10 ∷ 0 ∷ 0 ∷ 0  -- router 0: role, identifier
    ∷ 1 ∷ 20 ∷ 0 ∷ 0 ∷ 0
    ∷ 1 ∷ 30 ∷ 0 ∷ 0 ∷ 0
    ∷ 2 ∷ 40 ∷ 0 ∷ 0 ∷ 0
    ∷ 2 ∷ 50 ∷ 0 ∷ 0 ∷ 0
    ∷ 2 ∷ 60 ∷ 0 ∷ 0 ∷ 0
    ∷ 0 ∷ 1 ∷ 0 ∷ 2 ∷ 0 ∷ 3 ∷ 0 ∷ 4 ∷ 1 ∷ 2 ∷ 1 ∷ 5 ∷ 3 ∷ 4  -- sessions
    ∷ 0 ∷ 0 ∷ 30 ∷ 0 ∷ 30 ∷ 0 ∷ 10 ∷ 0 ∷ 20 ∷ 0 ∷ 6 ∷ 0  -- distances from 0
    ∷ 30 ∷ 0 ∷ 0 ∷ 0 ∷ 30 ∷ 0 ∷ 30 ∷ 0 ∷ 10 ∷ 0 ∷ 10 ∷ 0
    ∷ 30 ∷ 0 ∷ 30 ∷ 0 ∷ 0 ∷ 0 ∷ 255 ∷ 255 ∷ 30 ∷ 0 ∷ 7 ∷ 0
    ∷ 30 ∷ 0 ∷ 30 ∷ 0 ∷ 30 ∷ 0 ∷ 0 ∷ 0 ∷ 30 ∷ 0 ∷ 30 ∷ 0
    ∷ 30 ∷ 0 ∷ 30 ∷ 0 ∷ 30 ∷ 0 ∷ 30 ∷ 0 ∷ 0 ∷ 0 ∷ 30 ∷ 0
    ∷ 30 ∷ 0 ∷ 30 ∷ 0 ∷ 30 ∷ 0 ∷ 30 ∷ 0 ∷ 30 ∷ 0 ∷ 0 ∷ 0
    ∷ 4 ∷ 2 ∷ 3 ∷ 5 ∷ 2 ∷ 3 ∷ 4 ∷ 2 ∷ 4 ∷ 5 ∷ 1 ∷ 0  -- m; count and numbers of each list
    ∷ []

-- Reflector 0, reflector 1 of role 3, clients 2 to 4, of which 3 neighbours both reflectors. From 0 there is no way to 2 and to 4, and
-- it is 10 to 3; from 1 it is 5 to 3 and 4 to 4; every other distance is 30. The lists are 2,3 and 3,4.
unfoldable pub shared : List ℕ
shared =
    82 ∷ 82 ∷ 80 ∷ 49 ∷ 5 ∷ 4
    ∷ 1 ∷ 26 ∷ 0 ∷ 25 ∷ 0
    ∷ 2 ∷ 51 ∷ 0 ∷ 10 ∷ 0
    ∷ 3 ∷ 61 ∷ 0 ∷ 50 ∷ 0
    ∷ 4 ∷ 111 ∷ 0 ∷ 7 ∷ 0
    ∷ 1 ∷ 10 ∷ 0 ∷ 0 ∷ 0
    ∷ 3 ∷ 20 ∷ 0 ∷ 0 ∷ 0
    ∷ 2 ∷ 30 ∷ 0 ∷ 0 ∷ 0
    ∷ 2 ∷ 40 ∷ 0 ∷ 0 ∷ 0
    ∷ 2 ∷ 50 ∷ 0 ∷ 0 ∷ 0
    ∷ 0 ∷ 1 ∷ 0 ∷ 2 ∷ 0 ∷ 3 ∷ 1 ∷ 3 ∷ 1 ∷ 4  -- sessions
    ∷ 0 ∷ 0 ∷ 30 ∷ 0 ∷ 255 ∷ 255 ∷ 10 ∷ 0 ∷ 255 ∷ 255  -- distances from 0
    ∷ 30 ∷ 0 ∷ 0 ∷ 0 ∷ 30 ∷ 0 ∷ 5 ∷ 0 ∷ 4 ∷ 0
    ∷ 30 ∷ 0 ∷ 30 ∷ 0 ∷ 0 ∷ 0 ∷ 30 ∷ 0 ∷ 30 ∷ 0
    ∷ 30 ∷ 0 ∷ 30 ∷ 0 ∷ 30 ∷ 0 ∷ 0 ∷ 0 ∷ 30 ∷ 0
    ∷ 30 ∷ 0 ∷ 30 ∷ 0 ∷ 30 ∷ 0 ∷ 30 ∷ 0 ∷ 0 ∷ 0
    ∷ 2 ∷ 2 ∷ 2 ∷ 3 ∷ 2 ∷ 3 ∷ 4  -- m; count and numbers of each list
    ∷ []

-- answers of calls that are not refused: yes by a rule or no for a reason, with its number and nothing else
abbrev pub alone : (relies : Bool) (code : ℕ) → Values
alone relies code = record { relies = relies; code = code; offer = 0; compared = false; own = 0; margin = pos 0 }

abbrev pub yes : (rule : Rule) (code : ℕ) → Answer
yes rule code = explain_is (Yes rule) 0 (alone true code)

abbrev pub no : (reason : Reason) (code : ℕ) → Answer
no reason code = explain_is (No reason) 0 (alone false code)

-- .. yes by an offer, and by one that is better than an own best client
abbrev pub by_offer : (offer : ℕ) → Answer
by_offer offer =
    explain_is (Yes (AnyOffer offer)) 0
    (record { relies = true; code = 4; offer = offer; compared = false; own = 0; margin = pos 0 })

abbrev pub by_better_offer : (offer own : ℕ) (margin : ℤ) → Answer
by_better_offer offer own margin =
    explain_is (Yes (BetterOffer offer own margin)) 0
    (record { relies = true; code = 4; offer = offer; compared = true; own = own; margin = margin })

-- neither plan is refused
abbrev pub plan_passes : Example
plan_passes = example plan check_asked (check_is 0)

abbrev pub shared_passes : Example
shared_passes = example shared check_asked (check_is 0)

-- "the answer is yes with its rule (parent, peer client, own best client, or better offer with its route and, if there is an own best
-- client, that one's route and the margin, offer minus own)". List 3,5: 4 is a client of 0 and has a session with 3. Misread with one rule
-- for every neighbour: peer client.
abbrev pub parent : Example
parent = example plan (explain_asked 0 4 0) (yes Parent 1)

-- .. a listed one. Misread as a listed neighbour: peer client.
abbrev pub listed_parent : Example
listed_parent = example plan (explain_asked 3 3 0) (yes Parent 1)

-- .. one of role 3
abbrev pub skipping_parent : Example
skipping_parent = example shared (explain_asked 0 4 1) (yes Parent 1)

abbrev pub peer_client : Example
peer_client = example plan (explain_asked 0 4 3) (yes PeerClient 2)

abbrev pub own_best_client : Example
own_best_client = example plan (explain_asked 0 0 3) (yes OwnBestClient 3)

-- from 0 it is 6 to 5, which 1 offers, and 10 to 3, its own best client. Misread as own minus offer: 4; with the routes exchanged: 3, 5.
abbrev pub better_offer : Example
better_offer = example plan (explain_asked 0 0 1) (by_better_offer 5 3 (neg_ℤ (pos 4)))

-- list 4,5: from 1 it is 10 to each, and the lower number decides. Misread as to be nearer: no, offer not better.
abbrev pub tie : Example
tie = example plan (explain_asked 2 1 0) (by_better_offer 4 5 (pos 0))

-- 2 has no best client. Misread with the reflector for its offer: 1.
abbrev pub any_offer : Example
any_offer = example plan (explain_asked 0 2 1) (by_offer 5)

-- list 0: "A listed reflector offers itself"
abbrev pub listed_reflector : Example
listed_reflector = example plan (explain_asked 3 1 0) (by_offer 0)

-- "or no with the reason. The reasons, first that applies: same router, not neighbours, first router listed, second an unlisted client,
-- both clients with the second unlisted, a client that is not the best one, no offer, no way to the offer, offer not better." Misread with
-- a later reason first: not neighbours, first router listed.
abbrev pub same_router : Example
same_router = example plan (explain_asked 0 3 3) (no SameRouter 1)

-- Misread: first router listed.
abbrev pub not_neighbours : Example
not_neighbours = example plan (explain_asked 0 3 5) (no NotNeighbours 2)

-- Misread: second an unlisted client.
abbrev pub first_listed : Example
first_listed = example plan (explain_asked 0 3 4) (no FirstListed 3)

-- Misread: a client that is not the best one.
abbrev pub unlisted_client : Example
unlisted_client = example plan (explain_asked 0 0 4) (no SecondUnlistedClient 4)

-- The fifth reason applies too, and is never the first. Misread with it: 5.
abbrev pub both_clients : Example
both_clients = example plan (explain_asked 3 3 4) (no SecondUnlistedClient 4)

-- list 3,4. Misread with the reasons that are kept counted: 5.
abbrev pub not_the_best : Example
not_the_best = example plan (explain_asked 1 0 4) (no NotTheBestClient 6)

-- .. its only listed client but 3, and 0 has no way to it. Misread: no way to the offer.
abbrev pub client_without_a_way : Example
client_without_a_way = example shared (explain_asked 0 0 2) (no NotTheBestClient 6)

abbrev pub no_offer : Example
no_offer = example plan (explain_asked 0 0 2) (no NoOffer 7)

-- 0 offers 3, and 2 has no way to it. Misread: no offer; offer not better.
abbrev pub no_way : Example
no_way = example plan (explain_asked 0 2 0) (no NoWayToTheOffer 8)

-- .. where there is an own best client. Misread: offer not better.
abbrev pub no_way_beside_own : Example
no_way_beside_own = example shared (explain_asked 1 0 1) (no NoWayToTheOffer 8)

abbrev pub not_better : Example
not_better = example plan (explain_asked 0 1 0) (no OfferNotBetter 9)

-- .. the own best client itself. Misread as better than itself: yes; as no offer: 7.
abbrev pub shared_best_client : Example
shared_best_client = example shared (explain_asked 0 0 1) (no OfferNotBetter 9)

-- "beside a refusal number every other returned field is zero or no": there is no router 6.
abbrev pub refused_explanation : Example
refused_explanation = example plan (explain_asked 0 0 6) (explain_is (Refused 8) 8 (alone false 0))

unfoldable pub explain_examples : List Example
explain_examples =
    plan_passes ∷ shared_passes ∷ parent ∷ listed_parent ∷ skipping_parent ∷ peer_client ∷ own_best_client ∷ better_offer ∷ tie
    ∷ any_offer ∷ listed_reflector ∷ same_router ∷ not_neighbours ∷ first_listed ∷ unlisted_client ∷ both_clients ∷ not_the_best
    ∷ client_without_a_way ∷ no_offer ∷ no_way ∷ no_way_beside_own ∷ not_better ∷ shared_best_client ∷ refused_explanation ∷ []

-- The calls give each entry's answer.
abbrev pub ExplainExamplesHold : Type 0
ExplainExamplesHold = Hold explain_examples
