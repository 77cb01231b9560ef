-- Examples that tell the rules of document 02, "Reflectors with the hop step", from a misreading of them, in literal bytes and numbers;
-- those of the comparison are in HopCompareExamples. After "Misread" stands the answer that a misreading gives.
use Rattle.std.specs.Prelude.{ℕ, false, List, [], ◌∷◌, set, replicate, pos, neg_ℤ}
use Rattle.plan_examples.specs.Plans.{m3_with_roles}
use Rattle.route_explain_rules.specs.declared.explanation.Rule.TheVariants.{OwnBestClient}
use Rattle.route_explain_rules.specs.declared.explanation.Reason.TheVariants.{NoWayToTheOffer, OfferNotBetter}
use Rattle.call_query.specs.declared.relies.ReliesAnswer.TheVariants.{Yes, No}
use Rattle.call_verdict.specs.declared.verdict.VerdictAnswer.TheVariants.{Stable, Suspect}
use Rattle.checker_examples.specs.Questions.{Question, check_asked, relies_asked, explain_asked, verdict_asked, activate_asked, run_asked}
use Rattle.checker_examples.specs.Questions.{Answer, check_is, relies_is, verdict_is, activate_is, run_is, Example, example, Hold}
use Rattle.checker_examples.specs.SmallPlans.{verdict_on, stable_is, suspect_is}
use Rattle.checker_examples.specs.TellingExamples.{six, seven, thirteen}
use Rattle.checker_examples.specs.ParentsExamples.{around, in_the_middle}
use Rattle.checker_examples.specs.WideExamples.{wide_cycle}
use Rattle.checker_examples.specs.ExplainExamples.{yes, no, by_offer, by_better_offer}

-- Reflectors 0 and 1 of the given roles, which have a session; client 2 of 0, client 3 of both, client 4 of 1. From 0 it is 8 to 1, 10 to
-- 3, 6 to 4, and the given two bytes to 2; from 1 it is 7 to 3 and 5 to 4; from 3 it is 5 to 4; every other distance is 30. The lists are
-- 3,4 and 2,3 and 2,4 and 4 and 3 and 0,4 and 1,3.
unfoldable pub hop_plan : (role₀ role₁ low high : ℕ) → List ℕ
hop_plan role₀ role₁ low high =
    82 ∷ 82 ∷ 80 ∷ 49 ∷ 5 ∷ 4  -- the letters RRP1, n, the number of contents entries
    ∷ 1 ∷ 26 ∷ 0 ∷ 25 ∷ 0  -- contents: kind, offset, length of the routers
    ∷ 2 ∷ 51 ∷ 0 ∷ 10 ∷ 0  -- .. of the sessions
    ∷ 3 ∷ 61 ∷ 0 ∷ 50 ∷ 0  -- .. of the distances
    ∷ 4 ∷ 111 ∷ 0 ∷ 20 ∷ 0  -- .. of the lists
    ∷ role₀ ∷ 10 ∷ 0 ∷ 0 ∷ 0  -- router 0: role, identifier
    ∷ role₁ ∷ 20 ∷ 0 ∷ 0 ∷ 0
    ∷ 2 ∷ 30 ∷ 0 ∷ 0 ∷ 0 ∷ 2 ∷ 40 ∷ 0 ∷ 0 ∷ 0 ∷ 2 ∷ 50 ∷ 0 ∷ 0 ∷ 0
    ∷ 0 ∷ 1 ∷ 0 ∷ 2 ∷ 0 ∷ 3 ∷ 1 ∷ 3 ∷ 1 ∷ 4  -- sessions
    ∷ 0 ∷ 0 ∷ 8 ∷ 0 ∷ low ∷ high ∷ 10 ∷ 0 ∷ 6 ∷ 0  -- distances from 0
    ∷ 30 ∷ 0 ∷ 0 ∷ 0 ∷ 30 ∷ 0 ∷ 7 ∷ 0 ∷ 5 ∷ 0
    ∷ 30 ∷ 0 ∷ 30 ∷ 0 ∷ 0 ∷ 0 ∷ 30 ∷ 0 ∷ 30 ∷ 0
    ∷ 30 ∷ 0 ∷ 30 ∷ 0 ∷ 30 ∷ 0 ∷ 0 ∷ 0 ∷ 5 ∷ 0
    ∷ 30 ∷ 0 ∷ 30 ∷ 0 ∷ 30 ∷ 0 ∷ 30 ∷ 0 ∷ 0 ∷ 0
    ∷ 7 ∷ 2 ∷ 3 ∷ 4 ∷ 2 ∷ 2 ∷ 3 ∷ 2 ∷ 2 ∷ 4 ∷ 1 ∷ 4 ∷ 1 ∷ 3 ∷ 2 ∷ 0 ∷ 4 ∷ 2 ∷ 1 ∷ 3  -- m; count and numbers of each list
    ∷ []

-- .. with 20 from 0 to 2, and with no way
abbrev pub five : (role₀ role₁ : ℕ) → List ℕ
five role₀ role₁ = hop_plan role₀ role₁ 20 0

abbrev pub cut_five : List ℕ
cut_five = hop_plan 4 1 255 255

-- reflectors 0, 1, 2 of roles 1, 4, 1
unfoldable pub six_mixed : List ℕ
six_mixed = set six 31 4

-- an RRP2 plan with role 4 for router 0
unfoldable pub wide_step : List ℕ
wide_step = set wide_cycle 26 4

-- "Refusal 4 now admits 1 to 5.": roles 4 and 5, and role 6. Misread as admitting 1 to 3: 4; as admitting whatever is no client: 0.
abbrev pub roles_are_read : Example
roles_are_read = example (m3_with_roles 4 5) check_asked (check_is 0)

abbrev pub role6_is_refused : Example
role6_is_refused = example (m3_with_roles 4 6) check_asked (check_is 4)

-- Both are reflectors in the check of parents: client 2 has five. Misread with roles 1 and 3 as the reflectors: 0.
abbrev pub five_with_role4 : Example
five_with_role4 = example (around 4) check_asked (check_is 13)

abbrev pub five_with_role5 : Example
five_with_role5 = example (around 5) check_asked (check_is 13)

-- .. and no clients: router 2 with five such neighbours. Misread with them held to four: 13.
abbrev pub role4_with_five : Example
role4_with_five = example (in_the_middle 4) check_asked (check_is 0)

abbrev pub role5_with_five : Example
role5_with_five = example (in_the_middle 5) check_asked (check_is 0)

-- "a route told by its own egress router beats one passed on, and only then distance and number count": 0 acts, and hears 3, at 10, from 3
-- itself, and 4, at 6, from 1. Misread by the distance: 4 1.
abbrev pub direct_is_held : Example
direct_is_held =
    example (five 4 1) (activate_asked 0 0 (255 ∷ 255 ∷ 4 ∷ 4 ∷ 255 ∷ 255 ∷ 3 ∷ 3 ∷ 4 ∷ 4 ∷ 9 ∷ []))
    (activate_is 0 (3 ∷ 3 ∷ 4 ∷ 4 ∷ 255 ∷ 255 ∷ 3 ∷ 3 ∷ 4 ∷ 4 ∷ 9 ∷ []))

-- .. at role 5. Misread as role 3: 4 1.
abbrev pub direct_at_role5 : Example
direct_at_role5 =
    example (five 5 1) (activate_asked 0 0 (255 ∷ 255 ∷ 4 ∷ 4 ∷ 255 ∷ 255 ∷ 3 ∷ 3 ∷ 4 ∷ 4 ∷ 9 ∷ []))
    (activate_is 0 (3 ∷ 3 ∷ 4 ∷ 4 ∷ 255 ∷ 255 ∷ 3 ∷ 3 ∷ 4 ∷ 4 ∷ 9 ∷ []))

-- .. and at role 1, beside a reflector that has the step. Misread with the step at every reflector, or in the plan: 3 3.
abbrev pub nearest_at_role1 : Example
nearest_at_role1 =
    example (five 1 4) (activate_asked 0 0 (255 ∷ 255 ∷ 4 ∷ 4 ∷ 255 ∷ 255 ∷ 3 ∷ 3 ∷ 4 ∷ 4 ∷ 9 ∷ []))
    (activate_is 0 (4 ∷ 1 ∷ 4 ∷ 4 ∷ 255 ∷ 255 ∷ 3 ∷ 3 ∷ 4 ∷ 4 ∷ 9 ∷ []))

-- "on reflectors only": client 3 acts, and hears 0 from 0 itself, which has role 4, and 4, which is nearer, from 1. Misread with the step at
-- every router, or by the role of a parent: 0 0.
abbrev pub nearest_at_a_client : Example
nearest_at_a_client =
    example (five 4 1) (activate_asked 5 3 (0 ∷ 0 ∷ 4 ∷ 4 ∷ 255 ∷ 255 ∷ 255 ∷ 255 ∷ 4 ∷ 4 ∷ 9 ∷ []))
    (activate_is 0 (0 ∷ 0 ∷ 4 ∷ 4 ∷ 255 ∷ 255 ∷ 4 ∷ 1 ∷ 4 ∷ 4 ∷ 9 ∷ []))

-- An egress heard both ways is told by itself: 0 acts, and hears 3 from 1 and from 3 itself, and 2, at 20, from 2 itself. Misread as passed
-- on: 2 2. "the egress router itself is the sender if it is one of them". Misread as the lowest number: 3 1.
abbrev pub heard_both_ways : Example
heard_both_ways =
    example (five 4 1) (activate_asked 1 0 (255 ∷ 255 ∷ 3 ∷ 3 ∷ 2 ∷ 2 ∷ 3 ∷ 3 ∷ 255 ∷ 255 ∷ 9 ∷ []))
    (activate_is 0 (3 ∷ 3 ∷ 3 ∷ 3 ∷ 2 ∷ 2 ∷ 3 ∷ 3 ∷ 255 ∷ 255 ∷ 9 ∷ []))

-- So is the egress of a left-over entry by which an unlisted router tells a route to itself: 1 holds 1 from 4, and 0 acts, 8 from 1 and 10
-- from 3. Misread as told by listed routers alone, or by clients alone: 3 3.
abbrev pub left_over_to_itself : Example
left_over_to_itself =
    example (five 4 1) (activate_asked 0 0 (255 ∷ 255 ∷ 1 ∷ 4 ∷ 255 ∷ 255 ∷ 3 ∷ 3 ∷ 4 ∷ 4 ∷ 9 ∷ []))
    (activate_is 0 (1 ∷ 1 ∷ 1 ∷ 4 ∷ 255 ∷ 255 ∷ 3 ∷ 3 ∷ 4 ∷ 4 ∷ 9 ∷ []))

-- "A way still beats none": 0 acts, has no way to 2, which tells its own route, and hears 4 from 1. Misread with the step before the way:
-- 255 255.
abbrev pub no_way_to_the_direct : Example
no_way_to_the_direct =
    example cut_five (activate_asked 2 0 (255 ∷ 255 ∷ 4 ∷ 4 ∷ 2 ∷ 2 ∷ 255 ∷ 255 ∷ 4 ∷ 4 ∷ 9 ∷ []))
    (activate_is 0 (4 ∷ 1 ∷ 4 ∷ 4 ∷ 2 ∷ 2 ∷ 255 ∷ 255 ∷ 4 ∷ 4 ∷ 9 ∷ []))

-- the verdict of list k on five routers, with as many bytes lent as the call needs, all 255; a stable one
abbrev pub verdict_on_five : (k : ℕ) → Question
verdict_on_five k = verdict_asked k (replicate 5 255) (replicate 5 255) (replicate 10 255) (replicate 5 255)

abbrev pub stable_five : (highest : ℕ) (ranks settled : List ℕ) → Answer
stable_five highest ranks settled = verdict_is (Stable highest) (0 ∷ 1 ∷ 2 ∷ 3 ∷ 4 ∷ []) ranks settled (replicate 5 255)

-- "Roles 4 and 5 are roles 1 and 3 with that step": 3 alone is listed, and 2 is a client of 0. At role 5 it is skipped. Misread as role 4:
-- 2 holds 3 from 0.
abbrev pub role5_skips : Example
role5_skips =
    example (five 5 1) (verdict_on_five 4) (stable_five 2 (1 ∷ 1 ∷ 2 ∷ 0 ∷ 2 ∷ []) (3 ∷ 3 ∷ 3 ∷ 3 ∷ 255 ∷ 255 ∷ 3 ∷ 3 ∷ 3 ∷ 1 ∷ []))

-- .. and at role 4 not. Misread as role 5: 255 255.
abbrev pub role4_does_not_skip : Example
role4_does_not_skip =
    example (five 4 1) (verdict_on_five 4) (stable_five 2 (1 ∷ 1 ∷ 2 ∷ 0 ∷ 2 ∷ []) (3 ∷ 3 ∷ 3 ∷ 3 ∷ 3 ∷ 0 ∷ 3 ∷ 3 ∷ 3 ∷ 1 ∷ []))

-- Role 5 tells its clients what it has from a reflector: 4 alone is listed, and 0 hears no route but the one passed on. Misread with no
-- route passed on heard at the step: 255 255 at 0 and 2; with clients skipped whoever told it: at 2.
abbrev pub passed_on_is_held : Example
passed_on_is_held =
    example (five 5 1) (verdict_on_five 3) (stable_five 3 (2 ∷ 1 ∷ 3 ∷ 3 ∷ 0 ∷ []) (4 ∷ 1 ∷ 4 ∷ 4 ∷ 4 ∷ 0 ∷ 4 ∷ 0 ∷ 4 ∷ 4 ∷ []))

-- "Rule 3 uses this order at such a reflector, for its best client against an offer": 1 offers 4, at 6 and passed on, and the best client of
-- 0 is 3, at 10. Misread by the distance, or with every offer as told by its egress: Yes; a better offer, 4 against 3, -4.
abbrev pub passed_on_is_not_better : Example
passed_on_is_not_better = example (five 4 1) (relies_asked 0 0 1) (relies_is No)

-- Where the step decides the reason is "offer not better". Misread as no offer: 7.
abbrev pub passed_on_explained : Example
passed_on_explained = example (five 4 1) (explain_asked 0 0 1) (no OfferNotBetter 9)

-- .. and "no way to the offer" goes before it: from 0 there is no way to 4. Misread with the step asked first: 9.
abbrev pub passed_on_without_a_way : Example
passed_on_without_a_way = example (set (set (five 4 1) 69 255) 70 255) (explain_asked 0 0 1) (no NoWayToTheOffer 8)

-- .. the own best client is relied on all the same
abbrev pub own_best_client_explained : Example
own_best_client_explained = example (five 4 1) (explain_asked 0 0 3) (yes OwnBestClient 3)

-- .. and at role 1, of what a reflector with the step offers. Misread with the step at every reflector, or by the step of who offers: No, 9.
abbrev pub better_at_role1 : Example
better_at_role1 = example (five 1 4) (relies_asked 0 0 1) (relies_is Yes)

abbrev pub better_at_role1_explained : Example
better_at_role1_explained = example (five 1 4) (explain_asked 0 0 1) (by_better_offer 4 3 (neg_ℤ (pos 4)))

-- A listed reflector tells its own route: 1 at 8 against 3 at 10. Misread with every offer as passed on: No, 9.
abbrev pub listed_and_nearer : Example
listed_and_nearer = example (five 4 1) (relies_asked 6 0 1) (relies_is Yes)

abbrev pub listed_and_nearer_explained : Example
listed_and_nearer_explained = example (five 4 1) (explain_asked 6 0 1) (by_better_offer 1 3 (neg_ℤ (pos 2)))

-- .. "and only then distance and number count": 0 at 30 against the best client of 1, 4 at 5. Misread with a best client as passed on, or
-- with whatever its egress tells as better: Yes, 0 against 4, 25.
abbrev pub listed_and_farther : Example
listed_and_farther = example (five 1 4) (explain_asked 5 1 0) (no OfferNotBetter 9)

-- "With no best client, any offer counts as better." Misread with no offer passed on at such a reflector: No, 9.
abbrev pub any_offer : Example
any_offer = example (five 4 1) (relies_asked 3 0 1) (relies_is Yes)

abbrev pub any_offer_explained : Example
any_offer_explained = example (five 4 1) (explain_asked 3 0 1) (by_offer 4)

-- M3's plan, list 2,3: where 0 has role 4 it relies on 2 alone, and 1, of role 1, on 0 too. "No ring may contain one". Misread without the
-- step in rule 3, or with the step after the distance: suspect; by the step of who offers: ranks 2 1.
abbrev pub m3_step_at0 : Example
m3_step_at0 = example (m3_with_roles 4 1) (verdict_on 0) (stable_is 2 (1 ∷ 2 ∷ 0 ∷ 0 ∷ []) (2 ∷ 2 ∷ 2 ∷ 0 ∷ 2 ∷ 2 ∷ 3 ∷ 3 ∷ []))

-- .. where 1 has role 5. Misread as role 3: suspect.
abbrev pub m3_step_at1 : Example
m3_step_at1 = example (m3_with_roles 1 5) (verdict_on 0) (stable_is 2 (2 ∷ 1 ∷ 0 ∷ 0 ∷ []) (3 ∷ 1 ∷ 3 ∷ 3 ∷ 2 ∷ 2 ∷ 3 ∷ 3 ∷ []))

-- .. and of roles 1 and 3. Misread with the step at every reflector: stable, 1.
abbrev pub m3_without_step : Example
m3_without_step = example (m3_with_roles 1 3) (verdict_on 0) suspect_is

-- "a plan whose reflectors all have the step is stable for every list": role 4 for both. Misread without the step: suspect.
abbrev pub m3_all_have_step : Example
m3_all_have_step = example (m3_with_roles 4 4) (verdict_on 0) (stable_is 1 (1 ∷ 1 ∷ 0 ∷ 0 ∷ []) (2 ∷ 2 ∷ 3 ∷ 3 ∷ 2 ∷ 2 ∷ 3 ∷ 3 ∷ []))

-- .. list 3: the highest rank is 3. Misread with no route passed on heard at the step: 0 and 2 hold nothing.
abbrev pub m3_all_have_step_for3 : Example
m3_all_have_step_for3 = example (m3_with_roles 4 4) (verdict_on 1) (stable_is 3 (2 ∷ 1 ∷ 3 ∷ 0 ∷ []) (3 ∷ 1 ∷ 3 ∷ 3 ∷ 3 ∷ 0 ∷ 3 ∷ 3 ∷ []))

-- .. list 0. Misread with no offer of a listed reflector counted: ranks 0 0 1 1.
abbrev pub m3_all_have_step_for0 : Example
m3_all_have_step_for0 = example (m3_with_roles 4 4) (verdict_on 2) (stable_is 2 (0 ∷ 1 ∷ 1 ∷ 2 ∷ []) (0 ∷ 0 ∷ 0 ∷ 0 ∷ 0 ∷ 0 ∷ 0 ∷ 1 ∷ []))

-- "Plans that mix roles": of three reflectors that were one group, 1 has the step, and the others are in a cycle without it. Misread
-- without the step in rule 3: labels 0 0 0, cycle 0 1; with one step enough for a plan: stable.
abbrev pub cycle_of_the_others : Example
cycle_of_the_others =
    example six_mixed (verdict_asked 0 seven seven thirteen seven)
    (verdict_is (Suspect 2) (0 ∷ 1 ∷ 0 ∷ 3 ∷ 4 ∷ 5 ∷ 9 ∷ []) seven thirteen (0 ∷ 2 ∷ 9 ∷ 9 ∷ 9 ∷ 9 ∷ 9 ∷ []))

-- .. "must settle as promised too": M3's plan with roles 4 and 1, four rounds from what two of role 1 may hold for good. Misread without
-- the step in an act: 3 1, 3 3.
abbrev pub mixed_settles : Example
mixed_settles =
    example (m3_with_roles 4 1)
    (run_asked 0 (1 ∷ 0 ∷ 2 ∷ 3 ∷ 1 ∷ 0 ∷ 2 ∷ 3 ∷ 1 ∷ 0 ∷ 2 ∷ 3 ∷ 1 ∷ 0 ∷ 2 ∷ 3 ∷ []) 16 (3 ∷ 1 ∷ 3 ∷ 3 ∷ 2 ∷ 2 ∷ 3 ∷ 3 ∷ 9 ∷ []))
    (run_is 0 16 4 false (2 ∷ 2 ∷ 2 ∷ 0 ∷ 2 ∷ 2 ∷ 3 ∷ 3 ∷ 9 ∷ []))

-- An RRP2 plan: from 0 it is 65,546 to its client 2 and 100 to 3, which 1 passes on. Misread with the step in RRP1 alone: suspect.
abbrev pub wide_step_decides : Example
wide_step_decides = example wide_step (verdict_on 0) (stable_is 2 (1 ∷ 2 ∷ 0 ∷ 0 ∷ []) (2 ∷ 2 ∷ 2 ∷ 0 ∷ 2 ∷ 2 ∷ 3 ∷ 3 ∷ []))

unfoldable pub hop_examples : List Example
hop_examples =
    roles_are_read ∷ role6_is_refused ∷ five_with_role4 ∷ five_with_role5 ∷ role4_with_five ∷ role5_with_five ∷ direct_is_held ∷ direct_at_role5
    ∷ nearest_at_role1 ∷ nearest_at_a_client ∷ heard_both_ways ∷ left_over_to_itself ∷ no_way_to_the_direct ∷ role5_skips ∷ role4_does_not_skip
    ∷ passed_on_is_held ∷ passed_on_is_not_better ∷ passed_on_explained ∷ passed_on_without_a_way ∷ own_best_client_explained ∷ better_at_role1
    ∷ better_at_role1_explained ∷ listed_and_nearer ∷ listed_and_nearer_explained ∷ listed_and_farther ∷ any_offer ∷ any_offer_explained ∷ m3_step_at0 ∷ m3_step_at1
    ∷ m3_without_step ∷ m3_all_have_step ∷ m3_all_have_step_for3 ∷ m3_all_have_step_for0 ∷ cycle_of_the_others ∷ mixed_settles ∷ wide_step_decides ∷ []

-- The calls give each entry's answer.
abbrev pub HopExamplesHold : Type 0
HopExamplesHold = Hold hop_examples
