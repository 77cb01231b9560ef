-- Examples that tell the rules of document 02, "Cut-off routers", from a misreading of them, in literal bytes and numbers: M3's plan of
-- document 01 with a distance or two of 65,535, which is no way; its lists are 2,3 and 3 and 0. After "Misread" stands the answer that a
-- misreading gives.
use Rattle.std.specs.Prelude.{ℕ, false, List, [], ◌∷◌, pos, None}
use Rattle.plan_examples.specs.Plans.{four_routers, small_from0, small_from1, small_from2, small_from3, small_lists}
use Rattle.call_compare.specs.declared.compare.Preferred.TheVariants.{First, Second, Neither}
use Rattle.call_compare.specs.declared.compare.CompareAnswer.TheVariants.{Compared}
use Rattle.call_query.specs.declared.relies.ReliesAnswer.TheVariants.{Yes, No}
use Rattle.checker_examples.specs.Questions.{check_asked, compare_asked, relies_asked, activate_asked}
use Rattle.checker_examples.specs.Questions.{Answer, check_is, compare_is, relies_is, activate_is, Example, example, Hold}
use Rattle.checker_examples.specs.SmallPlans.{verdict_on, stable_is, suspect_is}

-- no way from 0 to 3
unfoldable pub zero_cut_off : List ℕ
zero_cut_off = four_routers (0 ∷ 0 ∷ 30 ∷ 0 ∷ 10 ∷ 0 ∷ 255 ∷ 255 ∷ []) (small_from1 6) small_from2 small_from3 small_lists

-- no way from 1 to 3, its client
unfoldable pub one_cut_off : List ℕ
one_cut_off = four_routers (small_from0 6) (30 ∷ 0 ∷ 0 ∷ 0 ∷ 6 ∷ 0 ∷ 255 ∷ 255 ∷ []) small_from2 small_from3 small_lists

-- no way from 1 to 0, the other reflector
unfoldable pub reflector_cut_off : List ℕ
reflector_cut_off = four_routers (small_from0 6) (255 ∷ 255 ∷ 0 ∷ 0 ∷ 6 ∷ 0 ∷ 10 ∷ 0 ∷ []) small_from2 small_from3 small_lists

-- no way from 0 to 1, the other reflector
unfoldable pub sender_cut_off : List ℕ
sender_cut_off = four_routers (0 ∷ 0 ∷ 255 ∷ 255 ∷ 10 ∷ 0 ∷ 6 ∷ 0 ∷ []) (small_from1 6) small_from2 small_from3 small_lists

-- no way from 2 to any other router, and none from 3 to 0 and to 1
unfoldable pub clients_cut_off : List ℕ
clients_cut_off =
    four_routers (small_from0 6) (small_from1 6)
    (255 ∷ 255 ∷ 255 ∷ 255 ∷ 0 ∷ 0 ∷ 255 ∷ 255 ∷ [])
    (255 ∷ 255 ∷ 255 ∷ 255 ∷ 30 ∷ 0 ∷ 0 ∷ 0 ∷ [])
    small_lists

-- 65,535 from 3 to itself
unfoldable pub diagonal_cut_off : List ℕ
diagonal_cut_off = four_routers (small_from0 6) (small_from1 6) small_from2 (30 ∷ 0 ∷ 30 ∷ 0 ∷ 30 ∷ 0 ∷ 255 ∷ 255 ∷ []) small_lists

-- a comparison where there is a way to the first alone, to the second alone, to neither: there is no margin
abbrev pub first_alone : Answer
first_alone = compare_is (Compared First None) 1 false (pos 0)

abbrev pub second_alone : Answer
second_alone = compare_is (Compared Second None) 2 false (pos 0)

abbrev pub no_way_to_both : Answer
no_way_to_both = compare_is (Compared Neither None) 0 false (pos 0)

-- "The distance 65,535 off the diagonal now means 'no way', and refusal 6 covers 65,535 on the diagonal only". Misread as refused
-- anywhere: 6; as read anywhere: 0.
abbrev pub cut_is_read : Example
cut_is_read = example clients_cut_off check_asked (check_is 0)

abbrev pub cut_from_itself : Example
cut_from_itself = example diagonal_cut_off check_asked (check_is 6)

-- "In a comparison a way beats none": 3 has a way to 2 and none to 0. Misread by the number: First; as not to be compared: Neither.
abbrev pub way_beats_none : Example
way_beats_none = example clients_cut_off (compare_asked 3 0 2) second_alone

-- ".. and of two without a way neither is better". Misread by the number: First.
abbrev pub neither_has_a_way : Example
neither_has_a_way = example clients_cut_off (compare_asked 3 0 1) no_way_to_both

-- "A route whose egress the hearer has no way to .. does not make a reflector relied on": 1 offers 3, and 0 has no best client. Misread
-- as any offer: Yes.
abbrev pub offer_without_a_way : Example
offer_without_a_way = example zero_cut_off (relies_asked 1 0 1) (relies_is No)

-- .. and so if the offer is of a listed reflector, 0 itself. Misread as any offer: Yes.
abbrev pub listed_offer_without_a_way : Example
listed_offer_without_a_way = example reflector_cut_off (relies_asked 2 1 0) (relies_is No)

-- ".. is not a best client there". Misread with 3 as the best client of 1: Yes.
abbrev pub client_without_a_way : Example
client_without_a_way = example one_cut_off (relies_asked 1 1 3) (relies_is No)

-- "A router's own route is unaffected, and so is rule 2 of the reliances": 2 relies on 0. Misread with a way asked for: No.
abbrev pub rule2_unaffected : Example
rule2_unaffected = example clients_cut_off (relies_asked 1 2 0) (relies_is Yes)

-- .. also where 0 is listed. Misread with a way asked for to a listed router: No.
abbrev pub rule2_unaffected_by_the_list : Example
rule2_unaffected_by_the_list = example clients_cut_off (relies_asked 2 2 0) (relies_is Yes)

-- M3's cycle is broken by the cut: stable, and 1 holds 2 from 0.
abbrev pub cycle_cut : Example
cycle_cut = example zero_cut_off (verdict_on 0) (stable_is 2 (1 ∷ 2 ∷ 0 ∷ 0 ∷ []) (2 ∷ 2 ∷ 2 ∷ 0 ∷ 2 ∷ 2 ∷ 3 ∷ 3 ∷ []))

-- A reflector with no way to its only listed client has no best client and offers nothing. Misread as a very long way: ranks 2 1 3 0,
-- and all hold 3.
abbrev pub nothing_offered : Example
nothing_offered =
    example one_cut_off (verdict_on 1) (stable_is 1 (0 ∷ 0 ∷ 1 ∷ 0 ∷ []) (255 ∷ 255 ∷ 255 ∷ 255 ∷ 255 ∷ 255 ∷ 3 ∷ 3 ∷ []))

-- A client whose only announced route has no way ends with nothing. Misread as a very long way: 2 holds 3 from 0.
abbrev pub client_ends_with_nothing : Example
client_ends_with_nothing =
    example clients_cut_off (verdict_on 1) (stable_is 3 (2 ∷ 1 ∷ 3 ∷ 0 ∷ []) (3 ∷ 1 ∷ 3 ∷ 3 ∷ 255 ∷ 255 ∷ 3 ∷ 3 ∷ []))

-- A listed neighbour is not heard either where there is no way to it: 1 ends with nothing, and 3, its client. Misread as heard always: 1
-- holds 0 from 0, and 3 holds 0 from 1.
abbrev pub listed_neighbour_not_heard : Example
listed_neighbour_not_heard =
    example reflector_cut_off (verdict_on 2) (stable_is 1 (0 ∷ 0 ∷ 1 ∷ 1 ∷ []) (0 ∷ 0 ∷ 255 ∷ 255 ∷ 0 ∷ 0 ∷ 255 ∷ 255 ∷ []))

-- A left-over entry may name an egress that its router has no way to: 1 holds 3, and 0, which has a way, takes it. Misread with a way
-- asked for in a table: 10.
abbrev pub left_over_without_a_way : Example
left_over_without_a_way =
    example one_cut_off (activate_asked 1 0 (255 ∷ 255 ∷ 3 ∷ 3 ∷ 255 ∷ 255 ∷ 3 ∷ 3 ∷ []))
    (activate_is 0 (3 ∷ 1 ∷ 3 ∷ 3 ∷ 255 ∷ 255 ∷ 3 ∷ 3 ∷ []))

-- "A route whose egress the hearer has no way to is not heard": now 1 acts. Misread as a very long way: 3 3.
abbrev pub left_over_is_dropped : Example
left_over_is_dropped =
    example one_cut_off (activate_asked 1 1 (255 ∷ 255 ∷ 3 ∷ 3 ∷ 255 ∷ 255 ∷ 3 ∷ 3 ∷ []))
    (activate_is 0 (255 ∷ 255 ∷ 255 ∷ 255 ∷ 255 ∷ 255 ∷ 3 ∷ 3 ∷ []))

-- .. and no more is asked for: 1 tells 0 what it has from its client 3, and 0 has a way to 3 and none to 1. Misread with a way to the
-- sender asked for too: 255 255.
abbrev pub no_way_to_the_sender : Example
no_way_to_the_sender =
    example sender_cut_off (activate_asked 1 0 (255 ∷ 255 ∷ 3 ∷ 3 ∷ 255 ∷ 255 ∷ 3 ∷ 3 ∷ []))
    (activate_is 0 (3 ∷ 1 ∷ 3 ∷ 3 ∷ 255 ∷ 255 ∷ 3 ∷ 3 ∷ []))

-- .. nor a way back: 1 has none to 0, nor, below, to its client 3, which it tells the route to 0 all the same. Misread with a way to the
-- hearer asked for: 255 255.
abbrev pub no_way_to_the_hearer : Example
no_way_to_the_hearer =
    example reflector_cut_off (activate_asked 1 0 (255 ∷ 255 ∷ 3 ∷ 3 ∷ 255 ∷ 255 ∷ 3 ∷ 3 ∷ []))
    (activate_is 0 (3 ∷ 1 ∷ 3 ∷ 3 ∷ 255 ∷ 255 ∷ 3 ∷ 3 ∷ []))

abbrev pub no_way_to_the_client : Example
no_way_to_the_client =
    example one_cut_off (activate_asked 2 3 (0 ∷ 0 ∷ 0 ∷ 0 ∷ 0 ∷ 0 ∷ 255 ∷ 255 ∷ []))
    (activate_is 0 (0 ∷ 0 ∷ 0 ∷ 0 ∷ 0 ∷ 0 ∷ 0 ∷ 1 ∷ []))

-- "does not make a reflector relied on" is said of the offered route alone: 1 offers 3. Misread with a way to the offering reflector asked
-- for: No.
abbrev pub no_way_to_the_reflector : Example
no_way_to_the_reflector = example sender_cut_off (relies_asked 1 0 1) (relies_is Yes)

-- .. also where the offer is better than an own best client, 2. Misread: No.
abbrev pub better_without_a_way_to_it : Example
better_without_a_way_to_it = example sender_cut_off (relies_asked 0 0 1) (relies_is Yes)

-- so M3's cycle is there, and for list 3 all hold 3. Misread with a way to the sender or to the reflector asked for: stable; 0 and 2 hold
-- nothing.
abbrev pub cycle_despite_the_cut : Example
cycle_despite_the_cut = example sender_cut_off (verdict_on 0) suspect_is

abbrev pub settled_despite_the_cut : Example
settled_despite_the_cut =
    example sender_cut_off (verdict_on 1) (stable_is 3 (2 ∷ 1 ∷ 3 ∷ 0 ∷ []) (3 ∷ 1 ∷ 3 ∷ 3 ∷ 3 ∷ 0 ∷ 3 ∷ 3 ∷ []))

unfoldable pub cut_off_examples : List Example
cut_off_examples =
    cut_is_read ∷ cut_from_itself ∷ way_beats_none ∷ neither_has_a_way ∷ offer_without_a_way ∷ listed_offer_without_a_way
    ∷ client_without_a_way ∷ rule2_unaffected ∷ rule2_unaffected_by_the_list ∷ cycle_cut ∷ nothing_offered ∷ client_ends_with_nothing
    ∷ listed_neighbour_not_heard ∷ left_over_without_a_way ∷ left_over_is_dropped ∷ no_way_to_the_sender ∷ no_way_to_the_hearer ∷ no_way_to_the_client
    ∷ no_way_to_the_reflector ∷ better_without_a_way_to_it ∷ cycle_despite_the_cut ∷ settled_despite_the_cut ∷ []

-- The calls give each entry's answer.
abbrev pub CutOffExamplesHold : Type 0
CutOffExamplesHold = Hold cut_off_examples
