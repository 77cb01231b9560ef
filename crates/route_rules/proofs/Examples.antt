-- The examples, worked out from the rules.
use mathlib.Core.Path.{refl}
use Rattle.base.specs.Below.{all_below, any_below}
use Rattle.base.specs.Best.{keep_best, best}
use Rattle.route_rules.specs.Preference.{nearer, has_step, hops, prefers, prefers_by, better, margin_of}
use Rattle.route_rules.specs.Activation.{reflects, advertises, hears, sender_of, route_to, choice, choose, entry_ok, table_ok, activate, run_acts}
use Rattle.route_rules.specs.Rounds.{acted, rounds_from, rounds, tally_act, tally_acts}
use Rattle.route_rules.specs.Reliance.{listed_client_of, best_client, offer, better_offer, relies}
use Rattle.route_rules.specs.Examples.{among, network, neighbours, distances, six_with, start, RoutingExamples}

pub routing-examples : RoutingExamples
unfolding
    among network neighbours distances six_with start
    nearer has_step hops prefers prefers_by better margin_of reflects advertises hears sender_of route_to choice choose entry_ok table_ok activate run_acts
    acted rounds_from rounds tally_act tally_acts listed_client_of best_client offer better_offer relies
    all_below any_below keep_best best
routing-examples =
    record {
      nearer_is_preferred = refl;
      farther_is_not = refl;
      distances_as_they_are = refl;
      tie_to_the_lower = refl;
      tie_not_to_the_higher = refl;
      way_beats_none = refl;
      none_beats_no_way = refl;
      neither_has_a_way = refl;
      both_have_a_way = refl;
      margin_is_negative = refl;
      margin_is_positive = refl;
      margin_of_a_tie = refl;
      margin_of_the_same = refl;
      no_way_to_the_first = refl;
      no_way_to_the_second = refl;
      no_way_to_either = refl;
      not_back_to_its_client = refl;
      clients_route_to_a_reflector = refl;
      not_from_a_third = refl;
      reflectors_route_to_a_client = refl;
      role3_not_to_a_client = refl;
      role3_to_a_reflector = refl;
      role1_to_a_client = refl;
      role3_by_the_sender = refl;
      role3_from_a_reflector = refl;
      role3_not_from_a_third = refl;
      role3_as_the_sender = refl;
      role3_to_role3 = refl;
      role3_from_role3 = refl;
      role3_as_the_hearer = refl;
      listed_role3_advertises_itself = refl;
      listed_advertises_itself = refl;
      client_advertises_nothing = refl;
      not_from_a_stranger = refl;
      no_way_not_heard = refl;
      way_back_is_not_asked = refl;
      listed_reflector_not_heard = refl;
      listed_client_not_heard = refl;
      no_way_to_the_sender = refl;
      clients_no_way_to_the_sender = refl;
      no_way_to_the_hearer = refl;
      no_way_to_the_client = refl;
      egress_itself_is_the_sender = refl;
      lowest_is_the_sender = refl;
      listed_holds_its_own = refl;
      best_is_held = refl;
      nothing_is_held = refl;
      only_route_without_a_way = refl;
      next_best_is_held = refl;
      own_route_is_held = refl;
      role3_is_heard = refl;
      client_without_a_mesh = refl;
      client_mesh = refl;
      neighbour_as_sender = refl;
      stranger_as_sender = refl;
      egress_at_n = refl;
      listed_from_another = refl;
      listed_with_nothing = refl;
      every_entry = refl;
      act_changes_its_entry = refl;
      acts_in_order = refl;
      round_starts_anew = refl;
      every_router_acts = refl;
      two_rounds = refl;
      tally_of_every_router = refl;
      tally_of_two_rounds = refl;
      best_by_its_own_distances = refl;
      reflector_is_no_client = refl;
      best_with_a_way = refl;
      only_client_without_a_way = refl;
      way_back_from_a_client = refl;
      nothing_is_offered = refl;
      listed_offers_itself = refl;
      unlisted_offers_its_client = refl;
      shared_client_is_not_better = refl;
      any_offer_is_better = refl;
      offer_without_a_way = refl;
      only_offer_without_a_way = refl;
      rule1 = refl;
      rule2_reflector = refl;
      rule2_listed_client = refl;
      rule2_unlisted_client = refl;
      rule2_without_a_way = refl;
      rule2_without_a_way_to_a_reflector = refl;
      rule2_without_a_way_to_a_listed_reflector = refl;
      rule3_best_client = refl;
      rule3_tie = refl;
      rule3_shared_client = refl;
      rule3_offer_by_its_own_distances = refl;
      rule3_listed_reflector = refl;
      rule3_without_a_way = refl;
      rule3_listed_reflector_without_a_way = refl;
      rule3_without_a_way_to_the_reflector = refl;
      rule3_better_without_a_way_to_it = refl;
      role3_is_no_client = refl;
      role3_has_a_best_client = refl;
      role3_offers_its_client = refl;
      rule2_on_role3 = refl;
      rule3_on_role3 = refl;
      rule3_of_role3 = refl;
      rule3_of_role3_on_its_client = refl;
    }
