-- The examples of the hop step, worked out from the rules.
use mathlib.Core.Path.{refl}
use Rattle.base.specs.Below.{any_below}
use Rattle.base.specs.Best.{keep_best, best}
use Rattle.route_rules.specs.Preference.{nearer, has_step, hops, prefers, prefers_by, better, margin_of}
use Rattle.route_rules.specs.Activation.{reflects, advertises, hears, sender_of, route_to, choice, choose}
use Rattle.route_rules.specs.Reliance.{listed_client_of, best_client, offer, better_offer, relies}
use Rattle.route_rules.specs.Examples.{among, network, neighbours, distances, six_with, start}
use Rattle.route_rules.specs.HopExamples.{two, two_clients, HopExamples}

pub hop-examples : HopExamples
unfolding
    among network neighbours distances six_with start two two_clients
    nearer has_step hops prefers prefers_by better margin_of reflects advertises hears sender_of route_to choice choose
    listed_client_of best_client offer better_offer relies any_below keep_best best
hop-examples =
    record {
      direct_beats_nearer = refl;
      nearer_passed_on = refl;
      direct_beats_lower = refl;
      both_direct = refl;
      both_direct_farther = refl;
      both_passed_on = refl;
      tie_of_two_direct = refl;
      tie_of_two_passed_on = refl;
      role1_has_no_step = refl;
      client_has_no_step = refl;
      role5_has_the_step = refl;
      role5_skips = refl;
      role5_to_a_reflector = refl;
      role4_does_not_skip = refl;
      role4_not_from_a_third = refl;
      way_beats_none = refl;
      none_beats_no_way = refl;
      neither_has_a_way = refl;
      both_have_a_way = refl;
      one_egress = refl;
      one_egress_compared = refl;
      margin_as_before = refl;
      zero_margin = refl;
      step_decided = refl;
      step_decided_against = refl;
      numbers_decided = refl;
      direct_is_held = refl;
      nearest_is_held = refl;
      passed_on_is_held = refl;
      nearest_passed_on = refl;
      direct_and_passed_on = refl;
      told_by_a_reflector = refl;
      reflector_and_client = refl;
      client_by_the_number = refl;
      left_over_to_itself = refl;
      neighbour_does_not_tell = refl;
      nearest_client = refl;
      nearest_and_lower = refl;
      cycle_of_role1 = refl;
      cycle_back = refl;
      cycle_broken = refl;
      step_of_the_relying_one = refl;
      on_its_best_client = refl;
      listed_and_nearer = refl;
      listed_and_farther = refl;
      any_offer = refl;
      any_offer_with_a_way = refl;
      shared_client = refl;
    }
