-- The examples, worked out from the rules.
use mathlib.Core.Path.{refl}
use mathlib.Core.List.{[], ◌∷◌}
use Rattle.base.specs.Below.{all_below, any_below}
use Rattle.base.specs.Best.{keep_best, best}
use Rattle.base.specs.Seek.{seek}
use Rattle.base.specs.Tab.{tab}
use Rattle.graph_groups.specs.Closure.{closing}
use Rattle.graph_groups.specs.Groups.{together, label, stable}
use Rattle.route_rules.specs.Preference.{nearer, has_step, hops, prefers}
use Rattle.route_rules.specs.Reliance.{listed_client_of, best_client, offer, better_offer, relies}
use Rattle.route_rules.specs.Examples.{among, network}
use Rattle.steady_rules.specs.Numbers.{numbers_where}
use Rattle.hopset_rules.specs.Examples.{cycle_with_chord, two_around_one}
use Rattle.everylist_rules.specs.Pairs.{is_pair, leads_to, left_after, left, foreign, nearest_foreign, walk, found}
use Rattle.everylist_rules.specs.EveryList.{none_left, every_list, suspect_list, sharing}
use Rattle.everylist_rules.specs.Examples.{small, m3, own_too, two_parents, into_the_pair, shared_order_alone, EveryListExamples}
use Rattle.everylist_rules.proofs.Conditions.{single-by, clusters-by, nearer-by, steps-by}

pub every-list-examples : EveryListExamples
unfolding
    small own_too two_parents into_the_pair shared_order_alone cycle_with_chord two_around_one
    among network all_below any_below keep_best best seek tab closing together label stable
    nearer has_step hops prefers listed_client_of best_client offer better_offer relies numbers_where
    is_pair leads_to left_after left foreign nearest_foreign walk found none_left every_list suspect_list sharing
every-list-examples =
    record {
      of_m1 = refl;
      of_m2 = refl;
      of_m3 = refl;
      list_of_m3 = refl;
      of_m4 = refl;
      of_m5 = refl;
      list_of_m5 = refl;
      own_list = refl;
      not_own_list = refl;
      suspect_already = refl;
      step_no_pair = refl;
      of_one_step = refl;
      own_not_foreign = refl;
      of_own_too = refl;
      no_way_to_foreign = refl;
      of_no_way = refl;
      no_way_to_own = refl;
      of_no_way_to_own = refl;
      no_reflectors = refl;
      no_stranger = refl;
      first = refl;
      next = refl;
      found_of_two = refl;
      found_stable = refl;
      of_two_parents = refl;
      no_list = refl;
      each_stable = refl;
      of_alike = refl;
      list_of_alike = refl;
      of_shared_order = refl;
      suspect_one = refl;
      nearest_of2 = refl;
      list_of_three = refl;
      nearest_of0 = refl;
      walked = refl;
      list_of_the_pair = refl;
      single = single-by m3 refl;
      shares = refl;
      alike = clusters-by two_around_one refl;
      nearer_own = nearer-by (small 14 14 [] [] []) refl;
      every_step = steps-by (small 6 6 (0 ∷ 1 ∷ []) [] []) refl;
    }
