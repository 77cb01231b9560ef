-- The examples, worked out from the rules.
use mathlib.Core.Path.{refl}
use Rattle.base.specs.Below.{all_below}
use Rattle.base.specs.Best.{keep_best, best}
use Rattle.base.specs.Seek.{seek, highest, count}
use Rattle.base.specs.Tab.{tab}
use Rattle.graph_groups.specs.Closure.{closing}
use Rattle.graph_groups.specs.Groups.{together, label, stable, grouped}
use Rattle.route_rules.specs.Preference.{nearer, has_step, hops, prefers}
use Rattle.route_rules.specs.Reliance.{listed_client_of, best_client, offer, better_offer, relies}
use Rattle.route_rules.specs.Examples.{among, network}
use Rattle.steady_rules.specs.Examples.{pair, beside_listed, two_pairs, one_between_pairs}
use Rattle.hopset_rules.specs.HopSet.{serves, left, set_of, reflectors_in, serves_by, lowest_by, least_size, hop_set}
use Rattle.hopset_rules.specs.Examples.{cycle_with_chord, two_around_one, five_in_a_row, HopSetExamples}

pub hop-set-examples : HopSetExamples
unfolding
    pair beside_listed two_pairs one_between_pairs cycle_with_chord two_around_one five_in_a_row
    among network all_below keep_best best seek highest count tab closing together label stable grouped
    nearer has_step hops prefers listed_client_of best_client offer better_offer relies
    serves left set_of reflectors_in serves_by lowest_by least_size hop_set
hop-set-examples =
    record {
      step_taken = refl;
      others_step = refl;
      on_its_client = refl;
      on_listed_reflector = refl;
      left_of_one = refl;
      left_of_another = refl;
      one_serves = refl;
      none_serves = refl;
      client_serves = refl;
      size_of_two = refl;
      set_of_five = refl;
      between_pairs = refl;
      stable_list = refl;
      step_there = refl;
      nobody_listed = refl;
      one_of_two = refl;
      with_chord = refl;
      of_two_pairs = refl;
      around_one = refl;
      least_of_them = refl;
      lowest_of_two = refl;
      none_of_none = refl;
      in_a_row = refl;
    }
