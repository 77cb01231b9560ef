-- The examples, worked out from the rules.
use mathlib.Core.Path.{refl}
use Rattle.base.specs.Below.{all_below, any_below}
use Rattle.base.specs.Best.{keep_best, best}
use Rattle.base.specs.Bits.{marked}
use Rattle.base.specs.Seek.{seek, highest, count}
use Rattle.base.specs.Tab.{tab, joined}
use Rattle.graph_groups.specs.Closure.{closing}
use Rattle.graph_groups.specs.Groups.{together, label, grouped}
use Rattle.route_rules.specs.Preference.{nearer, has_step, hops, prefers, prefers_by}
use Rattle.route_rules.specs.Activation.{reflects, advertises, hears, sender_of, route_to, choice, choose, activate}
use Rattle.route_rules.specs.Reliance.{listed_client_of, best_client, offer, better_offer, relies}
use Rattle.route_rules.specs.Examples.{among, network}
use Rattle.steady_rules.specs.Numbers.{nth_of, number_of, numbers_where}
use Rattle.steady_rules.specs.Equations.{solves, carried, completed, solutions, stage, turn, with_choice, solves_at, built_from, built}
use Rattle.steady_rules.specs.OwnRoutes.{own_bit, overruled, keeps_own, told}
use Rattle.steady_rules.specs.Steady.{steady_numbers, built_numbers}
use Rattle.steady_rules.specs.Examples.{pair, three_in_a_cycle, beside_listed, two_pairs, one_pair_on_another}
use Rattle.steady_rules.specs.Examples.{one_between_pairs, shared_client, own_at0, SteadyExamples}

pub steady-examples : SteadyExamples
unfolding
    pair three_in_a_cycle beside_listed two_pairs one_pair_on_another one_between_pairs shared_client own_at0
    among network all_below any_below keep_best best marked seek highest count tab joined closing together label grouped
    nearer has_step hops prefers prefers_by reflects advertises hears sender_of route_to choice choose activate
    listed_client_of best_client offer better_offer relies
    nth_of number_of numbers_where solves carried completed solutions stage turn with_choice solves_at built_from built
    own_bit overruled keeps_own told steady_numbers built_numbers
steady-examples =
    record {
      own_route = refl;
      through_another = refl;
      from_its_client = refl;
      anothers_client = refl;
      listed_client = refl;
      no_best_client = refl;
      nobody_tells = refl;
      other_tells = refl;
      itself_tells = refl;
      client_is_no_reflector = refl;
      listed_reflector_tells = refl;
      without_a_client = refl;
      listed_keeps_none = refl;
      client_keeps_none = refl;
      with_the_step = refl;
      listed_tells_itself = refl;
      set_tells_its_client = refl;
      unset_tells_nothing = refl;
      in_groups = refl;
      bit_of3 = refl;
      two = refl;
      count_of_two = refl;
      no_table = refl;
      one_table = refl;
      four_tables = refl;
      four_built = refl;
      on_another = refl;
      on_another_built = refl;
      stages = refl;
      turns = refl;
      between = refl;
      between_built = refl;
      carried_unset = refl;
      carried_set = refl;
      choice_of_two = refl;
      steady_choice = refl;
      no_steady_choice = refl;
      stable_list = refl;
      step_makes_stable = refl;
      nobody_listed = refl;
      steady_table = refl;
      client_changes = refl;
      client_is_in_no_group = refl;
    }
