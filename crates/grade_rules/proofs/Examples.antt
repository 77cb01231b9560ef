-- The examples, worked out from the rules.
use mathlib.Core.Path.{refl}
use Rattle.base.specs.Below.{all_below, any_below}
use Rattle.base.specs.Best.{keep_best, best}
use Rattle.base.specs.Seek.{seek, highest, count}
use Rattle.base.specs.Tab.{tab}
use Rattle.graph_groups.specs.Closure.{closing}
use Rattle.graph_groups.specs.Groups.{together, label, stable, grouped}
use Rattle.graph_ranks.specs.Rank.{rank_over, ranks_by_chains, rank}
use Rattle.route_rules.specs.Preference.{nearer, has_step, hops, prefers, prefers_by}
use Rattle.route_rules.specs.Reliance.{listed_client_of, best_client, offer, better_offer, relies}
use Rattle.route_rules.specs.Examples.{among, network}
use Rattle.steady_rules.specs.Numbers.{nth_of, numbers_where}
use Rattle.steady_rules.specs.Equations.{solves, carried, completed, solutions, stage}
use Rattle.steady_rules.specs.OwnRoutes.{overruled, keeps_own}
use Rattle.steady_rules.specs.Steady.{steady_numbers}
use Rattle.steady_rules.specs.Examples.{pair, three_in_a_cycle, beside_listed, one_pair_on_another, one_between_pairs}
use Rattle.grade_rules.specs.Machine.{rest_within, move_for, stuck, loops, longest}
use Rattle.grade_rules.specs.Moving.{after_act, after_acts, foremost, toggled, machine}
use Rattle.grade_rules.specs.Grade.{grade, rest_rounds, grade_rounds}
use Rattle.grade_rules.specs.Examples.{by_table, one_way, in_a_circle, way_out, way_in, four, may_move, may_be_caught, three_on_a_pair, GradeExamples}

pub grade-examples : GradeExamples
unfolding
    pair three_in_a_cycle beside_listed one_pair_on_another one_between_pairs
    by_table one_way in_a_circle way_out way_in four may_move may_be_caught three_on_a_pair
    among network all_below any_below keep_best best seek highest count tab closing together label stable grouped rank_over ranks_by_chains rank
    nearer has_step hops prefers prefers_by listed_client_of best_client offer better_offer relies
    nth_of numbers_where solves carried completed solutions stage overruled keeps_own steady_numbers
    rest_within move_for stuck loops longest after_act after_acts foremost toggled machine grade rest_rounds grade_rounds
grade-examples =
    record {
      rest_in1 = refl;
      move_for2 = refl;
      one_way_rests = refl;
      way_out_rests = refl;
      way_in_is_stuck = refl;
      circle_is_stuck = refl;
      one_way_ends = refl;
      circle_loops = refl;
      way_out_loops = refl;
      way_in_loops = refl;
      one_way_long = refl;
      one_after_another = refl;
      lower_first = refl;
      then_higher = refl;
      bit_set = refl;
      bit_cleared = refl;
      states_of_m3 = refl;
      from_none = refl;
      with_bit2 = refl;
      with_bit3 = refl;
      at_rest_there = refl;
      long_in_m3 = refl;
      long_beside_listed = refl;
      long_on_another = refl;
      loose_between = refl;
      loose_in_stable = refl;
      always = refl;
      always_beside_listed = refl;
      always_between = refl;
      stable_list = refl;
      always_on_a_pair = refl;
      can_always = refl;
      one_table = refl;
      from_some_never = refl;
      one_there = refl;
      no_table = refl;
      rounds_of_m3 = refl;
      rounds_between = refl;
      rounds_on_a_pair = refl;
      rounds_of_stable = refl;
      rounds_of_moving = refl;
      rounds_of_none = refl;
    }
