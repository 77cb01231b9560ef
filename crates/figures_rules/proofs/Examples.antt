-- The examples, worked out from the rules.
use mathlib.Core.Path.{refl}
use Rattle.base.specs.Below.{all_below, any_below}
use Rattle.base.specs.Best.{keep_best, best}
use Rattle.base.specs.Seek.{seek, highest, count}
use Rattle.base.specs.Tab.{tab}
use Rattle.graph_groups.specs.Closure.{closing}
use Rattle.graph_groups.specs.Groups.{together, label, stable, grouped}
use Rattle.graph_ranks.specs.Rank.{rank_over, ranks_by_chains, rank}
use Rattle.graph_cycle.specs.Cycle.{start, next, walk, met_again_at, met_first_at, repeated_part, cycle_in, cycle}
use Rattle.route_rules.specs.Preference.{nearer, has_step, hops, prefers, prefers_by}
use Rattle.route_rules.specs.Reliance.{listed_client_of, best_client, offer, better_offer, relies}
use Rattle.route_rules.specs.Examples.{among, network}
use Rattle.steady_rules.specs.Examples.{pair}
use Rattle.net_verdict.specs.Assessed.{is_stable, labels_of, highest_of, cycle_of}
use Rattle.figures_rules.specs.Sums.{total, group_size, group_sizes}
use Rattle.figures_rules.specs.Figures.{stable_lists, suspect_lists, highest_stable, stable_with, grouped_lists, figures_of}
use Rattle.figures_rules.specs.Examples.{two_groups, FiguresExamples}

pub figures-examples : FiguresExamples
unfolding
    all_below any_below keep_best best seek highest count tab closing together label stable grouped
    rank_over ranks_by_chains rank start next walk met_again_at met_first_at repeated_part cycle_in cycle
    nearer has_step hops prefers prefers_by listed_client_of best_client offer better_offer relies among network
    is_stable labels_of highest_of cycle_of
    total group_size group_sizes stable_lists suspect_lists highest_stable stable_with grouped_lists figures_of
    pair two_groups
figures-examples =
    record {
      stable = refl;
      suspect = refl;
      highest = refl;
      not_the_last = refl;
      absent = refl;
      zero_is_a_rank = refl;
      no_lists = refl;
      by_rank = refl;
      rank_zero = refl;
      none_by_rank = refl;
      no_suspect_rank = refl;
      in_groups = refl;
      cycle_is_one = refl;
      by_router = refl;
      of_the_pair = refl;
      in_every_list = refl;
      labels_of_two = refl;
      sizes = refl;
      sizes_sum = refl;
      routers_sum = refl;
      together = refl;
    }
