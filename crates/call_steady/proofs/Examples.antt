-- The examples, worked out from the definitions.
use mathlib.Core.Path.{refl}
use Rattle.base.specs.Below.{all_below, any_below}
use Rattle.base.specs.Best.{keep_best, best}
use Rattle.base.specs.Seek.{highest, count}
use Rattle.base.specs.Tab.{tab, joined}
use Rattle.graph_groups.specs.Closure.{closing}
use Rattle.graph_groups.specs.Groups.{together, grouped}
use Rattle.route_rules.specs.Preference.{nearer, has_step, hops, prefers}
use Rattle.route_rules.specs.Reliance.{listed_client_of, best_client, offer, better_offer, relies}
use Rattle.route_rules.specs.Examples.{among, network}
use Rattle.steady_rules.specs.Numbers.{numbers_where}
use Rattle.steady_rules.specs.Equations.{solves, carried, completed, solutions}
use Rattle.steady_rules.specs.OwnRoutes.{overruled, keeps_own}
use Rattle.steady_rules.specs.Steady.{steady_numbers}
use Rattle.steady_rules.specs.Examples.{pair, three_in_a_cycle}
use Rattle.call_steady.specs.Steady.{number_bytes, steady_answer, numbers_after}
use Rattle.call_steady.specs.Examples.{SteadyAnswerExamples}

pub steady-answer-examples : SteadyAnswerExamples
unfolding
    pair three_in_a_cycle among network number_bytes steady_answer numbers_after
    numbers_where solves carried completed solutions overruled keeps_own steady_numbers
    nearer has_step hops prefers listed_client_of best_client offer better_offer relies closing together grouped
    all_below any_below keep_best best highest count tab joined
steady-answer-examples =
    record {
      low_byte_first = refl;
      two = refl;
      none = refl;
      two_written = refl;
      none_written = refl;
      refused = refl;
      refused_written = refl;
    }
