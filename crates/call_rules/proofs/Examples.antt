-- The examples, worked out from the rows.
use mathlib.Core.Path.{refl}
use Rattle.base.specs.Below.{all_below, any_below}
use Rattle.base.specs.Seek.{highest, count}
use Rattle.base.specs.Tab.{tab}
use Rattle.base.specs.Best.{keep_best, best}
use Rattle.plan_examples.specs.Plans.{three_routers}
use Rattle.plan_contents.specs.Header.{mark_ok, header_ok, router_count_ok}
use Rattle.plan_contents.specs.Contents.{kinds_ok, places_ok, sizes_ok, contents_ok}
use Rattle.plan_rules.specs.Routers.{router_ok, routers_ok}
use Rattle.plan_rules.specs.Sessions.{session_ok, sessions_ok, pairs, in_session}
use Rattle.plan_rules.specs.Parents.{parent_count, few_parents, parents_ok}
use Rattle.plan_rules.specs.Distances.{distances_ok}
use Rattle.plan_rules.specs.Lists.{list_place, member_ok, list_at_ok, list_ok, each_list_ok, lists_ok}
use Rattle.plan_rules.specs.Refusal.{refuse, body_checks, plan_checks}
use Rattle.route_rules.specs.Activation.{entry_ok, table_ok}
use Rattle.route_rules.specs.Preference.{nearer, has_step, hops, prefers}
use Rattle.route_rules.specs.Reliance.{listed_client_of, best_client, offer, better_offer, relies}
use Rattle.graph_groups.specs.Closure.{closing}
use Rattle.graph_groups.specs.Groups.{together, grouped}
use Rattle.steady_rules.specs.Numbers.{numbers_where}
use Rattle.steady_rules.specs.Equations.{solves, carried, completed, solutions}
use Rattle.steady_rules.specs.OwnRoutes.{overruled, keeps_own}
use Rattle.steady_rules.specs.Steady.{steady_numbers}
use Rattle.net_rules.specs.FromPlan.{named}
use Rattle.net_tables.specs.TableBytes.{read_route, table_of}
use Rattle.call_rules.specs.Refusals.{sequence_ok, egress_list_refusal, compare_refusal, relies_refusal, buffers_ok, verdict_refusal, steady_checks, steady_refusal, hop_set_refusal, grade_refusal, table_checks, activate_refusal, run_refusal, counts_ok, figures_refusal, every_list_refusal}
use Rattle.call_rules.specs.Examples.{lent, broken, short, three, two, crossed, RefusalsExamples}

pub refusals-examples : RefusalsExamples
unfolding
    three_routers lent broken short three two crossed
    sequence_ok egress_list_refusal compare_refusal relies_refusal buffers_ok verdict_refusal
    steady_checks steady_refusal hop_set_refusal grade_refusal table_checks activate_refusal run_refusal counts_ok figures_refusal every_list_refusal
    read_route table_of entry_ok table_ok pairs in_session named refuse body_checks plan_checks
    mark_ok header_ok router_count_ok kinds_ok places_ok sizes_ok contents_ok router_ok routers_ok session_ok sessions_ok
    parent_count few_parents parents_ok count distances_ok
    list_place member_ok list_at_ok list_ok each_list_ok lists_ok all_below any_below tab
    nearer has_step hops prefers listed_client_of best_client offer better_offer relies keep_best best highest closing together grouped
    numbers_where solves carried completed solutions overruled keeps_own steady_numbers
refusals-examples =
    record {
      last_list = refl;
      list_at_m = refl;
      last_routers = refl;
      router_at_n = refl;
      first_at_n = refl;
      second_at_n = refl;
      relying_at_n = refl;
      other_at_n = refl;
      activated_last = refl;
      activated_at_n = refl;
      last_named = refl;
      named_at_n = refl;
      long_enough = refl;
      labels_short = refl;
      ranks_short = refl;
      table_short = refl;
      cycle_short = refl;
      twelve_grouped = refl;
      thirteen_grouped = refl;
      steady_long = refl;
      steady_short = refl;
      steady_list_at_m = refl;
      hop_set_list_at_m = refl;
      hop_set_of_a_list = refl;
      grade_list_at_m = refl;
      grade_of_a_list = refl;
      activated_in_five = refl;
      counts_long = refl;
      rank_counts_short = refl;
      router_counts_short = refl;
      every_list_long = refl;
      every_list_short = refl;
      table_broken = refl;
      eight_before_nine = refl;
      eight_before_nine_of_a_verdict = refl;
      plan_before_nine = refl;
      plan_before_nine_of_every_list = refl;
      eight_before_ten = refl;
    }
