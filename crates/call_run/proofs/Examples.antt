-- The examples, worked out from the definitions that the contracts cite.
use mathlib.Core.Path.{refl}
use Rattle.base.specs.Below.{all_below, any_below}
use Rattle.base.specs.Best.{keep_best, best}
use Rattle.base.specs.Seek.{count}
use Rattle.base.specs.Tab.{tab}
use Rattle.plan_contents.specs.Header.{mark_ok, header_ok, router_count_ok}
use Rattle.plan_contents.specs.Contents.{kinds_ok, places_ok, sizes_ok, contents_ok}
use Rattle.plan_rules.specs.Routers.{router_ok, routers_ok}
use Rattle.plan_rules.specs.Sessions.{session_ok, sessions_ok, pairs, in_session}
use Rattle.plan_rules.specs.Parents.{parent_count, few_parents, parents_ok}
use Rattle.plan_rules.specs.Distances.{distances_ok}
use Rattle.plan_rules.specs.Lists.{list_place, member_ok, list_at_ok, list_ok, each_list_ok, lists_ok}
use Rattle.plan_rules.specs.Refusal.{refuse, body_checks, plan_checks, plan_refusal}
use Rattle.net_rules.specs.FromPlan.{named}
use Rattle.plan_examples.specs.Plans.{three_routers, four_routers, small_plan, m3_plan, nobody_between}
use Rattle.route_rules.specs.Preference.{nearer, has_step, hops, prefers, prefers_by}
use Rattle.route_rules.specs.Activation.{reflects, advertises, hears, sender_of, route_to, choice, choose, entry_ok, table_ok}
use Rattle.route_rules.specs.Rounds.{acted, rounds_from, rounds}
use Rattle.net_tables.specs.TableBytes.{read_route, table_of, activate_bytes, run_bytes}
use Rattle.call_rules.specs.Refusals.{sequence_ok, egress_list_refusal, table_checks, activate_refusal, run_refusal}
use Rattle.call_run.specs.Activate.{activate_table}
use Rattle.call_run.specs.Run.{run_applied, run_rounds, run_exhausted, run_table}
use Rattle.call_run.specs.Examples.{lent, left_over, lent_m3, RunExamples}

pub run-examples : RunExamples
unfolding
    three_routers nobody_between lent left_over four_routers small_plan m3_plan lent_m3 activate_table run_applied run_rounds run_exhausted run_table
    sequence_ok egress_list_refusal table_checks activate_refusal run_refusal read_route table_of activate_bytes run_bytes
    acted rounds_from rounds reflects advertises hears sender_of route_to choice choose entry_ok table_ok nearer has_step hops prefers prefers_by
    pairs in_session named refuse body_checks plan_checks plan_refusal
    mark_ok header_ok router_count_ok kinds_ok places_ok sizes_ok contents_ok router_ok routers_ok session_ok sessions_ok
    parent_count few_parents parents_ok count distances_ok
    list_place member_ok list_at_ok list_ok each_list_ok lists_ok all_below any_below keep_best best tab
run-examples =
    record {
      applied_to_the_limit = refl;
      applied_to_the_end = refl;
      rounds_to_the_limit = refl;
      rounds_to_the_end = refl;
      rounds_of_no_acts = refl;
      exhausted = refl;
      not_exhausted = refl;
      table_to_the_limit = refl;
      table_to_the_end = refl;
      activated = refl;
      old_route_dropped = refl;
      old_routes_flushed = refl;
      refused_applied = refl;
      refused_exhausted = refl;
      refused_table = refl;
      refused_activation = refl;
      role1_activated = refl;
      role4_activated = refl;
      role5_activated = refl;
      reflector_and_client = refl;
      role4_without_a_way = refl;
      role4_run = refl;
    }
