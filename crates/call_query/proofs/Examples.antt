-- The examples, worked out from the definitions that the contracts cite.
use mathlib.Core.Path.{refl}
use Rattle.base.specs.Below.{all_below, any_below}
use Rattle.base.specs.Best.{keep_best, best}
use Rattle.base.specs.Seek.{count}
use Rattle.base.specs.Tab.{tab}
use Rattle.plan_contents.specs.Header.{mark_ok, header_ok, router_count_ok}
use Rattle.plan_contents.specs.Contents.{kinds_ok, places_ok, sizes_ok, contents_ok}
use Rattle.plan_rules.specs.Routers.{router_ok, routers_ok}
use Rattle.plan_rules.specs.Sessions.{session_ok, sessions_ok, pairs, in_session}
use Rattle.plan_rules.specs.Parents.{parent_count, few_parents, parents_ok}
use Rattle.plan_rules.specs.Distances.{distances_ok}
use Rattle.plan_rules.specs.Lists.{list_place, member_ok, list_at_ok, list_ok, each_list_ok, lists_ok}
use Rattle.plan_rules.specs.Refusal.{refuse, body_checks, plan_checks, plan_refusal}
use Rattle.net_rules.specs.FromPlan.{named}
use Rattle.plan_examples.specs.Plans.{three_routers, nobody_between}
use Rattle.route_rules.specs.Preference.{prefers}
use Rattle.route_rules.specs.Reliance.{listed_client_of, best_client, offer, better_offer, relies}
use Rattle.call_rules.specs.Refusals.{egress_list_refusal}
use Rattle.call_query.specs.Size.{size_routers, size_lists}
use Rattle.call_query.specs.EgressList.{egress_list_start, egress_list_size}
use Rattle.call_query.specs.Relies.{relied}
use Rattle.call_query.specs.Examples.{QueryExamples}

pub query-examples : QueryExamples
unfolding
    three_routers nobody_between size_routers size_lists egress_list_start egress_list_size relied egress_list_refusal
    listed_client_of best_client offer better_offer relies prefers
    pairs in_session named refuse body_checks plan_checks plan_refusal
    mark_ok header_ok router_count_ok kinds_ok places_ok sizes_ok contents_ok router_ok routers_ok session_ok sessions_ok
    parent_count few_parents parents_ok count distances_ok
    list_place member_ok list_at_ok list_ok each_list_ok lists_ok all_below any_below keep_best best tab
query-examples =
    record {
      routers = refl;
      lists = refl;
      part_start = refl;
      part_size = refl;
      refused_part = refl;
      empty_part_start = refl;
      empty_part_size = refl;
      empty_part_number = refl;
      after_the_empty_part = refl;
      its_size = refl;
      still_counted = refl;
      it_relies = refl;
      it_does_not = refl;
      flag_of_yes = refl;
    }
