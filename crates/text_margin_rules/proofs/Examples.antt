-- The examples, worked out from the definition that the contract cites.
use mathlib.Core.Path.{refl}
use Rattle.base.specs.Below.{all_below, any_below}
use Rattle.base.specs.Seek.{count}
use Rattle.plan_examples.specs.Plans.{four_routers, nobody_between, wide_ends}
use Rattle.plan_contents.specs.Header.{mark_ok, header_ok, router_count_ok}
use Rattle.plan_contents.specs.Contents.{kinds_ok, places_ok, sizes_ok, contents_ok}
use Rattle.plan_rules.specs.Routers.{router_ok, routers_ok}
use Rattle.plan_rules.specs.Sessions.{session_ok, sessions_ok, pairs, in_session}
use Rattle.plan_rules.specs.Parents.{parent_count, few_parents, parents_ok}
use Rattle.plan_rules.specs.Distances.{distances_ok}
use Rattle.plan_rules.specs.Lists.{list_place, member_ok, list_at_ok, list_ok, each_list_ok, lists_ok}
use Rattle.plan_rules.specs.Refusal.{refuse, body_checks, plan_checks}
use Rattle.route_rules.specs.Preference.{margin_of}
use Rattle.call_rules.specs.Refusals.{compare_refusal}
use Rattle.text_fields.specs.Fields.{digits, decimal, spaced}
use Rattle.text_lines.specs.Text.{refused_line, margin_line, none_line}
use Rattle.text_margin_rules.specs.Margin.{compare_line, margin_text}
use Rattle.text_margin_rules.specs.Examples.{cut_off, MarginTextExamples}

pub margin-text-examples : MarginTextExamples
unfolding
    four_routers nobody_between wide_ends cut_off margin_text compare_line margin_of refused_line margin_line none_line spaced digits decimal compare_refusal
    refuse body_checks plan_checks
    mark_ok header_ok router_count_ok kinds_ok places_ok sizes_ok contents_ok router_ok routers_ok session_ok sessions_ok
    pairs in_session parent_count few_parents parents_ok count distances_ok
    list_place member_ok list_at_ok list_ok each_list_ok lists_ok all_below any_below
margin-text-examples =
    record {
      minus_four = refl;
      four = refl;
      same_router = refl;
      equal_distances = refl;
      least = refl;
      greatest = refl;
      wide_least = refl;
      wide_greatest = refl;
      wide_no_way = refl;
      nobody_listed = refl;
      no_way_to_the_first = refl;
      no_way_to_the_second = refl;
      no_way_to_either = refl;
      router_at_n = refl;
      first_at_n = refl;
      second_at_n = refl;
      broken_plan = refl;
      nothing = refl;
      one_byte = refl;
      two_bytes = refl;
      three_bytes = refl;
    }
