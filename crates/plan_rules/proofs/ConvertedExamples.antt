-- The converter's examples, worked out from the rules.
use mathlib.Core.Path.{refl}
use Rattle.base.specs.Below.{all_below, any_below}
use Rattle.base.specs.Seek.{count}
use Rattle.base.specs.Tab.{joined}
use Rattle.plan_contents.specs.Header.{mark_ok, header_ok, router_count_ok}
use Rattle.plan_contents.specs.Contents.{kinds_ok, places_ok, sizes_ok, contents_ok}
use Rattle.plan_rules.specs.Routers.{router_ok, routers_ok}
use Rattle.plan_rules.specs.Sessions.{session_ok, sessions_ok, pairs, in_session}
use Rattle.plan_rules.specs.Parents.{parent_count, few_parents, parents_ok}
use Rattle.plan_rules.specs.Distances.{distances_ok, row_of, body_of}
use Rattle.plan_rules.specs.Lists.{list_place, member_ok, list_at_ok, list_ok, each_list_ok, lists_ok}
use Rattle.plan_rules.specs.Refusal.{refuse, body_checks, plan_checks}
use Rattle.plan_rules.specs.Converted.{entry_bytes, converted, distances_fit, widen_refusal, narrow_refusal}
use Rattle.plan_rules.specs.ConvertedExamples.{with_narrow, with_wide, first_of_eight, WidenExamples, NarrowExamples}

pub widen-examples : WidenExamples
unfolding
    with_narrow with_wide first_of_eight converted entry_bytes row_of body_of joined distances_fit widen_refusal narrow_refusal refuse plan_checks body_checks
    header_ok mark_ok router_count_ok kinds_ok places_ok sizes_ok contents_ok router_ok routers_ok session_ok sessions_ok pairs in_session parent_count few_parents parents_ok
    distances_ok list_place member_ok list_at_ok list_ok each_list_ok lists_ok all_below any_below count
widen-examples =
    record {
      farthest_and_no_way = refl;
      low_byte_first = refl;
      distances_entry_above255 = refl;
      lists_entry_above255 = refl;
      enough = refl;
      one_byte_short = refl;
      broken_and_short = refl;
      wide_mark = refl;
      other_mark = refl;
      widened_again = refl;
      mark_first = refl;
    }

pub narrow-examples : NarrowExamples
unfolding
    with_narrow with_wide first_of_eight converted entry_bytes row_of body_of joined distances_fit widen_refusal narrow_refusal refuse plan_checks body_checks
    header_ok mark_ok router_count_ok kinds_ok places_ok sizes_ok contents_ok router_ok routers_ok session_ok sessions_ok pairs in_session parent_count few_parents parents_ok
    distances_ok list_place member_ok list_at_ok list_ok each_list_ok lists_ok all_below any_below count
narrow-examples =
    record {
      farthest_and_no_way_back = refl;
      low_byte_first_back = refl;
      narrow_after_widen = refl;
      widen_after_narrow = refl;
      farthest_fits = refl;
      no_way_fits = refl;
      two_bytes_full = refl;
      one_more = refl;
      farthest_wide = refl;
      too_far_back = refl;
      seven_first = refl;
      fourteen_first = refl;
      enough_back = refl;
      one_byte_short_back = refl;
      narrow_mark = refl;
      narrowed_again = refl;
      mark_first_back = refl;
    }
