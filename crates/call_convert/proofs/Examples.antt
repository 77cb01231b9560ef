-- The examples, worked out from the definitions that the contracts cite.
use mathlib.Core.Path.{refl}
use Rattle.base.specs.Below.{all_below, any_below}
use Rattle.base.specs.Seek.{count}
use Rattle.base.specs.Tab.{joined}
use Rattle.plan_contents.specs.Header.{mark_ok, header_ok, router_count_ok}
use Rattle.plan_contents.specs.Contents.{kinds_ok, places_ok, sizes_ok, contents_ok}
use Rattle.plan_rules.specs.Routers.{router_ok, routers_ok}
use Rattle.plan_rules.specs.Sessions.{session_ok, sessions_ok, pairs, in_session}
use Rattle.plan_rules.specs.Parents.{parent_count, few_parents, parents_ok}
use Rattle.plan_rules.specs.Distances.{distances_ok, row_of, body_of}
use Rattle.plan_rules.specs.Lists.{list_place, member_ok, list_at_ok, list_ok, each_list_ok, lists_ok}
use Rattle.plan_rules.specs.Refusal.{refuse, body_checks, plan_checks}
use Rattle.plan_rules.specs.Converted.{entry_bytes, converted, distances_fit, widen_refusal, narrow_refusal}
use Rattle.plan_rules.specs.ConvertedExamples.{with_narrow, with_wide}
use Rattle.call_convert.specs.Convert.{convert_length, convert_buffer}
use Rattle.call_convert.specs.Examples.{lent, ConvertExamples}

pub convert-examples : ConvertExamples
unfolding
    with_narrow with_wide lent convert_length convert_buffer converted entry_bytes row_of body_of joined distances_fit widen_refusal narrow_refusal
    refuse plan_checks body_checks header_ok mark_ok router_count_ok kinds_ok places_ok sizes_ok contents_ok router_ok routers_ok session_ok sessions_ok
    pairs in_session parent_count few_parents parents_ok distances_ok list_place member_ok list_at_ok list_ok each_list_ok lists_ok all_below any_below count
convert-examples =
    record {
      widened = refl;
      narrowed = refl;
      widened_bytes = refl;
      narrowed_bytes = refl;
      just_enough = refl;
      short_length = refl;
      short_bytes = refl;
      too_far_length = refl;
      too_far_bytes = refl;
      wrong_mark_bytes = refl;
    }
