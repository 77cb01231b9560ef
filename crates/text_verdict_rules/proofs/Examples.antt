-- The examples, worked out from the definition that the contract cites.
use mathlib.Core.Path.{refl}
use Rattle.base.specs.Below.{all_below, any_below}
use Rattle.base.specs.Best.{keep_best, best}
use Rattle.base.specs.Seek.{seek, highest, count}
use Rattle.base.specs.Tab.{tab}
use Rattle.plan_examples.specs.Plans.{four_routers, small_plan, m3_plan, m3_with_nobody, m3_with_roles}
use Rattle.plan_contents.specs.Header.{mark_ok, header_ok, router_count_ok}
use Rattle.plan_contents.specs.Contents.{kinds_ok, places_ok, sizes_ok, contents_ok}
use Rattle.plan_rules.specs.Routers.{router_ok, routers_ok}
use Rattle.plan_rules.specs.Sessions.{session_ok, sessions_ok, pairs, in_session}
use Rattle.plan_rules.specs.Parents.{parent_count, few_parents, parents_ok}
use Rattle.plan_rules.specs.Distances.{distances_ok}
use Rattle.plan_rules.specs.Lists.{list_place, member_ok, list_at_ok, list_ok, each_list_ok, lists_ok}
use Rattle.plan_rules.specs.Refusal.{refuse, body_checks, plan_checks, plan_refusal}
use Rattle.net_rules.specs.FromPlan.{named}
use Rattle.route_rules.specs.Preference.{nearer, has_step, hops, prefers}
use Rattle.route_rules.specs.Reliance.{listed_client_of, best_client, offer, better_offer, relies}
use Rattle.graph_groups.specs.Closure.{closing}
use Rattle.graph_groups.specs.Groups.{together, label, stable, grouped}
use Rattle.graph_ranks.specs.Rank.{rank_over, ranks_by_chains, rank}
use Rattle.graph_cycle.specs.Cycle.{start, next, walk, met_again_at, met_first_at, repeated_part, cycle_in, cycle}
use Rattle.net_verdict.specs.Assessed.{is_stable, highest_of, cycle_of}
use Rattle.text_fields.specs.Fields.{digits, decimal, spaced}
use Rattle.text_lines.specs.Text.{head_line, refused_line, stable_line, suspect_line}
use Rattle.text_verdict_rules.specs.Listing.{list_line, list_lines, plan_text}
use Rattle.text_verdict_rules.specs.Examples.{example_plan, example_text, nobody_text, mixed_text, refused1, refused3, examples, TextExamplesHold}

pub text-examples : TextExamplesHold
unfolding
    four_routers small_plan m3_plan m3_with_nobody m3_with_roles example_plan example_text nobody_text mixed_text refused1 refused3 examples
    plan_text list_lines list_line head_line refused_line stable_line suspect_line spaced digits decimal
    is_stable highest_of cycle_of start next walk met_again_at met_first_at repeated_part cycle_in cycle rank_over ranks_by_chains rank together label stable grouped closing
    listed_client_of best_client offer better_offer relies nearer has_step hops prefers pairs in_session named refuse body_checks plan_checks plan_refusal
    mark_ok header_ok router_count_ok kinds_ok places_ok sizes_ok contents_ok router_ok routers_ok session_ok sessions_ok
    parent_count few_parents parents_ok count distances_ok
    list_place member_ok list_at_ok list_ok each_list_ok lists_ok all_below any_below keep_best best seek highest tab
text-examples = refl
