-- What an answer is worked out from: the definitions that the contracts of the public calls cite, down to the bytes.
use Prim.Native.Nat.{ℕ}
use mathlib.Core.Bool.{false}
use mathlib.Core.List.{List}
use lib.ListN.{take, drop}
use lib.IntN.{pos}
use Rattle.base.specs.Below.{all_below, any_below}
use Rattle.base.specs.Best.{keep_best, best}
use Rattle.base.specs.Seek.{seek, highest, count}
use Rattle.base.specs.Tab.{tab, joined}
use Rattle.plan_contents.specs.Header.{mark_ok, header_ok, router_count_ok}
use Rattle.plan_contents.specs.Contents.{kinds_ok, places_ok, sizes_ok, contents_ok}
use Rattle.plan_rules.specs.Routers.{router_ok, routers_ok}
use Rattle.plan_rules.specs.Sessions.{session_ok, sessions_ok, pairs, in_session}
use Rattle.plan_rules.specs.Parents.{parent_count, few_parents, parents_ok}
use Rattle.plan_rules.specs.Distances.{distances_ok}
use Rattle.plan_rules.specs.Lists.{list_place, member_ok, list_at_ok, list_ok, each_list_ok, lists_ok}
use Rattle.plan_rules.specs.Refusal.{refuse, body_checks, plan_checks, plan_refusal}
use Rattle.plan_rules.specs.Refused.{unless_refused, field, flag_field}
use Rattle.net_rules.specs.FromPlan.{named, instance_of}
use Rattle.route_rules.specs.Preference.{nearer, has_step, hops, prefers, prefers_by, better, margin_of}
use Rattle.route_rules.specs.Reliance.{listed_client_of, best_client, offer, better_offer, relies}
use Rattle.route_rules.specs.Activation.{reflects, advertises, hears, sender_of, route_to, choice, choose, entry_ok, table_ok}
use Rattle.route_rules.specs.Rounds.{acted, rounds_from, rounds}
use Rattle.graph_groups.specs.Closure.{closing}
use Rattle.graph_groups.specs.Groups.{together, label, stable, grouped}
use Rattle.graph_ranks.specs.Rank.{rank_over, ranks_by_chains, rank}
use Rattle.graph_cycle.specs.Cycle.{start, next, walk, met_again_at, met_first_at, repeated_part, cycle_in, cycle}
use Rattle.route_theorems.specs.Settled.{choose_all, chosen_after, settled_table}
use Rattle.net_tables.specs.TableBytes.{read_route, table_of, table_bytes, activate_bytes, run_bytes}
use Rattle.call_rules.specs.Refusals.{sequence_ok, egress_list_refusal, compare_refusal, relies_refusal, buffers_ok, verdict_refusal, steady_checks, steady_refusal, hop_set_refusal, table_checks, activate_refusal, run_refusal, counts_ok, figures_refusal}
use Rattle.route_explain_rules.specs.Explained.{against_own, by_offer, on_reflector, on_client, explained}
use Rattle.route_explain_rules.specs.Values.{bare, values_of}
use Rattle.route_explain_rules.specs.declared.explanation.Explanation.TheVariants as explanations
use Rattle.call_compare.specs.declared.compare.CompareAnswer.TheVariants as compares
use Rattle.call_query.specs.declared.relies.ReliesAnswer.TheVariants as relying
use Rattle.call_query.specs.Size.{size_routers, size_lists}
use Rattle.call_query.specs.EgressList.{egress_list_start, egress_list_size}
use Rattle.call_compare.specs.Compare.{which_better, has_margin, margin_number, preferred_of, compared}
use Rattle.call_query.specs.Relies.{relied}
use Rattle.net_verdict.specs.Assessed.{labels_left, ranks_left, table_left, cycle_left, is_stable, labels_of, ranks_of, highest_of, settled_bytes, cycle_of, found}
use Rattle.call_verdict.specs.Verdict.{verdict_answer, labels_after, ranks_after, table_after, cycle_after}
use Rattle.steady_rules.specs.Numbers.{numbers_where}
use Rattle.steady_rules.specs.Equations.{solves, carried, completed, solutions}
use Rattle.steady_rules.specs.OwnRoutes.{overruled, keeps_own}
use Rattle.steady_rules.specs.Steady.{steady_numbers}
use Rattle.call_steady.specs.Steady.{number_bytes, steady_answer, numbers_after}
use Rattle.hopset_rules.specs.HopSet.{serves, set_of, reflectors_in, serves_by, lowest_by, least_size, hop_set}
use Rattle.call_hopset.specs.HopSet.{hop_set_answer}
use Rattle.figures_rules.specs.Figures.{stable_lists, suspect_lists, highest_stable, stable_with, grouped_lists, figures_of}
use Rattle.call_figures.specs.Figures.{rank_counts, router_counts, rank_counts_left, router_counts_left, figures_answer, rank_counts_after, router_counts_after}
use Rattle.call_run.specs.Activate.{activate_table}
use Rattle.call_run.specs.Run.{run_applied, run_rounds, run_exhausted, run_table}
use Rattle.checker_examples.specs.Questions.{Question, check_asked, size_asked, list_asked, compare_told_asked, relies_asked, explain_asked, verdict_asked, steady_asked, hop_set_asked, activate_asked, run_asked, figures_asked}
use Rattle.checker_examples.specs.Questions.{Answer, check_is, size_is, list_is, compare_is, relies_is, explain_is, verdict_is, steady_is, hop_set_is, activate_is, run_is, figures_is}

-- the answer, by those definitions
unfoldable pub answer_to : List ℕ → Question → Answer
answer_to plan check_asked = check_is (plan_refusal plan)
answer_to plan size_asked = size_is (plan_refusal plan) (size_routers plan) (size_lists plan)
answer_to plan (list_asked k) =
    list_is (egress_list_refusal plan k) (egress_list_start plan k) (take (egress_list_size plan k) (drop (egress_list_start plan k) plan))
answer_to plan (compare_told_asked w e d f d') =
    let number = compare_refusal plan w e f in
    compare_is (unless_refused number (compares.Refused number) (compared plan w e d f d')) (field number (which_better plan w e d f d'))
    (flag_field number (has_margin plan w e f))
    (unless_refused number (pos 0) (margin_number plan w e f))
answer_to plan (relies_asked k w v) =
    let number = relies_refusal plan k w v in
    relies_is (unless_refused number (relying.Refused number) (relied plan k w v))
answer_to plan (explain_asked k w v) =
    let number = relies_refusal plan k w v in
    let found = explained (instance_of plan k) w v in
    explain_is (unless_refused number (explanations.Refused number) found) number (unless_refused number (bare false 0) (values_of found))
answer_to plan (verdict_asked k labels ranks table cycle) =
    let number = verdict_refusal plan k labels ranks table cycle in
    verdict_is (verdict_answer number (instance_of plan k)) (labels_after number (instance_of plan k) labels) (ranks_after number (instance_of plan k) ranks)
    (table_after number (instance_of plan k) table)
    (cycle_after number (instance_of plan k) cycle)
answer_to plan (steady_asked k numbers) =
    let number = steady_refusal plan k numbers in
    steady_is (steady_answer number (instance_of plan k)) (numbers_after number (instance_of plan k) numbers)
answer_to plan (hop_set_asked k) = hop_set_is (hop_set_answer (hop_set_refusal plan k) (instance_of plan k))
answer_to plan (activate_asked k w table) = activate_is (activate_refusal plan k w table) (activate_table plan k w table)
answer_to plan (run_asked k acts limit table) =
    let number = run_refusal plan k acts table in
    run_is number (run_applied number acts limit) (run_rounds number plan acts limit) (run_exhausted number acts limit)
    (run_table plan k acts limit table)
answer_to plan (figures_asked ranks routers) =
    let number = figures_refusal plan ranks routers in
    figures_is (figures_answer number plan) (rank_counts_after number plan ranks) (router_counts_after number plan routers)

-- to unfold this is to unfold them all
unfoldable pub all_rules : List ℕ → Question → Answer
unfolding
    answer_to against_own by_offer on_reflector on_client explained
    plan_refusal egress_list_refusal compare_refusal relies_refusal verdict_refusal activate_refusal run_refusal
    size_routers size_lists egress_list_start egress_list_size which_better has_margin margin_number preferred_of compared relied
    is_stable labels_of ranks_of highest_of settled_bytes cycle_of found verdict_answer labels_after ranks_after table_after cycle_after labels_left ranks_left table_left cycle_left
    steady_refusal steady_checks steady_answer number_bytes numbers_after joined
    numbers_where solves carried completed solutions overruled keeps_own steady_numbers
    hop_set_refusal hop_set_answer serves set_of reflectors_in serves_by lowest_by least_size hop_set
    counts_ok figures_refusal stable_lists suspect_lists highest_stable stable_with grouped_lists figures_of
    rank_counts router_counts rank_counts_left router_counts_left figures_answer rank_counts_after router_counts_after
    activate_table run_applied run_rounds run_exhausted run_table
    buffers_ok table_checks sequence_ok read_route table_of table_bytes activate_bytes run_bytes choose_all chosen_after settled_table
    start next walk met_again_at met_first_at repeated_part cycle_in cycle rank_over ranks_by_chains rank together label stable grouped closing acted rounds_from rounds
    reflects advertises hears sender_of route_to choice choose entry_ok table_ok listed_client_of best_client offer better_offer relies nearer has_step hops prefers prefers_by better margin_of
    pairs in_session named refuse body_checks plan_checks
    mark_ok header_ok router_count_ok kinds_ok places_ok sizes_ok contents_ok router_ok routers_ok session_ok sessions_ok
    parent_count few_parents parents_ok count distances_ok
    list_place member_ok list_at_ok list_ok each_list_ok lists_ok all_below any_below keep_best best seek highest tab
all_rules = answer_to
