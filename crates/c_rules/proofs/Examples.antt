-- The results that C sees, worked out from the definitions that the contracts cite.
use Rattle.base.specs.Below.{all_below, any_below}
use Rattle.base.specs.Best.{keep_best, best}
use Rattle.base.specs.Seek.{seek, highest, count}
use Rattle.base.specs.Tab.{tab, joined}
use Rattle.plan_examples.specs.Plans.{four_routers, small_plan, m3_plan, m3_with_nobody, nobody_between}
use Rattle.plan_contents.specs.Header.{mark_ok, header_ok, router_count_ok}
use Rattle.plan_contents.specs.Contents.{kinds_ok, places_ok, sizes_ok, contents_ok}
use Rattle.plan_rules.specs.Routers.{router_ok, routers_ok}
use Rattle.plan_rules.specs.Sessions.{session_ok, sessions_ok, pairs, in_session}
use Rattle.plan_rules.specs.Parents.{parent_count, few_parents, parents_ok}
use Rattle.plan_rules.specs.Distances.{distances_ok, row_of, body_of}
use Rattle.plan_rules.specs.Lists.{list_place, member_ok, list_at_ok, list_ok, each_list_ok, lists_ok}
use Rattle.plan_rules.specs.Refusal.{refuse, body_checks, plan_checks, plan_refusal}
use Rattle.plan_rules.specs.Converted.{entry_bytes, converted, distances_fit, widen_refusal, narrow_refusal}
use Rattle.plan_rules.specs.ConvertedExamples.{with_narrow, with_wide}
use Rattle.links_rules.specs.Sheet.{link_ok, sheet_ok}
use Rattle.links_rules.specs.Sums.{direct, summing}
use Rattle.links_rules.specs.Distances.{sums_ok, distances_refusal, sheet_body, distances_after}
use Rattle.net_rules.specs.FromPlan.{named}
use Rattle.route_rules.specs.Preference.{nearer, has_step, hops, prefers, prefers_by, better, margin_of}
use Rattle.route_rules.specs.Reliance.{listed_client_of, best_client, offer, better_offer, relies}
use Rattle.route_rules.specs.Activation.{reflects, advertises, hears, sender_of, route_to, choice, choose, entry_ok, table_ok}
use Rattle.route_rules.specs.Rounds.{acted, rounds_from, rounds}
use Rattle.graph_groups.specs.Closure.{closing}
use Rattle.graph_groups.specs.Groups.{together, label, stable, grouped}
use Rattle.graph_ranks.specs.Rank.{rank_over, ranks_by_chains, rank}
use Rattle.graph_cycle.specs.Cycle.{start, next, walk, met_again_at, met_first_at, repeated_part, cycle_in, cycle}
use Rattle.route_theorems.specs.Settled.{choose_all, chosen_after, settled_table}
use Rattle.net_tables.specs.TableBytes.{read_route, table_of, table_bytes, activate_bytes, run_bytes}
use Rattle.call_rules.specs.Refusals.{egress_list_refusal, compare_refusal, relies_refusal, buffers_ok, verdict_refusal}
use Rattle.call_rules.specs.Refusals.{table_checks, sequence_ok, activate_refusal, run_refusal, counts_ok, figures_refusal, every_list_refusal}
use Rattle.call_compare.specs.Compare.{which_better, has_margin, margin_number}
use Rattle.call_run.specs.Activate.{activate_table}
use Rattle.route_explain_rules.specs.Explained.{against_own, by_offer, on_reflector, on_client, explained}
use Rattle.net_verdict.specs.Assessed.{labels_left, ranks_left, table_left, cycle_left, is_stable, labels_of, ranks_of, highest_of, settled_bytes, cycle_of}
use Rattle.call_verdict.specs.Verdict.{size_of}
use Rattle.call_verdict.specs.Verdict.{labels_after, ranks_after, table_after, cycle_after}
use Rattle.call_run.specs.Run.{run_applied, run_rounds, run_exhausted, run_table}
use Rattle.call_convert.specs.Convert.{convert_buffer}
use Rattle.steady_rules.specs.Numbers.{numbers_where}
use Rattle.steady_rules.specs.Equations.{solves, carried, completed, solutions}
use Rattle.steady_rules.specs.OwnRoutes.{overruled, keeps_own}
use Rattle.steady_rules.specs.Steady.{steady_numbers}
use Rattle.call_rules.specs.Refusals.{steady_checks, steady_refusal, hop_set_refusal, grade_refusal}
use Rattle.hopset_rules.specs.HopSet.{serves, set_of, reflectors_in, serves_by, lowest_by, least_size, hop_set}
use Rattle.steady_rules.specs.Equations.{stage}
use Rattle.steady_rules.specs.Numbers.{nth_of}
use Rattle.grade_rules.specs.Machine.{rest_within, move_for, stuck, loops, longest}
use Rattle.grade_rules.specs.Moving.{foremost, toggled, machine}
use Rattle.grade_rules.specs.Grade.{grade, rest_rounds, grade_rounds}
use Rattle.call_steady.specs.Steady.{number_bytes, numbers_after}
use Rattle.figures_rules.specs.Figures.{stable_lists, suspect_lists, highest_stable, stable_with, grouped_lists, figures_of}
use Rattle.call_figures.specs.Figures.{rank_counts, router_counts, rank_counts_left, router_counts_left, rank_counts_after, router_counts_after}
use Rattle.everylist_rules.specs.Pairs as pairing
use Rattle.everylist_rules.specs.Pairs.{is_pair, leads_to, left_after, left, foreign, nearest_foreign, found}
use Rattle.everylist_rules.specs.EveryList.{none_left, every_list, suspect_list}
use Rattle.call_everylist.specs.EveryList.{list_after}
use Rattle.c_rules.specs.Examples.{two_routers, ExportExamples, ConvertExportExamples, SteadyExportExamples, HopSetExportExamples, GradeExportExamples, FiguresExportExamples, EveryListExportExamples}

pub export-examples : ExportExamples
unfolding
    four_routers small_plan m3_plan m3_with_nobody nobody_between two_routers egress_list_refusal compare_refusal relies_refusal which_better has_margin margin_number
    against_own by_offer on_reflector on_client explained
    is_stable labels_of ranks_of highest_of settled_bytes cycle_of size_of buffers_ok verdict_refusal labels_after ranks_after table_after cycle_after labels_left ranks_left table_left cycle_left
    table_checks sequence_ok activate_refusal activate_table run_refusal run_applied run_rounds run_exhausted run_table
    read_route table_of table_bytes activate_bytes run_bytes choose_all chosen_after settled_table start next walk met_again_at met_first_at repeated_part cycle_in cycle
    rank_over ranks_by_chains rank together label stable grouped closing acted rounds_from rounds
    reflects advertises hears sender_of route_to choice choose entry_ok table_ok listed_client_of best_client offer better_offer relies nearer has_step hops prefers prefers_by better margin_of
    pairs in_session named refuse body_checks plan_checks plan_refusal
    mark_ok header_ok router_count_ok kinds_ok places_ok sizes_ok contents_ok router_ok routers_ok session_ok sessions_ok
    parent_count few_parents parents_ok count distances_ok
    link_ok sheet_ok direct summing sums_ok distances_refusal row_of body_of sheet_body distances_after joined
    list_place member_ok list_at_ok list_ok each_list_ok lists_ok all_below any_below keep_best best seek highest tab
export-examples =
    record {
      sized = λ r n m e. (e.number, e.routers-are, e.lists-are);
      first_list = λ r s c e. (e.number, e.started, e.counted);
      second_list = λ r s c e. (e.number, e.started, e.counted);
      list_of_nobody = λ r s c e. (e.number, e.started, e.counted);
      list_after_nobody = λ r s c e. (e.number, e.started, e.counted);
      refused_after_nobody = λ r s c e. (e.number, e.started, e.counted);
      first_better = λ r b p m e. (e.number, e.compared, e.flagged, e.measured);
      second_better = λ r b p m e. (e.number, e.compared, e.flagged, e.measured);
      neither_better = λ r b p m e. (e.number, e.compared, e.flagged, e.measured);
      no_margin = λ r b p m e. (e.number, e.compared, e.flagged, e.measured);
      first_told = λ r b p m e. (e.number, e.compared, e.flagged, e.measured);
      second_told = λ r b p m e. (e.number, e.compared, e.flagged, e.measured);
      without_the_step = λ r b p m e. (e.number, e.compared, e.flagged, e.measured);
      flag2_is_yes = λ r b p m e. (e.number, e.compared, e.flagged, e.measured);
      flag255_is_yes = λ r b p m e. (e.number, e.compared, e.flagged, e.measured);
      flags1_and255_are_alike = λ r b p m e. (e.number, e.compared, e.flagged, e.measured);
      relies = λ r v e. (e.number, e.answered);
      relies_not = λ r v e. (e.number, e.answered);
      better_offer = λ r a c o p n m e. (e.number, e.answered, e.coded, e.offer, e.compared, e.owned, e.measured);
      own_best_client = λ r a c o p n m e. (e.number, e.answered, e.coded, e.offer, e.compared, e.owned, e.measured);
      first_listed = λ r a c o p n m e. (e.number, e.answered, e.coded, e.offer, e.compared, e.owned, e.measured);
      any_offer = λ r a c o p n m e. (e.number, e.answered, e.coded, e.offer, e.compared, e.owned, e.measured);
      unlisted_client = λ r a c o p n m e. (e.number, e.answered, e.coded, e.offer, e.compared, e.owned, e.measured);
      refused_explain = λ r a c o p n m e. (e.number, e.answered, e.coded, e.offer, e.compared, e.owned, e.measured);
      refused_size = λ r n m e. (e.number, e.routers-are, e.lists-are);
      refused_list = λ r s c e. (e.number, e.started, e.counted);
      refused_compare = λ r b p m e. (e.number, e.compared, e.flagged, e.measured);
      refused_relies = λ r v e. (e.number, e.answered);
      suspect = λ r l k t c v s e. (e.numbered, e.judged, e.sized, e.labelled, e.ranked, e.settled, e.cycled);
      stable = λ r l k t c v s e. (e.numbered, e.judged, e.sized, e.labelled, e.ranked, e.settled, e.cycled);
      stable_for_nobody = λ r l k t c v s e. (e.numbered, e.judged, e.sized, e.labelled, e.ranked, e.settled, e.cycled);
      refused_verdict = λ r l k t c v s e. (e.numbered, e.judged, e.sized, e.labelled, e.ranked, e.settled, e.cycled);
      activated = λ r t e. (e.number, e.bytes);
      limited = λ r t a n x e. (e.numbered, e.bytes, e.acted, e.whole, e.cut);
      unlimited = λ r t a n x e. (e.numbered, e.bytes, e.acted, e.whole, e.cut);
      refused_run = λ r t a n x e. (e.numbered, e.bytes, e.acted, e.whole, e.cut);
      distances = λ r o e. (e.number, e.bytes);
      refused_distances = λ r o e. (e.number, e.bytes);
      no_way_back = λ r o e. (e.number, e.bytes);
    }

pub convert-export-examples : ConvertExportExamples
unfolding
    with_narrow with_wide convert_buffer converted entry_bytes row_of body_of joined distances_fit widen_refusal narrow_refusal
    refuse body_checks plan_checks mark_ok header_ok router_count_ok kinds_ok places_ok sizes_ok contents_ok router_ok routers_ok session_ok sessions_ok
    pairs in_session parent_count few_parents parents_ok count distances_ok list_place member_ok list_at_ok list_ok each_list_ok lists_ok all_below any_below
convert-export-examples =
    record {
      widened = λ r o s e. (e.numbered, e.sized, e.bytes);
      narrowed = λ r o s e. (e.numbered, e.sized, e.bytes);
      refused_widen = λ r o s e. (e.numbered, e.sized, e.bytes);
      refused_narrow = λ r o s e. (e.numbered, e.sized, e.bytes);
    }

pub steady-export-examples : SteadyExportExamples
unfolding
    four_routers small_plan m3_plan steady_checks steady_refusal number_bytes numbers_after numbers_where solves carried completed solutions overruled keeps_own steady_numbers
    together grouped closing listed_client_of best_client offer better_offer relies nearer has_step hops prefers
    pairs in_session named refuse body_checks plan_checks plan_refusal
    mark_ok header_ok router_count_ok kinds_ok places_ok sizes_ok contents_ok router_ok routers_ok session_ok sessions_ok
    parent_count few_parents parents_ok count distances_ok joined
    list_place member_ok list_at_ok list_ok each_list_ok lists_ok all_below any_below keep_best best seek highest tab
steady-export-examples =
    record {
      two_tables = λ r o c e. (e.numbered, e.counted, e.bytes);
      stable_list = λ r o c e. (e.numbered, e.counted, e.bytes);
      refused_steady = λ r o c e. (e.numbered, e.counted, e.bytes);
    }

pub grade-export-examples : GradeExportExamples
unfolding
    four_routers small_plan m3_plan grade_refusal grade rest_rounds grade_rounds rest_within move_for stuck loops longest foremost toggled machine stage nth_of
    numbers_where solves carried completed solutions overruled keeps_own steady_numbers rank_over ranks_by_chains rank
    together label stable grouped closing listed_client_of best_client offer better_offer relies nearer has_step hops prefers
    pairs in_session named refuse body_checks plan_checks plan_refusal
    mark_ok header_ok router_count_ok kinds_ok places_ok sizes_ok contents_ok router_ok routers_ok session_ok sessions_ok
    parent_count few_parents parents_ok count distances_ok
    list_place member_ok list_at_ok list_ok each_list_ok lists_ok all_below any_below keep_best best seek highest tab
grade-export-examples =
    record {
      rests = λ r g n e. (e.number, e.told, e.within);
      stable_grade = λ r g n e. (e.number, e.told, e.within);
      refused_grade = λ r g n e. (e.number, e.told, e.within);
    }

pub hop-set-export-examples : HopSetExportExamples
unfolding
    four_routers small_plan m3_plan hop_set_refusal serves set_of reflectors_in serves_by lowest_by least_size hop_set
    together label stable grouped closing listed_client_of best_client offer better_offer relies nearer has_step hops prefers
    pairs in_session named refuse body_checks plan_checks plan_refusal
    mark_ok header_ok router_count_ok kinds_ok places_ok sizes_ok contents_ok router_ok routers_ok session_ok sessions_ok
    parent_count few_parents parents_ok count distances_ok
    list_place member_ok list_at_ok list_ok each_list_ok lists_ok all_below any_below keep_best best seek highest tab
hop-set-export-examples =
    record {
      one_of_two = λ r s e. (e.number, e.named);
      none_to_name = λ r s e. (e.number, e.named);
      step_there = λ r s e. (e.number, e.named);
      refused_hop_set = λ r s e. (e.number, e.named);
    }

pub figures-export-examples : FiguresExportExamples
unfolding
    four_routers small_plan m3_plan counts_ok figures_refusal rank_counts router_counts rank_counts_left router_counts_left rank_counts_after router_counts_after
    stable_lists suspect_lists highest_stable stable_with grouped_lists figures_of is_stable highest_of
    rank_over ranks_by_chains rank together label stable grouped closing listed_client_of best_client offer better_offer relies nearer has_step hops prefers prefers_by
    pairs in_session named refuse body_checks plan_checks
    mark_ok header_ok router_count_ok kinds_ok places_ok sizes_ok contents_ok router_ok routers_ok session_ok sessions_ok
    parent_count few_parents parents_ok count distances_ok
    list_place member_ok list_at_ok list_ok each_list_ok lists_ok all_below any_below keep_best best seek highest tab
figures-export-examples =
    record {
      counted = λ r k w a b p h e. (e.numbered, e.stable-are, e.suspect-are, e.flagged, e.ranked, e.by_rank, e.by_router);
      absent = λ r k w a b p h e. (e.numbered, e.stable-are, e.suspect-are, e.flagged, e.ranked, e.by_rank, e.by_router);
      zero = λ r k w a b p h e. (e.numbered, e.stable-are, e.suspect-are, e.flagged, e.ranked, e.by_rank, e.by_router);
      refused_figures = λ r k w a b p h e. (e.numbered, e.stable-are, e.suspect-are, e.flagged, e.ranked, e.by_rank, e.by_router);
    }

pub every-list-export-examples : EveryListExportExamples
unfolding
    four_routers small_plan m3_plan every_list_refusal list_after numbers_where
    is_pair leads_to left_after left foreign nearest_foreign pairing.walk found none_left every_list suspect_list
    together label stable grouped closing listed_client_of best_client offer better_offer relies nearer has_step hops prefers
    pairs in_session named refuse body_checks plan_checks
    mark_ok header_ok router_count_ok kinds_ok places_ok sizes_ok contents_ok router_ok routers_ok session_ok sessions_ok
    parent_count few_parents parents_ok count distances_ok
    list_place member_ok list_at_ok list_ok each_list_ok lists_ok all_below any_below keep_best best seek highest tab
every-list-export-examples =
    record {
      yes_for_c = λ r a c l e. (e.numbered, e.answered, e.bytes, e.counted);
      no_for_c = λ r a c l e. (e.numbered, e.answered, e.bytes, e.counted);
      refused_every_list = λ r a c l e. (e.numbered, e.answered, e.bytes, e.counted);
    }
