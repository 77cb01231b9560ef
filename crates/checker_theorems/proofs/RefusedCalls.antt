-- A refused call returns its number alone, and leaves what it was lent.
use mathlib.Core.Path.{◌∙◌, ap}
use lib.ListN.{take, drop}
use Rattle.base.specs.Bytes.{bytes_on}
use Rattle.call_query.specs.EgressList.{egress_list_start, egress_list_size}
use Rattle.call_query.specs.Size.{size_routers, size_lists}
use Rattle.call_verdict.specs.Verdict.{verdict_answer, labels_after, ranks_after, table_after, cycle_after}
use Rattle.call_steady.specs.Steady.{steady_answer, numbers_after}
use Rattle.call_hopset.specs.HopSet.{hop_set_answer}
use Rattle.call_grade.specs.Grade.{grade_answer}
use Rattle.call_everylist.specs.EveryList.{every_list_answer, list_after}
use Rattle.call_figures.specs.Figures.{figures_answer, rank_counts_after, router_counts_after}
use Rattle.call_run.specs.Activate.{activate_table}
use Rattle.call_run.specs.Run.{run_applied, run_rounds, run_exhausted, run_table}
use Rattle.call_convert.specs.Convert.{convert_length, convert_buffer}
use Rattle.plan_rules.proofs.Refused.{when-refused}
use Rattle.checker_theorems.specs.RefusedCalls.{RefusedCalls}

pub refused-calls : RefusedCalls
unfolding
    egress_list_start egress_list_size size_routers size_lists verdict_answer labels_after ranks_after table_after cycle_after
    steady_answer numbers_after hop_set_answer grade_answer activate_table run_applied run_rounds run_exhausted run_table convert_length convert_buffer
    figures_answer rank_counts_after router_counts_after every_list_answer list_after
refused-calls =
    record {
      list = λ plan k part s ne. (
        s.bytes ∙ ap (λ size. take size (drop (egress_list_start plan.now k) plan.now)) (when-refused _ _ _ ne),
        s.address ∙ ap (bytes_on plan.ref_ptr) (when-refused _ _ _ ne),
      );
      size = λ plan r s ne. (s.number, s.routers ∙ when-refused _ _ _ ne, s.lists ∙ when-refused _ _ _ ne);
      compare = λ plan w e d f d' r s ne. (
        s.answer ∙ when-refused _ _ _ ne,
        s.value ∙ when-refused _ _ _ ne,
        s.present ∙ when-refused _ _ _ ne,
        s.margin ∙ when-refused _ _ _ ne,
      );
      relies = λ plan k w v r s ne. (s.answer ∙ when-refused _ _ _ ne, s.value ∙ when-refused _ _ _ ne);
      explain = λ plan k w v r s ne. (s.answer ∙ when-refused _ _ _ ne, s.values ∙ when-refused _ _ _ ne);
      verdict = λ plan k r labels ranks table shown s ne. (
        s.answer ∙ when-refused _ _ _ ne,
        s.stable ∙ when-refused _ _ _ ne,
        s.size ∙ when-refused _ _ _ ne,
        s.labelled ∙ when-refused _ _ _ ne,
        s.ranked ∙ when-refused _ _ _ ne,
        s.settled ∙ when-refused _ _ _ ne,
        s.cycled ∙ when-refused _ _ _ ne,
      );
      steady = λ plan k r out s ne. (s.answer ∙ when-refused _ _ _ ne, s.counted ∙ when-refused _ _ _ ne, s.written ∙ when-refused _ _ _ ne);
      hop_set = λ plan k r s ne. (s.answer ∙ when-refused _ _ _ ne, s.named ∙ when-refused _ _ _ ne);
      grade = λ plan k r s ne. (s.answer ∙ when-refused _ _ _ ne, s.graded ∙ when-refused _ _ _ ne, s.rounds ∙ when-refused _ _ _ ne);
      figures = λ plan r ranks routers s ne. (
        s.answer ∙ when-refused _ _ _ ne,
        s.stable ∙ when-refused _ _ _ ne,
        s.suspect ∙ when-refused _ _ _ ne,
        s.has_highest ∙ when-refused _ _ _ ne,
        s.highest ∙ when-refused _ _ _ ne,
        s.by_rank ∙ when-refused _ _ _ ne,
        s.by_router ∙ when-refused _ _ _ ne,
      );
      every_list = λ plan r list s ne. (
        s.answer ∙ when-refused _ _ _ ne,
        s.answered ∙ when-refused _ _ _ ne,
        s.counted ∙ when-refused _ _ _ ne,
        s.written ∙ when-refused _ _ _ ne,
      );
      activate = λ plan k w table r after s ne. (s.number, s.bytes ∙ when-refused _ _ _ ne);
      run = λ plan k acts limit table r after s ne. (
        s.number,
        s.applied ∙ when-refused _ _ _ ne,
        s.whole ∙ when-refused _ _ _ ne,
        s.exhausted ∙ when-refused _ _ _ ne,
        s.bytes ∙ when-refused _ _ _ ne,
      );
      widen = λ plan out r after s ne. (s.numbered, s.long ∙ when-refused _ _ _ ne, s.bytes ∙ when-refused _ _ _ ne);
      narrow = λ plan out r after s ne. (s.numbered, s.long ∙ when-refused _ _ _ ne, s.bytes ∙ when-refused _ _ _ ne);
    }
