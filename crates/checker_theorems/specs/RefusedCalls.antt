-- Document 01, "Refusal table": "beside a refusal number every other returned field is zero or no", and lent buffers are unchanged. What
-- the contract of each call that returns or writes more than a number says of a refused call; that of the call for distances is
-- `CallMeans` of crate links_rules.
use Rattle.std.specs.Prelude.{ℕ, ◌≡◌, Bool, false, List, [], pos, length}
use Rattle.std.specs.Borrow.{Bor}
use Rattle.base.specs.Bytes.{bytes_on}
use Rattle.base.specs.Lent.{Lent}
use Rattle.plan_rules.specs.Refusal.{plan_refusal}
use Rattle.call_rules.specs.Refusals.{egress_list_refusal, compare_refusal, relies_refusal, verdict_refusal, steady_refusal, hop_set_refusal, grade_refusal, activate_refusal, run_refusal, figures_refusal, every_list_refusal}
use Rattle.call_compare.specs.declared.compare.CompareAnswer.{CompareAnswer}
use Rattle.call_compare.specs.declared.compare.CompareAnswer.TheVariants.{Refused}
use Rattle.call_query.specs.declared.relies.ReliesAnswer.{ReliesAnswer}
use Rattle.call_query.specs.declared.relies.ReliesAnswer.TheVariants as reliances
use Rattle.call_query.specs.declared.size.SizeAnswer.{SizeAnswer}
use Rattle.call_verdict.specs.declared.verdict.VerdictAnswer.{VerdictAnswer}
use Rattle.call_verdict.specs.declared.verdict.VerdictAnswer.TheVariants as verdicts
use Rattle.call_steady.specs.declared.steady.SteadyAnswer.{SteadyAnswer}
use Rattle.call_steady.specs.declared.steady.SteadyAnswer.TheVariants as steadies
use Rattle.call_hopset.specs.declared.hop_set.HopSetAnswer.{HopSetAnswer}
use Rattle.call_hopset.specs.declared.hop_set.HopSetAnswer.TheVariants as sets
use Rattle.call_grade.specs.declared.grade.GradeAnswer.{GradeAnswer}
use Rattle.call_grade.specs.declared.grade.GradeAnswer.TheVariants as gradings
use Rattle.call_run.specs.declared.run.RunAnswer.{RunAnswer}
use Rattle.call_query.specs.EgressList.{ListPartOf}
use Rattle.call_query.specs.Size.{Sizes}
use Rattle.call_query.specs.Relies.{relies_flag, Relied}
use Rattle.call_verdict.specs.Verdict.{verdict_is_stable, verdict_size, VerdictCall}
use Rattle.call_steady.specs.Steady.{count_of, SteadyCall}
use Rattle.call_hopset.specs.HopSet.{set_named, HopSetCall}
use Rattle.call_grade.specs.Grade.{grade_of, rounds_of, GradeCall}
use Rattle.call_compare.specs.Compare.{compare_better, compare_has_margin, compare_margin, Compares}
use Rattle.route_explain_rules.specs.declared.explanation.Explanation.{Explanation}
use Rattle.route_explain_rules.specs.declared.explanation.Explanation.TheVariants as explanations
use Rattle.route_explain_rules.specs.Values.{bare, values_of}
use Rattle.call_explain.specs.Explain.{Explains}
use Rattle.call_everylist.specs.declared.every_list.EveryListAnswer.{EveryListAnswer}
use Rattle.call_everylist.specs.declared.every_list.EveryListAnswer.TheVariants as everies
use Rattle.call_everylist.specs.EveryList as listed
use Rattle.call_everylist.specs.EveryList.{answer_number, EveryListCall}
use Rattle.call_figures.specs.declared.figures.FiguresAnswer.{FiguresAnswer}
use Rattle.call_figures.specs.declared.figures.FiguresAnswer.TheVariants as reports
use Rattle.call_figures.specs.Figures.{figures_stable, figures_suspect, figures_has_highest, figures_highest, FiguresCall}
use Rattle.call_run.specs.Activate.{Activates}
use Rattle.call_run.specs.Run.{Runs}
use Rattle.plan_rules.specs.Converted.{widen_refusal, narrow_refusal}
use Rattle.call_convert.specs.declared.convert.ConvertAnswer.{ConvertAnswer}
use Rattle.call_convert.specs.Convert.{Widens, Narrows}

pub record RefusedCalls : Type 0 where
  -- "If refused, the stretch is empty": at the plan's own start
  pub list : (plan : Bor (List ℕ)) (k : ℕ) (part : Bor (List ℕ)) → ListPartOf plan k part → (egress_list_refusal plan.now k ≡ 0 → ⊥)
      → (part.now ≡ []) × (part.ref_ptr ≡ bytes_on plan.ref_ptr 0)
  pub size : (plan : List ℕ) (r : SizeAnswer) → Sizes plan r → (plan_refusal plan ≡ 0 → ⊥)
      → (r.refused ≡ plan_refusal plan) × (r.routers ≡ 0) × (r.lists ≡ 0)
  pub compare : (plan : List ℕ) (w e : ℕ) (d : Bool) (f : ℕ) (d' : Bool) (r : CompareAnswer) → Compares plan w e d f d' r
      → (compare_refusal plan w e f ≡ 0 → ⊥)
      → (r ≡ Refused (compare_refusal plan w e f)) × (compare_better r ≡ 0) × (compare_has_margin r ≡ false) × (compare_margin r ≡ pos 0)
  pub relies : (plan : List ℕ) (k w v : ℕ) (r : ReliesAnswer) → Relied plan k w v r → (relies_refusal plan k w v ≡ 0 → ⊥)
      → (r ≡ reliances.Refused (relies_refusal plan k w v)) × (relies_flag r ≡ false)
  pub explain : (plan : List ℕ) (k w v : ℕ) (r : Explanation) → Explains plan k w v r → (relies_refusal plan k w v ≡ 0 → ⊥)
      → (r ≡ explanations.Refused (relies_refusal plan k w v)) × (values_of r ≡ bare false 0)
  -- the four lent buffers too
  pub verdict : (plan : List ℕ) (k : ℕ) (r : VerdictAnswer) (labels ranks table shown : Lent (List ℕ))
      → VerdictCall plan k r labels ranks table shown
      → (verdict_refusal plan k labels.before ranks.before table.before shown.before ≡ 0 → ⊥)
      → (r ≡ verdicts.Refused (verdict_refusal plan k labels.before ranks.before table.before shown.before))
      × (verdict_is_stable r ≡ false) × (verdict_size r ≡ 0)
      × (labels.after ≡ labels.before) × (ranks.after ≡ ranks.before) × (table.after ≡ table.before)
      × (shown.after ≡ shown.before)
  pub steady : (plan : List ℕ) (k : ℕ) (r : SteadyAnswer) (out : Lent (List ℕ)) → SteadyCall plan k r out
      → (steady_refusal plan k out.before ≡ 0 → ⊥)
      → (r ≡ steadies.Refused (steady_refusal plan k out.before)) × (count_of r ≡ 0) × (out.after ≡ out.before)
  pub hop_set : (plan : List ℕ) (k : ℕ) (r : HopSetAnswer) → HopSetCall plan k r → (hop_set_refusal plan k ≡ 0 → ⊥)
      → (r ≡ sets.Refused (hop_set_refusal plan k)) × (set_named r ≡ 0)
  pub grade : (plan : List ℕ) (k : ℕ) (r : GradeAnswer) → GradeCall plan k r → (grade_refusal plan k ≡ 0 → ⊥)
      → (r ≡ gradings.Refused (grade_refusal plan k)) × (grade_of r ≡ 0) × (rounds_of r ≡ 0)
  -- both lent buffers too
  pub figures : (plan : List ℕ) (r : FiguresAnswer) (ranks routers : Lent (List ℕ)) → FiguresCall plan r ranks routers
      → (figures_refusal plan ranks.before routers.before ≡ 0 → ⊥)
      → (r ≡ reports.Refused (figures_refusal plan ranks.before routers.before))
      × (figures_stable r ≡ 0) × (figures_suspect r ≡ 0) × (figures_has_highest r ≡ false) × (figures_highest r ≡ 0)
      × (ranks.after ≡ ranks.before) × (routers.after ≡ routers.before)
  -- the lent buffer too
  pub every_list : (plan : List ℕ) (r : EveryListAnswer) (list : Lent (List ℕ)) → EveryListCall plan r list
      → (every_list_refusal plan list.before ≡ 0 → ⊥)
      → (r ≡ everies.Refused (every_list_refusal plan list.before)) × (answer_number r ≡ 0) × (listed.count_of r ≡ 0)
      × (list.after ≡ list.before)
  pub activate : (plan : List ℕ) (k w : ℕ) (table : List ℕ) (r : ℕ) (after : List ℕ) → Activates plan k w table r after
      → (activate_refusal plan k w table ≡ 0 → ⊥) → (r ≡ activate_refusal plan k w table) × (after ≡ table)
  pub run : (plan : List ℕ) (k : ℕ) (acts : List ℕ) (limit : ℕ) (table : List ℕ) (r : RunAnswer) (after : List ℕ)
      → Runs plan k acts limit table r after → (run_refusal plan k acts table ≡ 0 → ⊥)
      → (r.refused ≡ run_refusal plan k acts table) × (r.applied ≡ 0) × (r.rounds ≡ 0) × (r.exhausted ≡ false) × (after ≡ table)
  pub widen : (plan out : List ℕ) (r : ConvertAnswer) (after : List ℕ) → Widens plan out r after → (widen_refusal plan (length out) ≡ 0 → ⊥)
      → (r.refused ≡ widen_refusal plan (length out)) × (r.length ≡ 0) × (after ≡ out)
  pub narrow : (plan out : List ℕ) (r : ConvertAnswer) (after : List ℕ) → Narrows plan out r after → (narrow_refusal plan (length out) ≡ 0 → ⊥)
      → (r.refused ≡ narrow_refusal plan (length out)) × (r.length ≡ 0) × (after ≡ out)
