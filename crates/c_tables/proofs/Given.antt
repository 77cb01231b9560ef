-- What the buffers and the variables hold, case by case of the answers.
use Prim.Native.Nat.{ℕ}
use mathlib.Core.Path.{◌≡◌, refl, ◌∙◌, sym, ap}
use mathlib.Core.Bool.{Bool}
use mathlib.Core.List.{List}
use Rattle.base.specs.Lent.{Lent}
use Rattle.base.specs.Seek.{flag}
use Rattle.call_verdict.specs.declared.verdict.VerdictAnswer.{VerdictAnswer}
use Rattle.call_verdict.specs.declared.verdict.VerdictAnswer.TheVariants as verdicts
use Rattle.call_run.specs.declared.run.RunAnswer.{RunAnswer}
use Rattle.call_steady.specs.declared.steady.SteadyAnswer.{SteadyAnswer}
use Rattle.call_steady.specs.declared.steady.SteadyAnswer.TheVariants as tables
use Rattle.call_steady.specs.Steady.{steady_answer, refusal_of, count_of, SteadyCall}
use Rattle.call_rules.specs.Refusals.{verdict_refusal, steady_refusal, run_refusal}
use Rattle.net_rules.specs.FromPlan.{instance_of}
use Rattle.net_verdict.specs.declared.Assessment.{Assessment}
use Rattle.net_verdict.specs.declared.Assessment.TheVariants as assessments
use Rattle.net_verdict.specs.Assessed.{found}
use Rattle.call_verdict.specs.Verdict.{answer_of, verdict_answer, verdict_number, verdict_is_stable, verdict_size, VerdictCall}
use Rattle.call_run.specs.Run.{Runs}
use Rattle.plan_rules.proofs.Refused.{when-refused, when-given}
use Rattle.call_verdict.proofs.Judging.{kept}
use Rattle.c_rules.specs.Exports.{VerdictExport, SteadyExport, RunExport}
use Rattle.c_rules.proofs.Written.{wrote, written, refused-by}

abbrev verdict_refuses : VerdictAnswer → ℕ
verdict_refuses (verdicts.Refused number) = 1
verdict_refuses (verdicts.Stable highest) = 0
verdict_refuses (verdicts.Suspect count) = 0

verdict-answers : (a : Assessment) → verdict_refuses (answer_of a) ≡ 0
verdict-answers (assessments.Stable highest) = refl
verdict-answers (assessments.Suspect count) = refl

module _ (plan : List ℕ) (k : ℕ) (r : VerdictAnswer) (labels ranks table shown : Lent (List ℕ))
    (call : VerdictCall plan k r labels ranks table shown) (stable size : ℕ) where
  abbrev number₀ : ℕ
  number₀ = verdict_refusal plan k labels.before ranks.before table.before shown.before

  refusal-not-0 : verdict_refuses r ≡ 1 → number₀ ≡ 0 → ⊥
  unfolding verdict_answer
  refusal-not-0 says = refused-by verdict_refuses _ r _ _ call.answer says (verdict-answers (found (instance_of plan k)))

  pub verdict-refused : (number : ℕ) → r ≡ verdicts.Refused number
      → VerdictExport plan k number labels ranks table shown (kept stable) (kept size)
  verdict-refused number is =
      let n = refusal-not-0 (ap verdict_refuses is) in
      record {
        numbered = sym (ap verdict_number is) ∙ call.numbered;
        labelled = call.labelled;
        ranked = call.ranked;
        settled = call.settled;
        cycled = call.cycled;
        judged = sym (when-refused _ _ _ n);
        sized = sym (when-refused _ _ _ n);
      }

  pub verdict-given : (judged : Bool) (size' : ℕ) → verdict_number r ≡ 0 → verdict_is_stable r ≡ judged → verdict_size r ≡ size'
      → VerdictExport plan k 0 labels ranks table shown (wrote stable (flag judged)) (wrote size size')
  verdict-given judged size' zero is long =
      let n : number₀ ≡ 0 = sym call.numbered ∙ zero in
      record {
        numbered = sym n;
        labelled = call.labelled;
        ranked = call.ranked;
        settled = call.settled;
        cycled = call.cycled;
        judged = ap flag (sym is ∙ call.stable ∙ when-given _ _ _ n) ∙ sym (when-given _ _ _ n);
        sized = written _ _ _ _ _ n (sym long ∙ call.size);
      }

abbrev steady_refuses : SteadyAnswer → ℕ
steady_refuses (tables.Refused number) = 1
steady_refuses (tables.Listed count) = 0

module _ (plan : List ℕ) (k : ℕ) (r : SteadyAnswer) (out : Lent (List ℕ)) (call : SteadyCall plan k r out) (count : ℕ) where
  pub steady-refused : (number : ℕ) → r ≡ tables.Refused number → SteadyExport plan k number out (kept count)
  unfolding steady_answer
  steady-refused number is =
      let n : steady_refusal plan k out.before ≡ 0 → ⊥
      = refused-by steady_refuses _ r _ _ call.answer (ap steady_refuses is) refl in
      record {
        numbered = sym (ap refusal_of is) ∙ call.numbered;
        bytes = call.written;
        counted = sym (when-refused _ _ _ n);
      }

  pub steady-given : (listed : ℕ) → r ≡ tables.Listed listed → SteadyExport plan k 0 out (wrote count listed)
  steady-given listed is =
      let n : steady_refusal plan k out.before ≡ 0 = sym call.numbered ∙ ap refusal_of is in
      record {
        numbered = sym n;
        bytes = call.written;
        counted = written _ _ _ _ _ n (sym (ap count_of is) ∙ call.counted);
      }

module _ (plan : List ℕ) (k : ℕ) (acts : List ℕ) (limit : ℕ) (table : Lent (List ℕ)) (r : RunAnswer)
    (call : Runs plan k acts limit table.before r table.after) (applied rounds exhausted : ℕ) where
  pub run-refused : (r.refused ≡ 0 → ⊥)
      → RunExport plan k acts limit r.refused table (kept applied) (kept rounds) (kept exhausted)
  run-refused h =
      let n : run_refusal plan k acts table.before ≡ 0 → ⊥ = λ z. h (call.number ∙ z) in
      record {
        numbered = call.number;
        bytes = call.bytes;
        acted = sym (when-refused _ _ _ n);
        whole = sym (when-refused _ _ _ n);
        cut = sym (when-refused _ _ _ n);
      }

  pub run-given : (exhausted' : ℕ) → exhausted' ≡ flag r.exhausted → r.refused ≡ 0
      → RunExport plan k acts limit 0 table (wrote applied r.applied) (wrote rounds r.rounds) (wrote exhausted exhausted')
  run-given exhausted' is zero =
      let n : run_refusal plan k acts table.before ≡ 0 = sym call.number ∙ zero in
      record {
        numbered = sym n;
        bytes = call.bytes;
        acted = call.applied ∙ sym (when-given _ _ _ n);
        whole = call.whole ∙ sym (when-given _ _ _ n);
        cut = is ∙ ap flag call.exhausted ∙ sym (when-given _ _ _ n);
      }
