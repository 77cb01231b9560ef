-- What a run returns and leaves.
use Prim.Native.Nat.{ℕ}
use mathlib.Core.Path.{◌≡◌, ◌∙◌, sym}
use mathlib.Core.Bool.{false}
use mathlib.Core.List.{List}
use Rattle.net_rules.specs.FromPlan.{instance_of}
use Rattle.net_run.specs.Applied.{RunLeaves}
use Rattle.net_run.specs.declared.Applied.{Applied}
use Rattle.call_run.specs.declared.run.RunAnswer.{RunAnswer}
use Rattle.call_rules.specs.Refusals.{run_refusal}
use Rattle.call_run.specs.Run.{run_applied, run_rounds, run_exhausted, run_table, Runs}
use Rattle.plan_rules.proofs.Refused.{when-refused, when-given}

module _ (plan : List ℕ) (k : ℕ) (acts : List ℕ) (limit : ℕ) (table : List ℕ) (r : RunAnswer) where
  pub runs-not : (number : ℕ) → number ≡ run_refusal plan k acts table → (number ≡ 0 → ⊥)
      → (r.refused ≡ number) × (r.applied ≡ 0) × (r.rounds ≡ 0) × (r.exhausted ≡ false) → Runs plan k acts limit table r table
  unfolding run_applied run_rounds run_exhausted run_table
  runs-not number e ne q =
      let n : run_refusal plan k acts table ≡ 0 → ⊥ = λ z. ne (e ∙ z) in
      record {
        number = q.0 ∙ e;
        applied = q.1 ∙ sym (when-refused _ _ _ n);
        whole = q.2 ∙ sym (when-refused _ _ _ n);
        exhausted = q.3 ∙ sym (when-refused _ _ _ n);
        bytes = sym (when-refused _ _ _ n);
      }

  pub runs_so : run_refusal plan k acts table ≡ 0 → (after : List ℕ) (done : Applied) → RunLeaves (instance_of plan k) acts limit table done after
      → (r.refused ≡ 0) × (r.applied ≡ done.acts) × (r.rounds ≡ done.rounds) × (r.exhausted ≡ done.exhausted)
      → Runs plan k acts limit table r after
  unfolding run_applied run_rounds run_exhausted run_table
  runs_so z after done l q =
      record {
        number = q.0 ∙ sym z;
        applied = q.1 ∙ l.count ∙ sym (when-given _ _ _ z);
        whole = q.2 ∙ l.whole ∙ sym (when-given _ _ _ z);
        exhausted = q.3 ∙ l.exhausted ∙ sym (when-given _ _ _ z);
        bytes = l.bytes ∙ sym (when-given _ _ _ z);
      }
