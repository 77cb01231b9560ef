-- The verdict, case by case.
use Prim.Native.Nat.{ℕ}
use mathlib.Core.Path.{◌≡◌, refl, ◌∙◌, sym, ap}
use mathlib.Core.Bool.{Bool, true, false, cond}
use mathlib.Core.List.{List}
use lib.ListN.{length}
use Rattle.base.specs.Lent.{Lent}
use Rattle.route_rules.specs.Instance.{Instance}
use Rattle.net_rules.specs.FromPlan.{instance_of}
use Rattle.net_verdict.specs.declared.Assessment.{Assessment}
use Rattle.net_verdict.specs.declared.Assessment.TheVariants.{Stable, Suspect}
use Rattle.net_verdict.specs.Assessed.{is_stable, highest_of, cycle_of, found, Assessed}
use Rattle.call_rules.specs.Refusals.{verdict_refusal}
use Rattle.call_verdict.specs.declared.verdict.VerdictAnswer.TheVariants as answers
use Rattle.call_verdict.specs.Verdict.{verdict_answer, labels_after, ranks_after, table_after, cycle_after, verdict_number, verdict_is_stable, verdict_size, size_of, answer_of, VerdictCall}
use Rattle.plan_rules.proofs.Refused.{when-refused, when-given}

not-refused : (a : Assessment) → verdict_number (answer_of a) ≡ 0
not-refused (Stable highest) = refl
not-refused (Suspect count) = refl

cond-case : {A B : Type 0} (f : A → B) (b : Bool) (x y : A) → f (cond b x y) ≡ cond b (f x) (f y)
cond-case f true x y = refl
cond-case f false x y = refl

cond-itself : (b : Bool) → cond b true false ≡ b
cond-itself true = refl
cond-itself false = refl

-- what is left as it was
abbrev pub kept : {A : Type 0} → A → Lent A
kept x = record { before = x; after = x }

module _ (plan : List ℕ) (k : ℕ) where
  pub verdict-refused : (labels ranks table shown : List ℕ) (number : ℕ)
      → number ≡ verdict_refusal plan k labels ranks table shown → (number ≡ 0 → ⊥)
      → VerdictCall plan k (answers.Refused number) (kept labels) (kept ranks) (kept table) (kept shown)
  unfolding verdict_answer labels_after ranks_after table_after cycle_after
  verdict-refused labels ranks table shown number same h =
      let n : verdict_refusal plan k labels ranks table shown ≡ 0 → ⊥ = λ z. h (same ∙ z) in
      record {
        answer = ap answers.Refused same ∙ sym (when-refused _ _ _ n);
        numbered = same;
        stable = sym (when-refused _ _ _ n);
        size = sym (when-refused _ _ _ n);
        labelled = sym (when-refused _ _ _ n);
        ranked = sym (when-refused _ _ _ n);
        settled = sym (when-refused _ _ _ n);
        cycled = sym (when-refused _ _ _ n);
      }

  pub verdict-given : (labels ranks table shown : Lent (List ℕ)) (a : Assessment)
      → verdict_refusal plan k labels.before ranks.before table.before shown.before ≡ 0
      → Assessed (instance_of plan k) a labels ranks table shown
      → VerdictCall plan k (answer_of a) labels ranks table shown
  unfolding verdict_answer found size_of labels_after ranks_after table_after cycle_after
  verdict-given labels ranks table shown a given f =
      let I : Instance = instance_of plan k in
      let x : Assessment = Stable (highest_of I) in
      let y : Assessment = Suspect (length (cycle_of I)) in
      record {
        answer = ap answer_of f.verdict ∙ sym (when-given _ _ _ given);
        numbered = not-refused a ∙ sym given;
        stable =
            ap (λ x. verdict_is_stable (answer_of x)) f.verdict
            ∙ cond-case (λ x. verdict_is_stable (answer_of x)) (is_stable I) x y
            ∙ cond-itself (is_stable I)
            ∙ sym (when-given _ _ _ given);
        size =
            ap (λ x. verdict_size (answer_of x)) f.verdict
            ∙ cond-case (λ x. verdict_size (answer_of x)) (is_stable I) x y
            ∙ sym (when-given _ _ _ given);
        labelled = f.labelled ∙ sym (when-given _ _ _ given);
        ranked = f.ranked ∙ sym (when-given _ _ _ given);
        settled = f.settled ∙ sym (when-given _ _ _ given);
        cycled = f.cycled ∙ sym (when-given _ _ _ given);
      }
