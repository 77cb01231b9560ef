-- What the variables hold, case by case of the answer.
use Prim.Native.Nat.{ℕ}
use mathlib.Core.Path.{◌≡◌, refl, ◌∙◌, sym, ap}
use mathlib.Core.List.{List}
use Rattle.plan_rules.proofs.Refused.{when-refused}
use Rattle.net_grade.specs.declared.grades.Grade.{Grade}
use Rattle.net_grade.specs.Grades.{grade_number}
use Rattle.call_rules.specs.Refusals.{grade_refusal}
use Rattle.call_verdict.proofs.Judging.{kept}
use Rattle.call_grade.specs.declared.grade.GradeAnswer.{GradeAnswer}
use Rattle.call_grade.specs.declared.grade.GradeAnswer.TheVariants.{Refused, Graded}
use Rattle.call_grade.specs.Grade.{grade_answer, refusal_of, grade_of, rounds_of, GradeCall}
use Rattle.c_rules.specs.Exports.{GradeExport}
use Rattle.c_rules.proofs.Written.{wrote, written, refused-by}

abbrev refuses : GradeAnswer → ℕ
refuses (Refused number) = 1
refuses (Graded grade rounds) = 0

module _ (plan : List ℕ) (k : ℕ) (r : GradeAnswer) (call : GradeCall plan k r) (before rounds : ℕ) where
  pub grade-refused : (number : ℕ) → r ≡ Refused number → GradeExport plan k number (kept before) (kept rounds)
  unfolding grade_answer
  grade-refused number is =
      let n : grade_refusal plan k ≡ 0 → ⊥ = refused-by refuses _ r _ _ call.answer (ap refuses is) refl in
      record {
        number = sym (ap refusal_of is) ∙ call.numbered;
        told = sym (when-refused _ _ _ n);
        within = sym (when-refused _ _ _ n);
      }

  pub grade-given : (found : Grade) (within x : ℕ) → r ≡ Graded found within → x ≡ grade_number found
      → GradeExport plan k 0 (wrote before x) (wrote rounds within)
  grade-given found within x is e =
      let n : grade_refusal plan k ≡ 0 = sym call.numbered ∙ ap refusal_of is in
      record {
        number = sym n;
        told = written _ _ _ _ _ n (e ∙ sym (ap grade_of is) ∙ call.graded);
        within = written _ _ _ _ _ n (sym (ap rounds_of is) ∙ call.rounds);
      }
