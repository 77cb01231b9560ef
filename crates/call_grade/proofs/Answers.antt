-- The answer of the call, case by case.
use Prim.Native.Nat.{ℕ, zero, suc}
use mathlib.Core.Path.{◌≡◌, refl, ◌∙◌, sym, ap}
use mathlib.Core.Bool.{Bool, true, false, cond}
use mathlib.Core.List.{List}
use lib.Dec.{eqb}
use Rattle.std.specs.Prelude.{Option, Some, None}
use Rattle.plan_rules.specs.Refusal.{refuse}
use Rattle.plan_rules.specs.Refused.{field}
use Rattle.plan_rules.proofs.Refused.{when-refused}
use Rattle.route_rules.specs.Instance.{Instance}
use Rattle.steady_rules.specs.Steady.{steady_count}
use Rattle.grade_rules.specs.Machine.{stuck, loops}
use Rattle.grade_rules.specs.Grade.{list_machine, grade, grade_rounds}
use Rattle.net_rules.specs.FromPlan.{instance_of}
use Rattle.net_grade.specs.Grades.{grade_number, grade_named, graded_in, grading_of}
use Rattle.net_grade.specs.declared.grades.Graded as found
use Rattle.call_rules.specs.Refusals.{egress_list_refusal, few_grouped, grade_refusal}
use Rattle.call_rules.proofs.Granted.{asked-refused, asked-passed}
use Rattle.call_grade.specs.declared.grade.GradeAnswer.{GradeAnswer}
use Rattle.call_grade.specs.declared.grade.GradeAnswer.TheVariants.{Refused, Graded}
use Rattle.call_grade.specs.Grade.{grade_answer, graded_for, refusal_of, grade_of, rounds_of, GradeGiven, GradeCall}

-- the number of the grade with the number
number-named : (I : Instance) → grade_number (grade_named (grade I)) ≡ grade I
unfolding grade
number-named I = go (eqb (steady_count I) 0) (stuck (list_machine I)) (loops (list_machine I))
  where
    go : (a s p : Bool) → let n : ℕ = cond a 4 (cond s 3 (cond p 2 1)) in grade_number (grade_named n) ≡ n
    go true s p = refl
    go false true p = refl
    go false false true = refl
    go false false false = refl

given : (number : ℕ) (I : Instance) (r : GradeAnswer) → r ≡ grade_answer number I → GradeGiven number I r
unfolding grade_answer
given number I r e =
    record {
      answer = e;
      numbered = ap refusal_of e ∙ numbered number;
      graded = ap grade_of e ∙ graded number;
      rounds = ap rounds_of e ∙ rounds number;
    }
  where
    numbered : (n : ℕ) → refusal_of (grade_answer n I) ≡ n
    numbered zero = refl
    numbered (suc n) = refl

    graded : (n : ℕ) → grade_of (grade_answer n I) ≡ field n (grade I)
    graded zero = number-named I
    graded (suc n) = refl

    rounds : (n : ℕ) → rounds_of (grade_answer n I) ≡ field n (grade_rounds I)
    rounds zero = refl
    rounds (suc n) = refl

-- what is found of the network, as the call's answer
abbrev pub answered : Option found.Graded → GradeAnswer
answered None = Refused 15
answered (Some r) = Graded r.grade r.rounds

pub found-answer : (I : Instance) → answered (grading_of I) ≡ graded_for I
unfolding grading_of graded_for grade_answer refuse
found-answer I = go (few_grouped I)
  where
    go : (b : Bool)
        → answered (cond b (Some (graded_in (grade_named (grade I)) (grade_rounds I))) None) ≡ grade_answer (refuse b 15 0) I
    go true = refl
    go false = refl

module _ (plan : List ℕ) (k : ℕ) where
  pub graded-not : (number : ℕ) → number ≡ egress_list_refusal plan k → (number ≡ 0 → ⊥) → GradeCall plan k (Refused number)
  unfolding egress_list_refusal grade_refusal grade_answer
  graded-not number e ne =
      let same : number ≡ grade_refusal plan k = asked-refused plan _ _ number e ne in
      given _ (instance_of plan k) _ (ap Refused same ∙ sym (when-refused _ _ _ (λ z. ne (same ∙ z))))

  pub graded-so : egress_list_refusal plan k ≡ 0 → (r : GradeAnswer) → r ≡ graded_for (instance_of plan k) → GradeCall plan k r
  unfolding egress_list_refusal grade_refusal graded_for
  graded-so z r e =
      given _ (instance_of plan k) r (e ∙ ap (λ n. grade_answer n (instance_of plan k)) (asked-passed plan _ _ z))
