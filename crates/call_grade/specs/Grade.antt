-- The call that grades a list. What it answers for a plan's list is the grade of the plan's network with that list (`grade`).
use Rattle.std.specs.Prelude.{ℕ, ◌≡◌, List}
use Rattle.plan_rules.specs.Refusal.{refuse}
use Rattle.plan_rules.specs.Refused.{unless_refused, field}
use Rattle.route_rules.specs.Instance.{Instance}
use Rattle.grade_rules.specs.Grade.{grade, grade_rounds}
use Rattle.net_rules.specs.FromPlan.{instance_of}
use Rattle.net_grade.specs.Grades.{grade_number, grade_named}
use Rattle.call_rules.specs.Refusals.{few_grouped, grade_refusal}
use Rattle.call_grade.specs.declared.grade.GradeAnswer.{GradeAnswer}
use Rattle.call_grade.specs.declared.grade.GradeAnswer.TheVariants.{Refused, Graded}

-- `number` is the refusal of the call, and I the plan's network with the list
unfoldable pub grade_answer : ℕ → Instance → GradeAnswer
grade_answer number I = unless_refused number (Refused number) (Graded (grade_named (grade I)) (grade_rounds I))

-- .. where the plan and the list pass: row 15 is what is left to ask
unfoldable pub graded_for : Instance → GradeAnswer
graded_for I = grade_answer (refuse (few_grouped I) 15 0) I

-- the refusal number, the number of the grade and the rounds for each case of the answer
abbrev pub refusal_of : GradeAnswer → ℕ
refusal_of (Refused number) = number
refusal_of (Graded grade rounds) = 0

abbrev pub grade_of : GradeAnswer → ℕ
grade_of (Refused number) = 0
grade_of (Graded grade rounds) = grade_number grade

abbrev pub rounds_of : GradeAnswer → ℕ
rounds_of (Refused number) = 0
rounds_of (Graded grade rounds) = rounds

-- the answer r of a call whose refusal is `number`
pub record GradeGiven (number : ℕ) (I : Instance) (r : GradeAnswer) : Type 0 where
  pub answer : r ≡ grade_answer number I
  pub numbered : refusal_of r ≡ number
  pub graded : grade_of r ≡ field number (grade I)
  pub rounds : rounds_of r ≡ field number (grade_rounds I)

-- the same of any call
abbrev pub GradeCall : (plan : List ℕ) (k : ℕ) (r : GradeAnswer) → Type 0
GradeCall plan k r = GradeGiven (grade_refusal plan k) (instance_of plan k) r
