-- The examples of grades, worked out from the definitions that the contracts cite.
use Prim.Native.Nat.{ℕ, zero, suc, ◌<◌}
use native.Mathlib.Omega.{arith}
use mathlib.Core.Path.{◌≡◌, refl, ap}
use mathlib.Core.List.{[], ◌∷◌}
use lib.ListN.{get_or}
use lib.Dec.{lit<, lit≤}
use Rattle.plan_examples.specs.Plans.{four_routers, small_plan, m3_plan, m3_with_roles}
use Rattle.steady_rules.specs.Numbers.{nth_of}
use Rattle.steady_rules.specs.Equations.{stage}
use Rattle.grade_rules.specs.Machine.{rest_within, move_for, stuck, loops, longest}
use Rattle.grade_rules.specs.Moving.{foremost, toggled, machine}
use Rattle.grade_rules.specs.Grade.{grade, rest_rounds, grade_rounds}
use Rattle.net_rules.specs.FromPlan.{instance_of}
use Rattle.net_grade.specs.declared.grades.Grade.TheVariants as grades
use Rattle.call_rules.specs.Refusals.{grade_refusal}
use Rattle.call_rules.proofs.RowsExactly.{table-tested}
use Rattle.call_run.specs.Run.{run_table}
use Rattle.call_grade.specs.Grade.{grade_answer}
use Rattle.steady_examples.specs.SteadyCallExamples.{three_in_turn}
use Rattle.checker_examples.proofs.Questions.{all_rules}
use Rattle.checker_theorems.specs.SteadyListedExamples.{own_at_both}
use Rattle.checker_theorems.specs.Grades.{RunToRest, RunComesBack}
use Rattle.checker_theorems.specs.GradesExamples.{four_that_may_loop, four_that_may_be_caught, in_turn, twice_around, GradesExamples}
use Rattle.checker_theorems.proofs.SteadyListedExamples.{steady-listed-examples}

-- router 1 takes what 0 tells it
ends : RunToRest m3_plan 0 own_at_both
unfolding all_rules four_routers small_plan m3_plan
ends = record { acts = 1 ∷ []; below = one; steady = steady-listed-examples.rests }
  where
    one : (i : ℕ) → i < 1 → get_or (1 ∷ []) i 0 < 4
    one zero l = lit< tt
    one (suc i) l = absurd (omega arith)

back : RunComesBack three_in_turn 0 in_turn twice_around
unfolding all_rules three_in_turn
back = record { below = below; back = refl; first = 4; changed = changed }
  where
    below : (i : ℕ) → i < 9 → get_or twice_around i 0 < 6
    below zero l = lit< tt
    below (suc zero) l = lit< tt
    below (suc (suc zero)) l = lit< tt
    below (suc (suc (suc zero))) l = lit< tt
    below (suc (suc (suc (suc zero)))) l = lit< tt
    below (suc (suc (suc (suc (suc zero))))) l = lit< tt
    below (suc (suc (suc (suc (suc (suc zero)))))) l = lit< tt
    below (suc (suc (suc (suc (suc (suc (suc zero))))))) l = lit< tt
    below (suc (suc (suc (suc (suc (suc (suc (suc zero)))))))) l = lit< tt
    below (suc (suc (suc (suc (suc (suc (suc (suc (suc i))))))))) l = absurd (omega arith)

    -- router 1 holds its own client's route after the fourth act
    changed : run_table three_in_turn 0 twice_around 4 in_turn ≡ in_turn → ⊥
    changed e = let z : ◌≡◌ {A = ℕ} 4 5 = ap (λ b. get_or b 2 0) e in omega arith

pub grades-examples : GradesExamples
unfolding all_rules grade_refusal grade_answer grade rest_rounds grade_rounds rest_within move_for stuck loops longest foremost toggled machine nth_of stage four_routers small_plan m3_plan m3_with_roles four_that_may_loop four_that_may_be_caught three_in_turn
grades-examples =
    record {
      always = record { answer = refl; numbered = refl; graded = refl; rounds = refl };
      stable = record { answer = refl; numbered = refl; graded = refl; rounds = refl };
      can = record { answer = refl; numbered = refl; graded = refl; rounds = refl };
      caught = record { answer = refl; numbered = refl; graded = refl; rounds = refl };
      none = record { answer = refl; numbered = refl; graded = refl; rounds = refl };
      held = record { long = lit≤ tt; rule = (table-tested (instance_of m3_plan 0) (lit≤ tt) own_at_both).shown refl };
      ends = ends;
      back = back;
      between = refl;
    }
