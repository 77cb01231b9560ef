-- The small plans of document 01, worked out from the definitions that the contracts cite.
use mathlib.Core.Path.{refl}
use Rattle.plan_examples.specs.Plans.{four_routers, small_plan, m3_plan}
use Rattle.checker_examples.specs.SmallPlans.{M1, M2, M3, M4, M5, M6, M7, M8, M9, small_plans, SmallPlansHold}
use Rattle.checker_examples.proofs.Questions.{all_rules}
use Rattle.checker_examples.proofs.Answered.{answered}

pub small-plans : SmallPlansHold
unfolding all_rules four_routers small_plan m3_plan M1 M2 M3 M4 M5 M6 M7 M8 M9 small_plans
small-plans = answered small_plans refl
