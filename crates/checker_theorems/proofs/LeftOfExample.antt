-- What is left of a list's settled table. By its name this file is checked before the laws, so that a `LeftOf` that holds of nothing is
-- refused here.
use native.Mathlib.Omega.{arith}
use mathlib.Core.Path.{refl}
use borrow.Author.Count.{below_none, below_more}
use Rattle.base.proofs.Numbers.{not-both}
use Rattle.plan_examples.specs.Plans.{four_routers, small_plan}
use Rattle.checker_examples.proofs.Questions.{all_rules}
use Rattle.checker_theorems.specs.Nobody.{LeftOf}
use Rattle.checker_theorems.specs.NobodyExamples.{gone_plan, old, left}

-- list 0 names router 3 alone
pub left-of-list-0 : LeftOf gone_plan 0 old left
unfolding all_rules four_routers small_plan gone_plan left
left-of-list-0 =
    record {
      table = refl;
      long = omega arith;
      lost =
          below_more _ 3
          (below_more _ 2
          (below_more _ 1 (below_more _ 0 (below_none _) (λ h. not-both _ h refl)) (λ h. not-both _ h refl))
          (λ h. not-both _ h refl))
          (λ h. (refl, refl));
      held =
          below_more _ 3
          (below_more _ 2 (below_more _ 1 (below_more _ 0 (below_none _) (λ h. (refl, refl))) (λ h. (refl, refl))) (λ h. (refl, refl)))
          (λ h. not-both _ refl h);
    }
