-- The examples of plans with changed roles, worked out from the definitions that the contracts cite.
use mathlib.Core.Path.{refl}
use Rattle.plan_examples.specs.Plans.{four_routers, small_plan, m3_plan, m3_with_roles}
use Rattle.steady_examples.specs.SteadyCallExamples.{pairs_and_one}
use Rattle.checker_examples.proofs.Questions.{all_rules}
use Rattle.checker_theorems.specs.HopSets.{stepped_below}
use Rattle.checker_theorems.specs.HopSetsExamples.{HopSetsExamples}

pub hop-sets-examples : HopSetsExamples
unfolding all_rules four_routers small_plan m3_plan m3_with_roles pairs_and_one stepped_below
hop-sets-examples =
    record {
      call = record { answer = refl; numbered = refl; named = refl };
      role1 = refl;
      role3 = refl;
      role2 = refl;
      role4 = refl;
      at0 = refl;
      at1 = refl;
      of_role3 = refl;
      nowhere = refl;
      by_its_bit = refl;
      everyone = refl;
      counted = refl;
    }
