-- The examples of roles 4 and 5, worked out from the definitions that the contracts cite.
use mathlib.Core.Path.{refl}
use Rattle.plan_examples.specs.Plans.{four_routers, small_plan, m3_plan, m3_with_roles}
use Rattle.checker_examples.specs.TellingExamples.{six_routers, six}
use Rattle.checker_examples.specs.ParentsExamples.{around, in_the_middle}
use Rattle.checker_examples.specs.WideExamples.{wide_four}
use Rattle.checker_examples.specs.HopExamples.{hop_plan, six_mixed, wide_step, hop_examples, HopExamplesHold}
use Rattle.checker_examples.proofs.Questions.{all_rules}
use Rattle.checker_examples.proofs.Answered.{answered}

pub hop-examples : HopExamplesHold
unfolding
    all_rules four_routers small_plan m3_plan m3_with_roles six_routers six around in_the_middle wide_four hop_plan six_mixed wide_step hop_examples
hop-examples = answered hop_examples refl
