-- The examples of a list of nobody, worked out from the definitions that the contracts cite.
use mathlib.Core.Path.{refl}
use Rattle.plan_examples.specs.Plans.{four_routers, small_plan, nobody_between, m3_with_nobody}
use Rattle.checker_examples.specs.WideExamples.{wide_four}
use Rattle.checker_examples.specs.NobodyExamples.{no_reflector, wide_nobody, nobody_examples, NobodyExamplesHold}
use Rattle.checker_examples.proofs.Questions.{all_rules}
use Rattle.checker_examples.proofs.Answered.{answered}

pub nobody-examples : NobodyExamplesHold
unfolding all_rules four_routers small_plan nobody_between m3_with_nobody wide_four no_reflector wide_nobody nobody_examples
nobody-examples = answered nobody_examples refl
