-- The examples of comparisons with the hop step, worked out from the definitions that the contracts cite.
use mathlib.Core.Path.{refl}
use Rattle.checker_examples.specs.HopCompareExamples.{five_routers, hop_compare_examples, HopCompareExamplesHold}
use Rattle.checker_examples.proofs.Questions.{all_rules}
use Rattle.checker_examples.proofs.Answered.{answered}

pub hop-compare-examples : HopCompareExamplesHold
unfolding all_rules five_routers hop_compare_examples
hop-compare-examples = answered hop_compare_examples refl
