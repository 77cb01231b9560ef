-- The examples of role 3, worked out from the definitions that the contracts cite.
use mathlib.Core.Path.{refl}
use Rattle.checker_examples.specs.SkippingExamples.{two_sites, skipping, both_skipping, skipping_examples, SkippingExamplesHold}
use Rattle.checker_examples.proofs.Questions.{all_rules}
use Rattle.checker_examples.proofs.Answered.{answered}

pub skipping-examples : SkippingExamplesHold
unfolding all_rules two_sites skipping both_skipping skipping_examples
skipping-examples = answered skipping_examples refl
