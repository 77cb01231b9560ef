-- The examples of row 13, worked out from the definitions that the contracts cite.
use mathlib.Core.Path.{refl}
use Rattle.checker_examples.specs.ParentsExamples.{around, in_the_middle, session_broken, distance_broken, lists_broken, parents_examples, ParentsExamplesHold}
use Rattle.checker_examples.proofs.Questions.{all_rules}
use Rattle.checker_examples.proofs.Answered.{answered}

pub parents-examples : ParentsExamplesHold
unfolding all_rules around in_the_middle session_broken distance_broken lists_broken parents_examples
parents-examples = answered parents_examples refl
