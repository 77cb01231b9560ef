-- The examples of explanations, worked out from the definitions that the contracts cite.
use mathlib.Core.Path.{refl}
use Rattle.checker_examples.specs.ExplainExamples.{plan, shared, explain_examples, ExplainExamplesHold}
use Rattle.checker_examples.proofs.Questions.{all_rules}
use Rattle.checker_examples.proofs.Answered.{answered}

pub explain-examples : ExplainExamplesHold
unfolding all_rules plan shared explain_examples
explain-examples = answered explain_examples refl
