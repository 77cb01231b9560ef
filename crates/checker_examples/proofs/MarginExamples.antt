-- The examples of margins, worked out from the definitions that the contracts cite.
use mathlib.Core.Path.{refl}
use Rattle.checker_examples.specs.MarginExamples.{ends, cycle_plan, margin_examples, MarginExamplesHold}
use Rattle.checker_examples.proofs.Questions.{all_rules}
use Rattle.checker_examples.proofs.Answered.{answered}

pub margin-examples : MarginExamplesHold
unfolding all_rules ends cycle_plan margin_examples
margin-examples = answered margin_examples refl
