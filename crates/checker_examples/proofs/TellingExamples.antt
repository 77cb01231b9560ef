-- The telling examples, worked out from the definitions that the contracts cite.
use mathlib.Core.Path.{refl}
use Rattle.plan_examples.specs.Plans.{first_of_twelve}
use Rattle.checker_examples.specs.TellingExamples.{six_routers, six, six_falling, twelve, telling_examples, TellingExamplesHold}
use Rattle.checker_examples.proofs.Questions.{all_rules}
use Rattle.checker_examples.proofs.Answered.{answered}

pub telling-examples : TellingExamplesHold
unfolding all_rules first_of_twelve six_routers six six_falling twelve telling_examples
telling-examples = answered telling_examples refl
