-- The examples of RRP2 plans, worked out from the definitions that the contracts cite.
use mathlib.Core.Path.{refl}
use Rattle.plan_examples.specs.Plans.{wide_ends}
use Rattle.checker_examples.specs.WideExamples.{wide_four, other_mark, narrow_mark, no_way_to_itself, wide_examples, WideExamplesHold}
use Rattle.checker_examples.proofs.Questions.{all_rules}
use Rattle.checker_examples.proofs.Answered.{answered}

pub wide-examples : WideExamplesHold
unfolding all_rules wide_ends wide_four other_mark narrow_mark no_way_to_itself wide_examples
wide-examples = answered wide_examples refl
