-- The examples of the call that lists steady tables, worked out from the definitions that the contracts cite.
use mathlib.Core.Path.{refl}
use Rattle.plan_examples.specs.Plans.{four_routers, small_plan, m3_plan, m3_with_roles, m3_with_nobody}
use Rattle.checker_examples.specs.ParentsExamples.{around}
use Rattle.checker_examples.specs.WideExamples.{wide_four}
use Rattle.steady_examples.specs.SteadyCallExamples.{three_in_turn, pairs_and_one, pair_on_pair, thirteen_in_a_row, twelve_in_a_row, steady_call_examples, SteadyCallExamplesHold}
use Rattle.checker_examples.proofs.Questions.{all_rules}
use Rattle.checker_examples.proofs.Answered.{answered}

pub steady-call-examples : SteadyCallExamplesHold
unfolding
    all_rules four_routers small_plan m3_plan m3_with_roles m3_with_nobody around wide_four three_in_turn pairs_and_one pair_on_pair
    thirteen_in_a_row twelve_in_a_row steady_call_examples
steady-call-examples = answered steady_call_examples refl
