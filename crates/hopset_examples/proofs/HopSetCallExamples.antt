-- The examples of the call that names a set, worked out from the definitions that the contracts cite.
use mathlib.Core.Path.{refl}
use Rattle.plan_examples.specs.Plans.{four_routers, small_plan, m3_plan, m3_with_roles, m3_with_nobody}
use Rattle.checker_examples.specs.ParentsExamples.{around}
use Rattle.checker_examples.specs.WideExamples.{wide_four}
use Rattle.steady_examples.specs.SteadyCallExamples.{three_in_turn, pairs_and_one, thirteen_in_a_row}
use Rattle.hopset_examples.specs.HopSetCallExamples.{three_with_chord, chord_step_at0, chord_step_at1, two_around_one, five_in_a_row, hop_set_call_examples, HopSetCallExamplesHold}
use Rattle.checker_examples.proofs.Questions.{all_rules}
use Rattle.checker_examples.proofs.Answered.{answered}

pub hop-set-call-examples : HopSetCallExamplesHold
unfolding
    all_rules four_routers small_plan m3_plan m3_with_roles m3_with_nobody around wide_four three_in_turn pairs_and_one thirteen_in_a_row
    three_with_chord chord_step_at0 chord_step_at1 two_around_one five_in_a_row hop_set_call_examples
hop-set-call-examples = answered hop_set_call_examples refl
