-- The examples of the figures over all lists, worked out from the definitions that the contract cites.
use mathlib.Core.Path.{refl}
use Rattle.plan_examples.specs.Plans.{four_routers, small_plan, m3_plan, m3_with_nobody}
use Rattle.checker_examples.specs.WideExamples.{wide_four}
use Rattle.checker_examples.specs.FiguresExamples.{three_in_a_group, sixty_four_lists, figures_examples, FiguresExamplesHold}
use Rattle.checker_examples.proofs.Questions.{all_rules}
use Rattle.checker_examples.proofs.Answered.{answered}

pub figures-examples : FiguresExamplesHold
unfolding all_rules four_routers small_plan m3_plan m3_with_nobody wide_four three_in_a_group sixty_four_lists figures_examples
figures-examples = answered figures_examples refl
