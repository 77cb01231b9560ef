-- The examples with a cut, worked out from the definitions that the contracts cite.
use mathlib.Core.Path.{refl}
use Rattle.plan_examples.specs.Plans.{four_routers}
use Rattle.checker_examples.specs.CutOffExamples.{zero_cut_off, one_cut_off, reflector_cut_off, sender_cut_off, clients_cut_off, diagonal_cut_off, cut_off_examples, CutOffExamplesHold}
use Rattle.checker_examples.proofs.Questions.{all_rules}
use Rattle.checker_examples.proofs.Answered.{answered}

pub cut-off-examples : CutOffExamplesHold
unfolding all_rules four_routers zero_cut_off one_cut_off reflector_cut_off sender_cut_off clients_cut_off diagonal_cut_off cut_off_examples
cut-off-examples = answered cut_off_examples refl
