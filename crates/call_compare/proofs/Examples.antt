-- The examples, worked out from the definitions that the contracts cite.
use mathlib.Core.Path.{refl}
use Rattle.plan_examples.specs.Plans.{three_routers}
use Rattle.route_rules.specs.Preference.{nearer, has_step, hops, prefers, better, margin_of}
use Rattle.call_compare.specs.Compare.{which_better, has_margin, margin_number, preferred_of, compared}
use Rattle.call_compare.specs.Examples.{CompareExamples}

pub compare-examples : CompareExamples
unfolding three_routers which_better has_margin margin_number preferred_of compared nearer has_step hops prefers better margin_of
compare-examples =
    record {
      first_is_better = refl;
      second_is_better = refl;
      neither = refl;
      first_is1 = refl;
      second_is2 = refl;
      neither_is0 = refl;
      told_from_afar = refl;
      near_but_passed_on = refl;
      told_from_afar_is1 = refl;
      passed_on_is2 = refl;
      at_role5 = refl;
      not_at_role1 = refl;
      not_at_role3 = refl;
      not_at_a_client = refl;
      both_told = refl;
      both_passed_on = refl;
      zero_by_the_step = refl;
      zero_by_the_number = refl;
      same_egress = refl;
      same_egress_exchanged = refl;
      way_passed_on = refl;
      minus253 = refl;
      there_is_a_margin = refl;
      number_of_second = refl;
      number_of_first = refl;
      number_of_neither = refl;
      absent_is_none = refl;
      zero_is_a_margin = refl;
      number_of_minus_four = refl;
    }
