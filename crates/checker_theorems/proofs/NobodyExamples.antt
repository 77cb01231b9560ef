-- The examples of a list of nobody, worked out from the definitions that the contracts cite.
use native.Mathlib.Omega.{arith}
use mathlib.Core.Path.{refl}
use Rattle.plan_examples.specs.Plans.{four_routers, small_plan, nobody_between}
use Rattle.checker_examples.proofs.Questions.{all_rules}
use Rattle.checker_theorems.specs.Series.{series_buffer, series_acts, ForThis}
use Rattle.checker_theorems.specs.Nobody.{ListsNobody}
use Rattle.checker_theorems.specs.NobodyExamples.{gone_plan, old, left, rounds_of, NobodyExamples}
use Rattle.checker_theorems.proofs.LeftOfExample.{left-of-list-0}
use Rattle.checker_theorems.proofs.Nobody.{prefix-gone}

legal : ListsNobody gone_plan 1
unfolding all_rules four_routers small_plan gone_plan
legal = record { plan_ok = refl; list_ok = omega arith; nobody = refl }

pub nobody-examples : NobodyExamples
unfolding all_rules four_routers small_plan nobody_between gone_plan series_buffer series_acts ForThis left rounds_of
nobody-examples =
    record {
      legal = legal;
      ranks = refl;
      settled = refl;
      left_of = left-of-list-0;
      starts = (prefix-gone gone_plan 1 legal).left_of 0 old left left-of-list-0;
      own_route = refl;
      for_this = (λ _. (refl, refl), tt);
      two = refl;
      after_two = refl;
      three = refl;
      after_three = refl;
    }
