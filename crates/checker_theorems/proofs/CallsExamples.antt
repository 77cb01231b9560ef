-- The example of a series, worked out from the definitions that the contracts cite.
use native.Mathlib.Omega.{arith}
use mathlib.Core.Path.{refl}
use Rattle.plan_examples.specs.Plans.{four_routers, small_plan, m3_plan}
use Rattle.checker_theorems.specs.Series.{series_buffer, series_acts, ForThis}
use Rattle.checker_theorems.specs.CallsExamples.{start, calls, rounds_of, SeriesExamples}
use Rattle.checker_examples.proofs.Questions.{all_rules}

pub series-examples : SeriesExamples
unfolding all_rules four_routers small_plan m3_plan series_buffer series_acts ForThis start calls rounds_of
series-examples =
    record {
      starts = record { plan_ok = refl; list_ok = omega arith; stable_list = refl; long = omega arith; table = refl };
      for_this = (λ _. (refl, refl), (λ _. (refl, refl), (λ _. (refl, refl), (λ z. absurd (omega arith), (λ _. (refl, refl), tt)))));
      refused_at_n = refl;
      refused_plan = refl;
      acts = refl;
      rounds_of_all = refl;
      rounds_of_a_run = refl;
      buffer = refl;
      four_are_not_enough = λ h. omega (arith, h);
      five_are_enough = omega arith;
      settled = refl;
      later = refl;
    }
