-- The examples of what an act may read.
use mathlib.Core.Path.{refl}
use Rattle.base.specs.Below.{all_below}
use Rattle.base.specs.Seek.{seek}
use Rattle.route_rules.specs.Rounds.{acted, rounds_from, rounds}
use Rattle.route_theorems.specs.Delayed.{ended_by, round_start, earliest, may_read}
use Rattle.route_theorems.specs.DelayedExamples.{eight_acts, DelayedExamples}

pub delayed-examples : DelayedExamples
unfolding eight_acts may_read earliest round_start ended_by rounds rounds_from acted all_below seek
delayed-examples =
    record {
      one_applied = refl;
      ends_its_round = refl;
      starts_the_next = refl;
      rounds_start = refl;
      start_of_the_round_before = refl;
      before_that = refl;
      ends_a_round_and_reads = refl;
      one_act_later = refl;
      in_the_first_round = refl;
      in_the_second = refl;
      the_act = refl;
      after_the_act = refl;
    }
