-- The examples, worked out from the rules.
use mathlib.Core.Path.{refl}
use Rattle.base.specs.Below.{all_below, any_below}
use Rattle.base.specs.Best.{keep_best, best}
use Rattle.route_rules.specs.Preference.{nearer, has_step, hops, prefers, prefers_by}
use Rattle.route_rules.specs.Activation.{reflects, advertises, hears, sender_of, route_to, choice, choose}
use Rattle.route_rules.specs.Rounds.{acted, rounds_from, rounds}
use Rattle.net_tables.specs.TableBytes.{read_route, activate_bytes, run_bytes}
use Rattle.net_tables.specs.Examples.{three_routers, lent}
use Rattle.route_rules.specs.Examples.{among, network, neighbours, distances, six_with}
use Rattle.net_run.specs.Examples.{left_over, RunExamples}

pub run-examples : RunExamples
unfolding
    three_routers lent among network neighbours distances six_with left_over read_route activate_bytes run_bytes
    nearer has_step hops prefers prefers_by reflects advertises hears sender_of route_to choice choose acted rounds_from rounds all_below any_below keep_best best
run-examples =
    record {
      limit_below_the_length = record { count = refl; whole = refl; exhausted = refl; bytes = refl };
      limit_at_the_length = record { count = refl; whole = refl; exhausted = refl; bytes = refl };
      limit_above_the_length = record { count = refl; whole = refl; exhausted = refl; bytes = refl };
      role4 = record { count = refl; whole = refl; exhausted = refl; bytes = refl };
      role5 = record { count = refl; whole = refl; exhausted = refl; bytes = refl };
      role3 = record { count = refl; whole = refl; exhausted = refl; bytes = refl };
    }
