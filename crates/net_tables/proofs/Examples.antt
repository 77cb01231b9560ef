-- The examples, worked out from the rules.
use mathlib.Core.Path.{refl}
use Rattle.base.specs.Below.{all_below, any_below}
use Rattle.base.specs.Best.{keep_best, best}
use Rattle.base.specs.Tab.{tab}
use Rattle.route_rules.specs.Preference.{nearer, has_step, hops, prefers, prefers_by}
use Rattle.route_rules.specs.Activation.{reflects, advertises, hears, sender_of, route_to, choice, choose}
use Rattle.net_tables.specs.TableBytes.{read_route, table_of, table_bytes, activate_bytes}
use Rattle.route_rules.specs.Examples.{among, network, neighbours, distances, six_with}
use Rattle.net_tables.specs.Examples.{three_routers, lent, lent_six, TableExamples}

pub table-examples : TableExamples
unfolding
    three_routers lent among network neighbours distances six_with lent_six read_route table_of table_bytes activate_bytes
    nearer has_step hops prefers prefers_by reflects advertises hears sender_of route_to choice choose all_below any_below keep_best best tab
table-examples =
    record {
      egress_then_sender = refl;
      nothing_is_twice255 = refl;
      one_of255_is_not = refl;
      entry_read = refl;
      entry_written = refl;
      nothing_written = refl;
      table_read = refl;
      table_written = refl;
      act_in_bytes = refl;
      told_by_its_egress = refl;
      without_the_step = refl;
      role5_told_by_its_egress = refl;
      told_without_a_way = refl;
      told_by_a_left_over = refl;
      nearest_told_by_its_egress = refl;
      told_by_a_reflector = refl;
      client_has_no_step = refl;
    }
