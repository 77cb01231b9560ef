-- The examples, worked out from the bytes.
use mathlib.Core.Path.{refl}
use Rattle.base.specs.Below.{any_below}
use Rattle.plan_examples.specs.Plans.{three_routers, nobody_between, wide_ends}
use Rattle.plan_rules.specs.Sessions.{pairs, in_session}
use Rattle.plan_rules.specs.Lists.{list_place}
use Rattle.net_rules.specs.FromPlan.{named}
use Rattle.net_rules.specs.RouterBytes.{as_router}
use Rattle.net_rules.specs.Examples.{NetworkExamples}

pub network-examples : NetworkExamples
unfolding three_routers nobody_between wide_ends pairs in_session named list_place any_below as_router
network-examples =
    record {
      count = refl;
      reflector = refl;
      client = refl;
      role3 = refl;
      role3_skips = refl;
      role1_does_not = refl;
      role4 = refl;
      role4_steps = refl;
      role4_does_not_skip = refl;
      role5 = refl;
      role5_steps = refl;
      role5_skips = refl;
      role1_has_no_step = refl;
      role3_has_no_step = refl;
      client_has_no_step = refl;
      neighbours = refl;
      in_either_order = refl;
      strangers = refl;
      distance = refl;
      distance_back = refl;
      no_way = refl;
      way_back = refl;
      other_ways = refl;
      long_way = refl;
      wide_distance = refl;
      wide_farthest = refl;
      two_bytes_full = refl;
      two_bytes_full_is_a_way = refl;
      wide_no_way = refl;
      wide_way_on = refl;
      listed = refl;
      not_by_position = refl;
      of_the_list_asked = refl;
      of_that_list_alone = refl;
      nobody_listed = refl;
      not_of_the_list_before = refl;
      not_of_the_list_after = refl;
      after_nobody = refl;
      no_router = refl;
      last_router_byte = refl;
    }
