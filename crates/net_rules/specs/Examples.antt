-- Examples that tell the network of a plan from a misreading of its bytes, on the plans of three routers that crate plan_examples gives in
-- literal bytes. Beside each stands what a misreading gives.
use Rattle.std.specs.Prelude.{ℕ, ◌≡◌, true, false, List, [], ◌∷◌, set}
use Rattle.std.proofs.Math.Option.{none, some}
use Rattle.plan_examples.specs.Plans.{three_routers, nobody_between, wide_ends}
use Rattle.route_rules.specs.Instance.{Instance}
use Rattle.net_rules.specs.FromPlan.{instance_of}
use Rattle.net_rules.specs.RouterBytes.{as_router}

-- the plan with each of its lists
abbrev pub with_list0 : Instance
with_list0 = instance_of three_routers 0

abbrev pub with_list1 : Instance
with_list1 = instance_of three_routers 1

-- .. and with role 3 for router 0, in byte 26
abbrev pub with_role3 : Instance
with_role3 = instance_of (set three_routers 26 3) 0

-- .. with role 4, and with role 5
abbrev pub with_role4 : Instance
with_role4 = instance_of (set three_routers 26 4) 0

abbrev pub with_role5 : Instance
with_role5 = instance_of (set three_routers 26 5) 0

-- .. and with 65,535 from 0 to 2, in bytes 49 and 50; with 65,534
abbrev pub with_no_way : Instance
with_no_way = instance_of (set (set three_routers 49 255) 50 255) 0

abbrev pub with_a_long_way : Instance
with_a_long_way = instance_of (set (set three_routers 49 254) 50 255) 0

-- .. and with a list of nobody, and the list after it
abbrev pub with_nobody : Instance
with_nobody = instance_of nobody_between 1

abbrev pub with_list_after : Instance
with_list_after = instance_of nobody_between 2

-- .. and an RRP2 plan
abbrev pub wide : Instance
wide = instance_of wide_ends 0

pub record NetworkExamples : Type 0 where
  -- "n, the number of routers"
  pub count : with_list0.n ≡ 3
  -- "role (1 reflector, 2 client)"
  pub reflector : with_list0.reflector 0 ≡ true  -- role 2 for reflector: false
  pub client : with_list0.reflector 2 ≡ false  -- role 2 for reflector: true
  -- "Role 3 is such a reflector"
  pub role3 : with_role3.reflector 0 ≡ true  -- role 3 for client: false
  pub role3_skips : with_role3.skips 0 ≡ true  -- role 3 as role 1: false
  pub role1_does_not : with_list0.skips 0 ≡ false  -- each reflector: true
  -- "Roles 4 and 5 are roles 1 and 3 with that step"
  pub role4 : with_role4.reflector 0 ≡ true  -- role 4 for client: false
  pub role4_steps : with_role4.hop 0 ≡ true  -- role 4 as role 1: false
  pub role4_does_not_skip : with_role4.skips 0 ≡ false  -- role 4 as role 3 with the step: true
  pub role5 : with_role5.reflector 0 ≡ true  -- role 5 for client: false
  pub role5_steps : with_role5.hop 0 ≡ true  -- role 4 alone: false
  pub role5_skips : with_role5.skips 0 ≡ true  -- role 3 alone: false
  pub role1_has_no_step : with_list0.hop 0 ≡ false  -- each reflector: true
  pub role3_has_no_step : with_role3.hop 0 ≡ false  -- role 3 for the step: true
  pub client_has_no_step : with_role5.hop 1 ≡ false  -- every router: true
  -- "Two routers of a pair are neighbours."
  pub neighbours : with_list0.neighbour 1 2 ≡ true
  pub in_either_order : with_list0.neighbour 2 1 ≡ true  -- in one order alone: false
  pub strangers : with_list0.neighbour 0 2 ≡ false  -- a neighbour's neighbour: true
  -- "row u, column e is the distance from u to e", "It need not equal the distance back."
  pub distance : with_list0.dist 0 2 ≡ 258  -- the distance back: 3
  pub distance_back : with_list0.dist 2 0 ≡ 3  -- the distance there: 258
  -- "The distance 65,535 off the diagonal now means 'no way'"
  pub no_way : with_no_way.way 0 2 ≡ false  -- a very long way: true
  pub way_back : with_no_way.way 2 0 ≡ true  -- by the distance back, or cut off both ways: false
  pub other_ways : with_no_way.way 0 1 ≡ true  -- a router cut off from all: false
  pub long_way : with_a_long_way.way 0 2 ≡ true  -- from 65,534 on: false
  -- "4-byte distances, low byte first", "4,294,967,295 is no way"
  pub wide_distance : wide.dist 2 0 ≡ 70000  -- by two bytes: 4,464
  pub wide_farthest : wide.dist 0 1 ≡ 4294967294
  pub two_bytes_full : wide.dist 0 2 ≡ 65535  -- no way by 65,535: 4,294,967,295
  pub two_bytes_full_is_a_way : wide.way 0 2 ≡ true  -- no way by 65,535: false
  pub wide_no_way : wide.way 1 0 ≡ false  -- a very long way: true
  pub wide_way_on : wide.way 1 2 ≡ true  -- every distance of that router, or by two bytes: false
  -- "c router numbers", of the list asked for
  pub listed : with_list0.listed 1 ≡ true
  pub not_by_position : with_list0.listed 0 ≡ false  -- by its place in the list: true
  pub of_the_list_asked : with_list1.listed 2 ≡ true  -- of the first list: false
  pub of_that_list_alone : with_list0.listed 2 ≡ false  -- of the list after it: true
  -- "A list with count 0 is now legal: no outside route is left."
  pub nobody_listed : with_nobody.listed 0 ≡ false  -- count 0 for all routers: true
  pub not_of_the_list_before : with_nobody.listed 1 ≡ false  -- the list before it, or after it: true
  pub not_of_the_list_after : with_nobody.listed 2 ≡ false  -- the list after it: true
  pub after_nobody : with_list_after.listed 2 ≡ true  -- count 0 ending the lists: false
  -- a router in a byte, 255 for none
  pub no_router : as_router 255 ≡ none
  pub last_router_byte : as_router 254 ≡ some 254
