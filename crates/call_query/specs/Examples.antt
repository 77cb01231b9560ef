-- Examples that tell what the calls return from a misreading of it, on the plans of three routers that crate plan_examples gives in
-- literal bytes. Beside each stands what a misreading gives.
use Rattle.std.specs.Prelude.{◌≡◌, true}
use Rattle.plan_examples.specs.Plans.{three_routers, nobody_between}
use Rattle.call_rules.specs.Refusals.{egress_list_refusal}
use Rattle.call_query.specs.declared.relies.ReliesAnswer.TheVariants.{Yes, No}
use Rattle.call_query.specs.Size.{size_routers, size_lists}
use Rattle.call_query.specs.EgressList.{egress_list_start, egress_list_size}
use Rattle.call_query.specs.Relies.{relied, relies_flag}

pub record QueryExamples : Type 0 where
  -- "n, the number of routers", "one byte m .. then m lists"
  pub routers : size_routers three_routers ≡ 3  -- exchanged: 2
  pub lists : size_lists three_routers ≡ 2  -- exchanged: 3
  -- "the numbers of list k handed back as that stretch of the plan itself. If refused, the stretch is empty"
  pub part_start : egress_list_start three_routers 1 ≡ 67  -- at its count byte: 66
  pub part_size : egress_list_size three_routers 1 ≡ 2
  pub refused_part : egress_list_size three_routers 2 ≡ 0
  -- "A list with count 0 is now legal": its part is empty, at its own place, and the second call gives 0, where a refused list has the
  -- empty part at the plan's start and its number
  pub empty_part_start : egress_list_start nobody_between 1 ≡ 67  -- as if refused: 0
  pub empty_part_size : egress_list_size nobody_between 1 ≡ 0
  pub empty_part_number : egress_list_refusal nobody_between 1 ≡ 0  -- as if refused: 7
  pub after_the_empty_part : egress_list_start nobody_between 2 ≡ 68  -- no count byte for an empty list: 67
  pub its_size : egress_list_size nobody_between 2 ≡ 2
  pub still_counted : size_lists nobody_between ≡ 3  -- lists of someone alone: 2
  -- "the reliance of one router on another answered": 0 relies on 1, and 1 is listed
  pub it_relies : relied three_routers 0 0 1 ≡ Yes  -- the other way round: No
  pub it_does_not : relied three_routers 0 1 0 ≡ No  -- the other way round: Yes
  pub flag_of_yes : relies_flag Yes ≡ true
