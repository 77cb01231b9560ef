-- The examples, worked out from the rules.
use mathlib.Core.Path.{refl}
use Rattle.base.specs.Below.{all_below, any_below}
use Rattle.base.specs.Seek.{count}
use Rattle.plan_rules.specs.Routers.{router_ok, routers_ok}
use Rattle.plan_rules.specs.Sessions.{session_ok, sessions_ok, pairs, in_session}
use Rattle.plan_rules.specs.Parents.{parent_count, few_parents, parents_ok}
use Rattle.plan_rules.specs.Distances.{distances_ok}
use Rattle.plan_rules.specs.Lists.{list_place, member_ok, list_at_ok, list_ok, each_list_ok, lists_ok}
use Rattle.plan_rules.specs.Examples.{around_client2, all_with2, wide_row, lists_of_one, BodiesExamples}

pub bodies-examples : BodiesExamples
unfolding
    around_client2 all_with2 wide_row lists_of_one
    router_ok routers_ok session_ok sessions_ok pairs in_session parent_count few_parents parents_ok distances_ok
    list_place member_ok list_at_ok list_ok each_list_ok lists_ok all_below any_below count
bodies-examples =
    record {
      four_bytes = refl;
      low_bytes_fall = refl;
      low_bytes_rise = refl;
      low_three_fall = refl;
      equal_identifiers = refl;
      role_zero = refl;
      role_three = refl;
      role_four = refl;
      role_five = refl;
      role_six = refl;
      client = refl;
      third_role = refl;
      fourth_role = refl;
      fifth_role = refl;
      by_first_then_second = refl;
      second_falls = refl;
      higher_first = refl;
      number_at_n = refl;
      no_session = refl;
      in_either_order = refl;
      strangers = refl;
      four = refl;
      five = refl;
      five_of_role3 = refl;
      four_and_a_client = refl;
      five_of_a_reflector = refl;
      five_of_a_role3_reflector = refl;
      three_each = refl;
      high_byte = refl;
      row_then_column = refl;
      farthest = refl;
      farthest_is_a_way = refl;
      no_way = refl;
      no_way_number = refl;
      way_back = refl;
      cut_off = refl;
      diagonal = refl;
      cut_off_from_itself = refl;
      four_byte_distance = refl;
      wide_row_then_column = refl;
      wide_farthest = refl;
      wide_farthest_is_a_way = refl;
      wide_no_way = refl;
      two_bytes_full = refl;
      two_bytes_full_is_a_way = refl;
      wide_cut_off = refl;
      wide_diagonal = refl;
      wide_cut_off_from_itself = refl;
      second_list = refl;
      its_number = refl;
      last_number = refl;
      listed_at_n = refl;
      numbers_fall = refl;
      every_router = refl;
      one_more_than_n = refl;
      sixty_five_lists = refl;
      no_list = refl;
      empty_body = refl;
      empty_list = refl;
      empty_list_of_one = refl;
      empty_first = refl;
      empty_between = refl;
      empty_last = refl;
      after_an_empty_list = refl;
      empty_is_counted = refl;
      sixty_four_empty = refl;
      sixty_five_empty = refl;
      byte_after_an_empty_list = refl;
      one_byte_after = refl;
    }
