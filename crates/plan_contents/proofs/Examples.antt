-- The examples, worked out from the rules.
use mathlib.Core.Path.{refl}
use Rattle.plan_examples.specs.Plans.{first_of_twelve}
use Rattle.plan_contents.specs.Header.{mark_ok, header_ok, router_count_ok}
use Rattle.plan_contents.specs.Contents.{kinds_ok, places_ok, sizes_ok, contents_ok}
use Rattle.plan_contents.specs.Examples.{other_count, other_mark, first_of_wide, one_byte_short, entries_of, four_entries, marked, LengthExamples, ContentsExamples}

pub length-examples : LengthExamples
unfolding marked header_ok mark_ok
length-examples =
    record { longest = refl; one_byte_longer = refl; longest_wide = refl; one_byte_longer_wide = refl }

pub contents-examples : ContentsExamples
unfolding first_of_twelve other_count other_mark first_of_wide one_byte_short entries_of four_entries header_ok mark_ok router_count_ok kinds_ok places_ok sizes_ok contents_ok
contents-examples =
    record {
      header = refl;
      other_first_letter = refl;
      other_second_letter = refl;
      other_third_letter = refl;
      another_count = refl;
      another_mark = refl;
      wide = refl;
      narrow_width = refl;
      wide_width = refl;
      too_short = refl;
      count = refl;
      sixty_four = refl;
      sixty_five = refl;
      no_router = refl;
      high_bytes = refl;
      accepted = refl;
      by_low_bytes = refl;
      gap = refl;
      other_end = refl;
      in_order = refl;
      kinds_exchanged = refl;
      odd_sessions = refl;
      routers_short = refl;
      distances_long = refl;
      wide_size = refl;
      narrow_size_in_a_wide_plan = refl;
      wide_size_in_a_narrow_plan = refl;
      part = refl;
    }
