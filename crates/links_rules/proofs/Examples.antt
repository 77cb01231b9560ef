-- The examples, worked out from the rules.
use mathlib.Core.Path.{refl}
use Rattle.base.specs.Below.{all_below}
use Rattle.base.specs.Tab.{tab, joined}
use Rattle.plan_contents.specs.Header.{router_count_ok}
use Rattle.plan_rules.specs.Distances.{row_of, body_of}
use Rattle.plan_rules.specs.Refusal.{refuse}
use Rattle.links_rules.specs.Sheet.{link_ok, sheet_ok}
use Rattle.links_rules.specs.Sums.{direct, summing}
use Rattle.links_rules.specs.Distances.{sums_ok, distances_refusal, sheet_body, distances_after}
use Rattle.links_rules.specs.Examples.{both_ways, eight, seven, eighteen, LinksExamples, RouterCountExamples}

pub links-examples : LinksExamples
unfolding
    both_ways eight seven eighteen distances_refusal row_of body_of sheet_body distances_after sums_ok direct summing link_ok sheet_ok
    refuse router_count_ok all_below tab joined
links-examples =
    record {
      one_router = (refl, refl);
      directed = (refl, refl);
      high_byte = (refl, refl);
      two_links = (refl, refl);
      through_the_last = (refl, refl);
      three_links = (refl, refl);
      loop = (refl, refl);
      loop_besides = (refl, refl);
      from_at_n = (refl, refl);
      to_at_n = (refl, refl);
      no_weight = (refl, refl);
      equal_links = (refl, refl);
      to_falls = (refl, refl);
      from_falls = (refl, refl);
      three_bytes = (refl, refl);
      six_bytes = (refl, refl);
      one_way = (refl, refl);
      no_links = (refl, refl);
      cut_off = (refl, refl);
      greatest = (refl, refl);
      one_more = (refl, refl);
      one_more_back = (refl, refl);
      shorter_walk = (refl, refl);
      sum_above = (refl, refl);
      greatest_besides = (refl, refl);
      one_more_besides = (refl, refl);
      sum_above_besides = (refl, refl);
      eleven_first = (refl, refl);
      twelve_first = (refl, refl);
      short = (refl, refl);
      longer = (refl, refl);
    }

-- by themselves: a rule that looks at sums before links would work out those of 64 routers
pub router-count-examples : RouterCountExamples
unfolding
    both_ways eight seven eighteen distances_refusal row_of body_of sheet_body distances_after sums_ok direct summing link_ok sheet_ok
    refuse router_count_ok all_below tab joined
router-count-examples = record { no_router = (refl, refl); sixty_four = (refl, refl); sixty_five = (refl, refl) }
