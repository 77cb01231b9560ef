-- The examples, worked out from the rules.
use mathlib.Core.Path.{refl}
use Rattle.base.specs.Best.{keep_best, best}
use Rattle.route_rules.specs.Preference.{nearer, has_step, hops, prefers, margin_of}
use Rattle.route_rules.specs.Reliance.{listed_client_of, best_client, offer, better_offer, relies}
use Rattle.route_rules.specs.Examples.{among, network}
use Rattle.route_rules.specs.HopExamples.{two}
use Rattle.route_explain_rules.specs.Explained.{against_own, by_offer, on_reflector, on_client, explained}
use Rattle.route_explain_rules.specs.Reasons.{reasons}
use Rattle.route_explain_rules.specs.Examples.{site, shared_site, cut_two, ExplainingExamples}

pub explaining-examples : ExplainingExamples
unfolding
    among network two cut_two site shared_site reasons better_offer relies against_own by_offer on_reflector on_client explained
    listed_client_of best_client offer nearer has_step hops prefers margin_of keep_best best
explaining-examples =
    record {
      parent = refl;
      listed_parent = refl;
      skipping_parent = refl;
      peer_client = refl;
      own_best_client = refl;
      better_offer = refl;
      any_offer = refl;
      same_router = refl;
      not_neighbours = refl;
      strangers = refl;
      first_listed = refl;
      listed_reflector_first = refl;
      unlisted_client = refl;
      both_clients = refl;
      every_that_applies = refl;
      not_the_best = refl;
      client_without_a_way = refl;
      no_offer = refl;
      no_way = refl;
      no_way_beside_own = refl;
      not_better = refl;
      shared_best_client = refl;
      tie = refl;
      listed_reflector = refl;
      step_decides = refl;
      step_of_the_relying_one = refl;
      step_and_no_offer = refl;
      step_and_no_way = refl;
      step_without_own = refl;
      step_and_listed = refl;
      step_and_farther = refl;
      step_reasons = refl;
      relied = refl;
      relied_plainly = refl;
      rules = refl;
      places = refl;
      with_own = refl;
      without_own = refl;
      parent_alone = refl;
      peer_alone = refl;
      rule_alone = refl;
      reason_alone = refl;
    }
