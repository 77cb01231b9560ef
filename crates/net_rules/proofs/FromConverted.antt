-- A converted plan is the same network: "the same distances, other bodies, verdicts, held routes and runs".
use Prim.Native.Nat.{ℕ, ◌<◌}
use mathlib.Core.Path.{◌≡◌}
use mathlib.Core.Bool.{true}
use mathlib.Core.List.{List}
use Rattle.plan_rules.specs.Routers.{reflector_in}
use Rattle.plan_rules.specs.Sessions.{in_session}
use Rattle.plan_rules.specs.Distances.{TwoOrFour}
use Rattle.plan_rules.specs.EgressLists.{list_count}
use Rattle.plan_rules.specs.Refusal.{plan_refusal}
use Rattle.plan_rules.specs.Converted.{converted, distances_fit}
use Rattle.plan_rules.proofs.Converted.{converted-facts}
use Rattle.net_rules.specs.FromPlan.{skips_in, hop_in, named, instance_of}

pub converted-instance : (to : ℕ) → TwoOrFour to → (plan : List ℕ) → plan_refusal plan ≡ 0 → distances_fit to plan ≡ true
    → (k : ℕ) → k < list_count plan → instance_of (converted to plan) k ≡ instance_of plan k
converted-instance to t plan ok fit k l =
    let f = converted-facts to t plan ok fit in
    λ i. record {
      n = f.count i;
      reflector = reflector_in (f.routers i) (f.count i);
      skips = skips_in (f.routers i) (f.count i);
      hop = hop_in (f.routers i) (f.count i);
      neighbour = in_session (f.sessions i);
      dist = λ u e. f.distances u e i;
      way = λ u e. f.ways u e i;
      listed = named (f.numbers k l i);
    }
