-- A plan opened with one of its lists.
use Prim.Native.Nat.{ℕ, ◌<◌}
use native.Mathlib.Omega.{arith}
use mathlib.Core.Path.{◌≡◌, refl, ◌∙◌, sym}
use mathlib.Core.List.{List}
use borrow.Author.Tests.{eq-eqb}
use lib.Dec.{eqb}
use Rattle.base.specs.Bits.{bit_n, bits}
use Rattle.plan_contents.specs.Header.{width, router_count}
use Rattle.plan_contents.specs.Contents.{routers_body, sessions_body, distances_body}
use Rattle.plan_rules.specs.Routers.{reflector_in}
use Rattle.plan_rules.specs.Sessions.{in_session}
use Rattle.plan_rules.specs.Distances.{distance_in, way_in}
use Rattle.plan_rules.specs.EgressLists.{list_count, list_numbers}
use Rattle.plan_rules.specs.Refusal.{plan_refusal}
use Rattle.plan_rules.proofs.Passed.{passed, distance-table}
use Rattle.net_rules.specs.declared.Network.{Network}
use Rattle.net_rules.specs.Decoded.{decoded}
use Rattle.net_rules.specs.FromPlan.{skips_in, hop_in, named, instance_of}
use Rattle.net_rules.specs.Opened.{Opened}
use Rattle.net_rules.proofs.FromPlan.{trusted}

-- n, the width, the words and the rows are read bit by bit from the bodies of a plan that is not refused, and from its list k below m
module _ (plan : List ℕ) (k : ℕ) (accepted : plan_refusal plan ≡ 0) (asked : k < list_count plan) (net : Network) (rows : List ℕ)
    (count : net.n ≡ router_count plan)
    (bytes : net.width ≡ width plan)
    (reflectors : (v : ℕ) → eqb (bit_n net.reflectors v) 1 ≡ reflector_in (routers_body plan) (router_count plan) v)
    (skips : (v : ℕ) → eqb (bit_n net.skips v) 1 ≡ skips_in (routers_body plan) (router_count plan) v)
    (hop : (v : ℕ) → eqb (bit_n net.hop v) 1 ≡ hop_in (routers_body plan) (router_count plan) v)
    (neighbours : (w v : ℕ) → eqb (bits rows w v) 1 ≡ in_session (sessions_body plan) w v)
    (listed : (v : ℕ) → eqb (bit_n net.listed v) 1 ≡ named (list_numbers plan k) v) where
  -- two networks whose parts agree at every number are one
  same : decoded net rows (distances_body plan) ≡ instance_of plan k
  same =
      λ i. record {
        n = count i;
        reflector = λ v. reflectors v i;
        skips = λ v. skips v i;
        hop = λ v. hop v i;
        neighbour = λ w v. neighbours w v i;
        dist = distance_in (bytes i) (distances_body plan) (count i);
        way = way_in (bytes i) (distances_body plan) (count i);
        listed = λ v. listed v i;
      }

  -- a plan that is not refused, opened with a list below m, is the plan's own network and well formed
  pub opened : Opened plan k net rows (distances_body plan)
  opened =
      let t = trusted plan k accepted asked in
      record {
        same = same;
        formed =
            record {
              count = omega (arith, (passed plan accepted).count.most);
              neighbours = λ w v b. rw count (t.neighbour_below w v (sym (neighbours w v) ∙ eq-eqb _ 1 b));
              pairs = distance-table plan accepted bytes refl count;
            };
        count = count;
      }

-- .. and so over the part that holds its distances
pub opened-over : {plan : List ℕ} {k : ℕ} {net : Network} {rows distances : List ℕ}
    → Opened plan k net rows (distances_body plan) → distances ≡ distances_body plan → Opened plan k net rows distances
opened-over o part = rw part o
