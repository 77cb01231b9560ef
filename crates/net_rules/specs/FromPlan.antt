-- The network of a plan with one of its lists (document 01, "The plan's bytes"; document 02, "Cut-off routers", "Reflectors that skip
-- their own clients", "Wider distances" and "Reflectors with the hop step").
use Rattle.std.specs.Prelude.{ℕ, ◌<◌, ◌≡◌, Bool, true, false, ◌&&◌, ◌||◌, List, ◌⊎◌, ltb, eqb, length, get_or}
use Rattle.base.specs.Below.{any_below}
use Rattle.plan_contents.specs.Header.{width, router_count}
use Rattle.plan_contents.specs.Contents.{routers_body, sessions_body, distances_body}
use Rattle.plan_rules.specs.Routers.{role, reflector_in}
use Rattle.plan_rules.specs.Sessions.{in_session}
use Rattle.plan_rules.specs.Distances.{distance_in, way_in}
use Rattle.plan_rules.specs.EgressLists.{list_numbers}
use Rattle.route_rules.specs.Instance.{Instance}

-- "Role 3 is such a reflector", one that skips its own clients, and so is role 5, "role .. 3 with that step"; s is the body of kind 1
abbrev pub skips_in : List ℕ → ℕ → ℕ → Bool
skips_in s n v = ltb v n && (eqb (role s v) 3 || eqb (role s v) 5)

-- "Roles 4 and 5 are roles 1 and 3 with that step"
abbrev pub hop_in : List ℕ → ℕ → ℕ → Bool
hop_in s n v = ltb v n && (eqb (role s v) 4 || eqb (role s v) 5)

-- v is one of a list's "router numbers"
unfoldable pub named : List ℕ → ℕ → Bool
named numbers v = any_below (λ j. eqb (get_or numbers j 0) v) (length numbers)

-- the plan with its list k
abbrev pub instance_of : List ℕ → ℕ → Instance
instance_of plan k =
    record {
      -- "n, the number of routers"
      n = router_count plan;
      -- "role (1 reflector, 2 client)"; "Role 3 is such a reflector"; "Roles 4 and 5 are roles 1 and 3 with that step"
      reflector = reflector_in (routers_body plan) (router_count plan);
      skips = skips_in (routers_body plan) (router_count plan);
      hop = hop_in (routers_body plan) (router_count plan);
      -- "Two routers of a pair are neighbours."
      neighbour = in_session (sessions_body plan);
      -- "row u, column e is the distance from u to e"
      dist = distance_in (width plan) (distances_body plan) (router_count plan);
      -- "The distance 65,535 off the diagonal now means 'no way'"; with 4 bytes "4,294,967,295 is no way"
      way = way_in (width plan) (distances_body plan) (router_count plan);
      -- "c router numbers": those of list k
      listed = named (list_numbers plan k);
    }

-- v's role is the given number, and whether v is a reflector, skips its clients, and has the hop step
abbrev pub RoleOf : List ℕ → Instance → ℕ → (number : ℕ) (reflector skips hop : Bool) → Type 0
RoleOf plan I v number reflector skips hop =
    (role (routers_body plan) v ≡ number) × (I.reflector v ≡ reflector) × (I.skips v ≡ skips) × (I.hop v ≡ hop)

-- What holds of the network of a plan that is not refused, for any of its lists.
pub record Trusted (plan : List ℕ) (I : Instance) : Type 0 where
  -- "Two routers of a pair are neighbours": each of the other, and no router of itself
  pub symmetric : (w v : ℕ) → I.neighbour w v ≡ I.neighbour v w
  pub apart : (v : ℕ) → I.neighbour v v ≡ false
  -- "router numbers, one byte each and below n", of sessions and of lists
  pub neighbour_below : (w v : ℕ) → I.neighbour w v ≡ true → v < I.n
  pub listed_below : (v : ℕ) → I.listed v ≡ true → v < I.n
  -- "The diagonal is 0.": every router has a way to itself
  pub distance_own : (u : ℕ) → u < I.n → I.dist u u ≡ 0
  pub way_own : (u : ℕ) → u < I.n → I.way u u ≡ true
  -- "role (1 reflector, 2 client)"; "Role 3 is such a reflector"; "Roles 4 and 5 are roles 1 and 3 with that step": a router is one of
  -- the five
  pub roles :
      (v : ℕ) → v < I.n →
      RoleOf plan I v 1 true false false
      ⊎ RoleOf plan I v 2 false false false
      ⊎ RoleOf plan I v 3 true true false
      ⊎ RoleOf plan I v 4 true false true
      ⊎ RoleOf plan I v 5 true true true
