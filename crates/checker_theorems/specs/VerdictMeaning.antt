-- What the verdict of a plan's list says, in the plain words of document 01, "Reliance and verdict", and of demand 2.
use Rattle.std.specs.Prelude.{ℕ, suc, ◌≤◌, ◌<◌, ◌≡◌, true, false, List, ◌⊎◌, ◌↔◌, length}
use Rattle.plan_contents.specs.Header.{router_count}
use Rattle.graph_groups.specs.Closure.{closure, Chain}
use Rattle.graph_groups.specs.Groups.{label}
use Rattle.graph_ranks.specs.Rank.{rank}
use Rattle.graph_cycle.specs.Cycle.{IsCycle}
use Rattle.route_rules.specs.Reliance.{relies, reliance}
use Rattle.route_theorems.specs.Claims.{OneSteadyTable}
use Rattle.route_theorems.specs.Senders.{SettlesByAnySender}
use Rattle.net_rules.specs.FromPlan.{instance_of}
use Rattle.net_verdict.specs.Assessed.{is_stable, highest_of, cycle_of}

-- "relies .. through a chain of reliances"
abbrev pub Reaches : List ℕ → ℕ → ℕ → ℕ → Type 0
Reaches plan k = Chain (reliance (instance_of plan k)) (router_count plan)

-- "Two routers share a group exactly if they are one or each reaches the other by reliances."
abbrev pub Shares : List ℕ → ℕ → ℕ → ℕ → Type 0
Shares plan k w v = (w ≡ v) ⊎ (Reaches plan k w v × Reaches plan k v w)

-- a router's label and rank, as the verdict call writes them
abbrev pub label_in : List ℕ → ℕ → ℕ → ℕ
label_in plan k = label (closure (reliance (instance_of plan k)) (router_count plan))

abbrev pub rank_in : List ℕ → ℕ → ℕ → ℕ
rank_in plan k = rank (reliance (instance_of plan k)) (router_count plan)

-- "one more than the highest rank it relies on": of the routers that w relies on, none has a higher rank than this one, and w is one
-- above it
pub record HighestBelow (plan : List ℕ) (k w : ℕ) : Type 0 where
  pub at : ℕ
  pub below : at < router_count plan
  pub relied : relies (instance_of plan k) w at ≡ true
  pub is : rank_in plan k w ≡ suc (rank_in plan k at)
  pub top : (v : ℕ) → v < router_count plan → relies (instance_of plan k) w v ≡ true → rank_in plan k v ≤ rank_in plan k at

pub record VerdictMeans (plan : List ℕ) (k : ℕ) : Type 0 where
  -- "A group's label is its lowest number."
  pub label_shares : (w : ℕ) → w < router_count plan → Shares plan k w (label_in plan k w)
  pub label_lowest : (w v : ℕ) → w < router_count plan → v < router_count plan → Shares plan k w v → label_in plan k w ≤ v
  -- "Stable: every group has one router."
  pub stable_groups :
      (is_stable (instance_of plan k) ≡ true) ↔ ((w v : ℕ) → w < router_count plan → v < router_count plan → Shares plan k w v → w ≡ v)
  -- demand 2: "stable exactly if no router relies on itself through a chain of reliances"
  pub stable_chains : (is_stable (instance_of plan k) ≡ true) ↔ ((w : ℕ) → w < router_count plan → Reaches plan k w w → ⊥)
  -- "Otherwise it is suspect and shows such a ring."
  pub shows_cycle : is_stable (instance_of plan k) ≡ false
      → IsCycle (reliance (instance_of plan k)) (closure (reliance (instance_of plan k)) (router_count plan)) (router_count plan) (cycle_of (instance_of plan k))
  pub cycle_of_two : is_stable (instance_of plan k) ≡ false → 2 ≤ length (cycle_of (instance_of plan k))
  -- "A router's rank is 0 if it relies on none, else one more than the highest rank it relies on."
  pub rank_none : is_stable (instance_of plan k) ≡ true → (w : ℕ) → w < router_count plan
      → ((v : ℕ) → v < router_count plan → relies (instance_of plan k) w v ≡ false) → rank_in plan k w ≡ 0
  pub rank_some : is_stable (instance_of plan k) ≡ true → (w v : ℕ) → w < router_count plan → v < router_count plan
      → relies (instance_of plan k) w v ≡ true → HighestBelow plan k w
  -- "The settled table is the one held-route table that no act changes; every other has an act that changes it."
  pub settled : is_stable (instance_of plan k) ≡ true → OneSteadyTable (instance_of plan k) (highest_of (instance_of plan k))
  -- whichever neighbours real routers take as senders, each ends with the settled egress in as many rounds
  pub any_sender : is_stable (instance_of plan k) ≡ true → SettlesByAnySender (instance_of plan k) (highest_of (instance_of plan k))
