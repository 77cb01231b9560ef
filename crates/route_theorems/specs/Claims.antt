-- What is claimed of settling, where the reliances have ranks (document 00, demand 3; document 01, "Reliance and verdict").
use Rattle.std.specs.Prelude.{ℕ, ◌+◌, ◌≤◌, ◌<◌, ◌≡◌, true, List, ◌++◌, length}
use Rattle.route_rules.specs.Instance.{Instance, Route}
use Rattle.route_rules.specs.Reliance.{relies}
use Rattle.route_rules.specs.Activation.{table_ok, activate, run_acts}
use Rattle.route_rules.specs.Rounds.{rounds}
use Rattle.route_theorems.specs.Settled.{settled_table}

-- Ranks that fall along every reliance, none above R. A stable verdict's ranks do.
pub record Ranked (I : Instance) (rank : ℕ → ℕ) (R : ℕ) : Type 0 where
  pub falls : (w v : ℕ) → w < I.n → v < I.n → relies I w v ≡ true → rank v < rank w
  pub highest : (w : ℕ) → w < I.n → rank w ≤ R

-- a table of the network: an entry for each router
abbrev pub IsTable : Instance → List Route → Type 0
IsTable I t = length t ≡ I.n

-- no act changes the table
abbrev pub Steady : Instance → List Route → Type 0
Steady I t = (w : ℕ) → w < I.n → activate I w t ≡ t

-- "The settled table is the one held-route table that no act changes; every other has an act that changes it."
pub record OneSteadyTable (I : Instance) (R : ℕ) : Type 0 where
  pub table : IsTable I (settled_table I R)
  pub legal : table_ok I (settled_table I R) ≡ true
  pub steady : Steady I (settled_table I R)
  pub only : (t : List Route) → IsTable I t → Steady I t → t ≡ settled_table I R
  pub changes : (t : List Route) → IsTable I t → (t ≡ settled_table I R → ⊥) → (w : ℕ) × (w < I.n) × (activate I w t ≡ t → ⊥)

-- "Once the acts applied in the series make as many rounds as the highest rank plus two, the table is the verdict's, egress and
-- sender of every router alike, and no later act changes it." From any table: nothing is asked of what a router holds at the start.
pub record Settles (I : Instance) (R : ℕ) (t : List Route) (acts : List ℕ) : Type 0 where
  pub reached : run_acts I t acts ≡ settled_table I R
  pub kept : (more : List ℕ) → run_acts I t (acts ++ more) ≡ settled_table I R

abbrev pub SettlesInTime : Instance → ℕ → Type 0
SettlesInTime I R = (t : List Route) → IsTable I t → (acts : List ℕ) → R + 2 ≤ rounds I.n acts → Settles I R t acts

-- One round fewer is not enough: in some network, from some table that its routers may be found in.
pub record BoundIsSharp : Type 0 where
  pub network : Instance
  pub rank : ℕ → ℕ
  pub R : ℕ
  pub ranked : Ranked network rank R
  pub start : List Route
  pub table : IsTable network start
  pub legal : table_ok network start ≡ true
  pub acts : List ℕ
  pub count : rounds network.n acts ≡ R + 1
  pub unsettled : run_acts network start acts ≡ settled_table network R → ⊥
