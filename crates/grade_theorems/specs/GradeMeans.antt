-- What a list's grade says of its tables and of every order in which the routers act.
use Rattle.std.specs.Prelude.{ℕ, ◌+◌, ◌≤◌, ◌<◌, ◌≡◌, true, false, List, ◌++◌, ◌↔◌, take}
use Rattle.graph_groups.specs.Closure.{closure}
use Rattle.graph_groups.specs.Groups.{stable}
use Rattle.route_rules.specs.Instance.{Instance, Route}
use Rattle.route_rules.specs.Activation.{table_ok, activate, run_acts}
use Rattle.route_rules.specs.Reliance.{reliance}
use Rattle.route_rules.specs.Rounds.{ActsBelow, rounds}
use Rattle.route_theorems.specs.Claims.{IsTable, Steady}
use Rattle.grade_rules.specs.Grade.{grade, grade_rounds}

-- some sequence of acts leads to a table that no act changes
pub record CanRest (I : Instance) (t : List Route) : Type 0 where
  pub acts : List ℕ
  pub below : ActsBelow I.n acts
  pub steady : Steady I (run_acts I t acts)

-- a table that obeys the table's rule and from which none does
pub record CannotRest (I : Instance) : Type 0 where
  pub table : List Route
  pub is_table : IsTable I table
  pub legal : table_ok I table ≡ true
  pub never : CanRest I table → ⊥

-- a table that comes back after acts that change it
pub record ComesBack (I : Instance) (t : List Route) (acts : List ℕ) : Type 0 where
  pub below : ActsBelow I.n acts
  pub back : run_acts I t acts ≡ t
  -- after so many of the acts it is another
  pub first : ℕ
  pub changed : run_acts I t (take first acts) ≡ t → ⊥

pub record SomeComesBack (I : Instance) : Type 0 where
  pub table : List Route
  pub is_table : IsTable I table
  pub legal : table_ok I table ≡ true
  pub acts : List ℕ
  pub comes_back : ComesBack I table acts

-- comes to rest after a sequence of acts: no act then changes the table, and no sequence of later acts
pub record Rests (I : Instance) (t : List Route) (acts : List ℕ) : Type 0 where
  pub steady : Steady I (run_acts I t acts)
  pub kept : (more : List ℕ) → ActsBelow I.n more → run_acts I t (acts ++ more) ≡ run_acts I t acts

-- The promise. The theorem `grade-means` says that it holds of every network.
pub record GradeMeans (I : Instance) : Type 0 where
  pub least : 1 ≤ grade I
  pub most : grade I ≤ 4
  -- 1: from any table whatever, every series of so many rounds leads to rest
  pub rests :
      grade I ≡ 1 → (t : List Route) → IsTable I t → (acts : List ℕ) → ActsBelow I.n acts → grade_rounds I ≤ rounds I.n acts
      → Rests I t acts
  -- a stable list has grade 1
  pub stable_list : stable (closure (reliance I) I.n) I.n ≡ true → grade I ≡ 1
  -- at most 2 exactly if from every table of the rule some acts lead to rest; more exactly if from some such table none do
  pub can_rest : (grade I ≤ 2) ↔ ((t : List Route) → IsTable I t → table_ok I t ≡ true → CanRest I t)
  pub cannot_rest : (3 ≤ grade I) ↔ CannotRest I
  -- 4 exactly if no table stays as it is
  pub no_steady : (grade I ≡ 4) ↔ ((t : List Route) → IsTable I t → Steady I t → ⊥)
  -- 2 or more: some table comes back after acts that change it
  pub comes_back : 2 ≤ grade I → SomeComesBack I
  -- a table that comes back with a whole round between: 2 or more
  pub moving : (t : List Route) → IsTable I t → (acts : List ℕ) → ComesBack I t acts → 1 ≤ rounds I.n acts → 2 ≤ grade I

-- One round fewer is not enough for a suspect list: in some network, from some table of the rule, an act then still changes the table. The
-- theorem `rest-is-sharp` says so; `bound-is-sharp` says it of stable lists.
pub record RestIsSharp : Type 0 where
  pub network : Instance
  pub suspect : stable (closure (reliance network) network.n) network.n ≡ false
  pub always : grade network ≡ 1
  pub start : List Route
  pub is_table : IsTable network start
  pub legal : table_ok network start ≡ true
  pub acts : List ℕ
  pub below : ActsBelow network.n acts
  pub round_fewer : rounds network.n acts + 1 ≡ grade_rounds network
  pub router : ℕ
  pub is_router : router < network.n
  pub changes : activate network router (run_acts network start acts) ≡ run_acts network start acts → ⊥
