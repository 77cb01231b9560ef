-- What the assessment of a network returns and leaves of each buffer (document 01, "Reliance and verdict").
use Rattle.std.specs.Prelude.{ℕ, ◌*◌, ◌≡◌, Bool, cond, List, ◌++◌, length, drop}
use Rattle.base.specs.Lent.{Lent}
use Rattle.base.specs.Tab.{tab}
use Rattle.graph_groups.specs.Closure.{closure}
use Rattle.graph_groups.specs.Groups.{label, stable}
use Rattle.graph_ranks.specs.Rank.{rank, highest_rank}
use Rattle.graph_cycle.specs.Cycle.{cycle}
use Rattle.route_rules.specs.Instance.{Instance}
use Rattle.route_rules.specs.Reliance.{reliance}
use Rattle.route_theorems.specs.Settled.{settled_table}
use Rattle.net_tables.specs.TableBytes.{table_bytes}
use Rattle.net_verdict.specs.declared.Assessment.{Assessment}
use Rattle.net_verdict.specs.declared.Assessment.TheVariants.{Stable, Suspect}

-- "Stable: every group has one router."
unfoldable pub is_stable : Instance → Bool
is_stable I = stable (closure (reliance I) I.n) I.n

-- the lowest router of each router's group
unfoldable pub labels_of : Instance → List ℕ
labels_of I = tab (label (closure (reliance I) I.n)) I.n

unfoldable pub ranks_of : Instance → List ℕ
ranks_of I = tab (rank (reliance I) I.n) I.n

unfoldable pub highest_of : Instance → ℕ
highest_of I = highest_rank (reliance I) I.n

-- "The settled table is the one held-route table that no act changes", in bytes
unfoldable pub settled_bytes : Instance → List ℕ
settled_bytes I = table_bytes (settled_table I (highest_of I))

-- the paper's ring
unfoldable pub cycle_of : Instance → List ℕ
cycle_of I = cycle (reliance I) I.n

-- "Stable returns the highest rank .. suspect returns the ring's length"
unfoldable pub found : Instance → Assessment
found I = cond (is_stable I) (Stable (highest_of I)) (Suspect (length (cycle_of I)))

-- What is left of each buffer. "Labels are written with either verdict."
unfoldable pub labels_left : Instance → List ℕ → List ℕ
labels_left I labels = labels_of I ++ drop I.n labels

-- "Stable .. writes ranks and table; suspect .. writes that many ring bytes. Other bytes are untouched."
unfoldable pub ranks_left : Instance → List ℕ → List ℕ
ranks_left I ranks = cond (is_stable I) (ranks_of I ++ drop I.n ranks) ranks

unfoldable pub table_left : Instance → List ℕ → List ℕ
table_left I table = cond (is_stable I) (settled_bytes I ++ drop (2 * I.n) table) table

unfoldable pub cycle_left : Instance → List ℕ → List ℕ
cycle_left I shown = cond (is_stable I) shown (cycle_of I ++ drop (length (cycle_of I)) shown)

-- the answer r, and each buffer before and after
pub record Assessed (I : Instance) (r : Assessment) (labels ranks table shown : Lent (List ℕ)) : Type 0 where
  pub verdict : r ≡ found I
  pub labelled : labels.after ≡ labels_left I labels.before
  pub ranked : ranks.after ≡ ranks_left I ranks.before
  pub settled : table.after ≡ table_left I table.before
  pub cycled : shown.after ≡ cycle_left I shown.before
