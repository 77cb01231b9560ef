-- Document 01, "Refusal table": rows 8, 15, 9 and 10 are "given exactly if" what they ask for fails, and by document 02 "the first check in
-- order that fails now decides": in plain facts and in both directions, as `RowExactly` of crate `plan_rules` is of the plan's own rows.
use Rattle.std.specs.Prelude.{ℕ, ◌+◌, ◌*◌, ◌≤◌, ◌<◌, ◌≡◌, true, false, List, ◌⊎◌, ◌↔◌, length, get_or}
use Rattle.plan_contents.specs.Header.{router_count}
use Rattle.plan_rules.specs.EgressLists.{list_count}
use Rattle.plan_rules.specs.Passed.{Passed}
use Rattle.plan_rules.specs.Refusal.{plan_refusal}
use Rattle.route_rules.specs.Instance.{Instance}
use Rattle.route_rules.specs.Rounds.{ActsBelow}
use Rattle.net_rules.specs.FromPlan.{instance_of}
use Rattle.steady_rules.specs.Steady.{grouped_routers, steady_count}
use Rattle.call_rules.specs.Refusals.{egress_list_refusal, compare_refusal, relies_refusal, verdict_refusal, steady_refusal, hop_set_refusal, grade_refusal, activate_refusal, run_refusal, figures_refusal, every_list_refusal}

-- `number` is the refusal of a call on the plan: row 8 asks that `Asked` holds, row 15 that `Few` does, row 9 that `Long` does, row 10 that
-- `Rule` does. `Unit` is for a row that does not stand for the call: nothing fails it.
pub record RowsExactly (plan : List ℕ) (Asked Few Long Rule : Type 0) (number : ℕ) : Type 0 where
  pub plan_rows : (Passed plan → ⊥) → number ≡ plan_refusal plan
  pub eight : (number ≡ 8) ↔ (Passed plan × (Asked → ⊥))
  pub fifteen : (number ≡ 15) ↔ (Passed plan × Asked × (Few → ⊥))
  pub nine : (number ≡ 9) ↔ (Passed plan × Asked × Few × (Long → ⊥))
  pub ten : (number ≡ 10) ↔ (Passed plan × Asked × Few × Long × (Rule → ⊥))
  pub none : (number ≡ 0) ↔ (Passed plan × Asked × Few × Long × Rule)

-- row 9: "The verdict call needs n bytes for labels, n for ranks, 2n for the settled table, n for the ring."
pub record BuffersLong (n : ℕ) (labels ranks table cycle : List ℕ) : Type 0 where
  pub labels_long : n ≤ length labels
  pub ranks_long : n ≤ length ranks
  pub table_long : 2 * n ≤ length table
  pub cycle_long : n ≤ length cycle

-- row 10: "two bytes a router, egress and sender; 255 255 is nothing"; "A listed router's entry names itself twice. Any other entry is
-- 255 255, or an egress below n with a neighbour as sender."
abbrev pub egress_at : List ℕ → ℕ → ℕ
egress_at table v = get_or table (2 * v) 0

abbrev pub sender_at : List ℕ → ℕ → ℕ
sender_at table v = get_or table (2 * v + 1) 0

pub record TableFacts (I : Instance) (table : List ℕ) : Type 0 where
  pub listed : (v : ℕ) → v < I.n → I.listed v ≡ true → (egress_at table v ≡ v) × (sender_at table v ≡ v)
  pub unlisted : (v : ℕ) → v < I.n → I.listed v ≡ false
      → ((egress_at table v ≡ 255) × (sender_at table v ≡ 255)) ⊎ ((egress_at table v < I.n) × (I.neighbour v (sender_at table v) ≡ true))

-- "Checks 8, 9 and 10 stand only for calls that take such things", and 15 for those that list steady tables, name a set of routers and grade
-- a list: what each call is asked for. Row 8 is "the list asked for is m or more, or a router asked for, or named in a sequence of acts, is n or more".
-- The theorem `Call-rows` says that these hold. The call that explains is refused as the one that answers a reliance.
pub record CallRows (plan : List ℕ) : Type 0 where
  pub list : (k : ℕ) → RowsExactly plan (k < list_count plan) Unit Unit Unit (egress_list_refusal plan k)
  pub compare : (w e f : ℕ)
      → RowsExactly plan ((w < router_count plan) × (e < router_count plan) × (f < router_count plan)) Unit Unit Unit
      (compare_refusal plan w e f)
  pub relies : (k w v : ℕ)
      → RowsExactly plan ((k < list_count plan) × (w < router_count plan) × (v < router_count plan)) Unit Unit Unit
      (relies_refusal plan k w v)
  pub verdict : (k : ℕ) (labels ranks table cycle : List ℕ)
      → RowsExactly plan (k < list_count plan) Unit (BuffersLong (router_count plan) labels ranks table cycle) Unit
      (verdict_refusal plan k labels ranks table cycle)
  -- "It refuses with 15 if more than 12 routers lie in such groups"; "The call needs two bytes for each number listed"
  pub steady : (k : ℕ) (out : List ℕ)
      → RowsExactly plan (k < list_count plan) (grouped_routers (instance_of plan k) ≤ 12)
      (2 * steady_count (instance_of plan k) ≤ length out) Unit (steady_refusal plan k out)
  -- "Refusal 15 covers this call too, in the same place."
  pub hop_set : (k : ℕ)
      → RowsExactly plan (k < list_count plan) (grouped_routers (instance_of plan k) ≤ 12) Unit Unit (hop_set_refusal plan k)
  pub grade : (k : ℕ)
      → RowsExactly plan (k < list_count plan) (grouped_routers (instance_of plan k) ≤ 12) Unit Unit (grade_refusal plan k)
  -- "An act or a run needs 2n bytes of table"
  pub activate : (k w : ℕ) (table : List ℕ)
      → RowsExactly plan ((k < list_count plan) × (w < router_count plan)) Unit (2 * router_count plan ≤ length table)
      (TableFacts (instance_of plan k) table) (activate_refusal plan k w table)
  pub run : (k : ℕ) (acts table : List ℕ)
      → RowsExactly plan ((k < list_count plan) × ActsBelow (router_count plan) acts) Unit (2 * router_count plan ≤ length table)
      (TableFacts (instance_of plan k) table) (run_refusal plan k acts table)
  -- "The call needs n bytes for the counts by rank and n for those by router": it takes neither a list nor a router
  pub figures : (ranks routers : List ℕ)
      → RowsExactly plan Unit Unit ((router_count plan ≤ length ranks) × (router_count plan ≤ length routers)) Unit
      (figures_refusal plan ranks routers)
  -- .. and so does the call on every list, which needs n bytes for the list that it may give
  pub every_list : (list : List ℕ) → RowsExactly plan Unit Unit (router_count plan ≤ length list) Unit (every_list_refusal plan list)
