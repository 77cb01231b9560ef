-- The bodies lie within the plan.
use Prim.Native.Nat.{ℕ, zero, suc, ◌≤◌, ◌<◌}
use native.Mathlib.Omega.{arith}
use mathlib.Core.Path.{◌≡◌}
use mathlib.Core.List.{List}
use lib.ListN.{length, get_or, length-take, length-drop}
use Rattle.plan_contents.specs.declared.entries.Entry.{Entry}
use Rattle.plan_contents.specs.Contents.{no_entry, end, body, routers_entry, sessions_entry, distances_entry, lists_entry}
use Rattle.plan_contents.specs.HeaderFacts.{Contents}

pub record Within (table : List Entry) (plan_length : ℕ) : Type 0 where
  pub routers : end (routers_entry table) ≤ plan_length
  pub sessions : end (sessions_entry table) ≤ plan_length
  pub distances : end (distances_entry table) ≤ plan_length
  pub lists : end (lists_entry table) ≤ plan_length

pub bodies-within : (table : List Entry) (width n plan_length : ℕ) → Contents table width n plan_length → Within table plan_length
bodies-within table width n plan_length f = omega arith

pub body-length : (plan : List ℕ) (e : Entry) → end e ≤ length plan → length (body plan e) ≡ e.size
body-length plan e h = simp (length-take, length-drop) (omega arith)

-- the same by the entry's place in the table
pub entry-within : (table : List Entry) (plan_length : ℕ) → Within table plan_length → (which : ℕ) → which < 4 → end (get_or table which no_entry) ≤ plan_length
entry-within table plan_length w zero h = w.routers
entry-within table plan_length w (suc zero) h = w.sessions
entry-within table plan_length w (suc (suc zero)) h = w.distances
entry-within table plan_length w (suc (suc (suc zero))) h = w.lists
entry-within table plan_length w (suc (suc (suc (suc which)))) h = absurd (omega arith)
