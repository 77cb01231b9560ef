-- What the header and the contents of a plan that is not refused are, in plain facts: document 01, "The plan's bytes"; document 02,
-- "Wider distances".
-- `..-facts` and `..-holds` say that the check of a row passes exactly if its facts hold.
use Rattle.std.specs.Prelude.{ℕ, ◌*◌, ◌%◌, ◌≤◌, List, ◌⊎◌, ◌≡◌, length, get_or}
use Rattle.plan_contents.specs.declared.entries.Entry.{Entry}
use Rattle.plan_contents.specs.Header.{mark}
use Rattle.plan_contents.specs.Contents.{routers_entry, sessions_entry, distances_entry, lists_entry, end}

-- row 1
pub record Header (plan : List ℕ) : Type 0 where
  pub least : 26 ≤ length plan
  pub letter_r : get_or plan 0 0 ≡ 82
  pub letter_r₂ : get_or plan 1 0 ≡ 82
  pub letter_p : get_or plan 2 0 ≡ 80
  -- RRP1 or RRP2, each with its limit
  pub marked : ((mark plan ≡ 49) × (length plan ≤ 16731)) ⊎ ((mark plan ≡ 50) × (length plan ≤ 24923))
  pub four_entries : get_or plan 5 0 ≡ 4

-- row 2
pub record RouterCount (n : ℕ) : Type 0 where
  pub some : 1 ≤ n
  pub most : n ≤ 64

-- row 3: the parts' kinds, places and lengths, the last ending with the plan
pub record Contents (table : List Entry) (width n plan_length : ℕ) : Type 0 where
  pub routers_kind : (routers_entry table).kind ≡ 1
  pub sessions_kind : (sessions_entry table).kind ≡ 2
  pub distances_kind : (distances_entry table).kind ≡ 3
  pub lists_kind : (lists_entry table).kind ≡ 4
  pub routers_start : (routers_entry table).offset ≡ 26
  pub sessions_start : (sessions_entry table).offset ≡ end (routers_entry table)
  pub distances_start : (distances_entry table).offset ≡ end (sessions_entry table)
  pub lists_start : (lists_entry table).offset ≡ end (distances_entry table)
  pub lists_end : end (lists_entry table) ≡ plan_length
  pub routers_size : (routers_entry table).size ≡ 5 * n
  pub sessions_size : (sessions_entry table).size % 2 ≡ 0
  pub distances_size : (distances_entry table).size ≡ width * (n * n)
