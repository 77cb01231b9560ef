-- Document 01: one act, here an activation, of a router on the caller's table.
use Rattle.std.specs.Prelude.{ℕ, List, ◌≡◌}
use Rattle.net_rules.specs.FromPlan.{instance_of}
use Rattle.net_tables.specs.TableBytes.{activate_bytes}
use Rattle.call_rules.specs.Refusals.{activate_refusal}
use Rattle.plan_rules.specs.Refused.{unless_refused}

-- every byte of the table after the call
unfoldable pub activate_table : List ℕ → ℕ → ℕ → List ℕ → List ℕ
activate_table plan k w table =
    unless_refused (activate_refusal plan k w table) table (activate_bytes (instance_of plan k) w table)

-- an activation of w returns r and leaves the table `after`
pub record Activates (plan : List ℕ) (k w : ℕ) (table : List ℕ) (r : ℕ) (after : List ℕ) : Type 0 where
  pub number : r ≡ activate_refusal plan k w table
  pub bytes : after ≡ activate_table plan k w table
