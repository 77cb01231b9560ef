-- What an activation returns and leaves.
use Prim.Native.Nat.{ℕ}
use mathlib.Core.Path.{◌≡◌, ◌∙◌, sym}
use mathlib.Core.List.{List}
use Rattle.net_rules.specs.FromPlan.{instance_of}
use Rattle.net_tables.specs.TableBytes.{activate_bytes}
use Rattle.call_rules.specs.Refusals.{activate_refusal}
use Rattle.call_run.specs.Activate.{activate_table, Activates}
use Rattle.plan_rules.proofs.Refused.{when-refused, when-given}

module _ (plan : List ℕ) (k w : ℕ) (table : List ℕ) where
  pub activates-not : (r : ℕ) → r ≡ activate_refusal plan k w table → (r ≡ 0 → ⊥) → Activates plan k w table r table
  unfolding activate_table
  activates-not r e ne = record { number = e; bytes = sym (when-refused _ _ _ (λ z. ne (e ∙ z))) }

  pub activates-so : activate_refusal plan k w table ≡ 0 → (after : List ℕ) → after ≡ activate_bytes (instance_of plan k) w table
      → Activates plan k w table 0 after
  unfolding activate_table
  activates-so z after e = record { number = sym z; bytes = e ∙ sym (when-given _ _ _ z) }
