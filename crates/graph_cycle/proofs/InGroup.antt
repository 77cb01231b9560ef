-- Groups of two or more, and a related router of the group, read off rows of bits.
use Prim.Native.Nat.{ℕ, ◌≤◌, ◌<◌, min}
use native.Mathlib.Omega.{arith}
use mathlib.Core.Path.{◌≡◌}
use mathlib.Core.List.{List}
use mathlib.Core.Logic.{⊎_elim}
use Rattle.base.specs.Bits.{bits}
use Rattle.base.proofs.Numbers.{lt-or-le}
use Rattle.graph_groups.specs.Groups.{together, grouped}
use Rattle.graph_groups.proofs.RowGroups.{together-two}
use Rattle.graph_cycle.specs.Follow.{LoopsGrouped}

module _ (closed : List ℕ) (n : ℕ) (loops : LoopsGrouped (bits closed) n) (i : ℕ) (l : i < n) where
  pub loop-grouped : bits closed i i ≡ 1 → 1 ≤ grouped (bits closed) n i
  loop-grouped e = (loops i l).0 (omega arith)

  pub no-loop-alone : (bits closed i i ≡ 1 → ⊥) → grouped (bits closed) n i ≡ 0
  no-loop-alone e =
      ⊎_elim (λ (o : 0 < grouped (bits closed) n i). absurd (omega (arith, (loops i l).1 o))) (λ (o : grouped (bits closed) n i ≤ 0). omega arith)
      (lt-or-le 0 (grouped (bits closed) n i))

-- w is related to v in its group
abbrev pub next_test : List ℕ → List ℕ → ℕ → ℕ → ℕ
next_test rows closed w v = min (bits rows w v) (together (bits closed) w v)

module _ (rows closed : List ℕ) (w v : ℕ) where
  pub next-off : bits rows w v ≡ 0 → next_test rows closed w v ≡ 0
  next-off e = omega arith

  pub next-on : bits rows w v ≡ 1 → together (bits closed) w v ≡ next_test rows closed w v
  next-on e = omega (arith, together-two closed w v)
