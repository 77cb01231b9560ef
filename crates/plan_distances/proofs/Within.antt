-- Row u, column e lies within the n rows of n.
use Prim.Native.Nat.{ℕ, ◌+◌, ◌*◌, ◌≤◌, ◌<◌}
use native.Mathlib.Omega.{arith}
use mathlib.Core.List.{List}
use mathlib.Core.Logic.{⊎_elim}
use mathlib.Core.Path.{◌≡◌}
use lib.ListN.{length}
use Rattle.base.proofs.Numbers.{cell-lt}
use Rattle.plan_rules.specs.Distances.{DistanceTable}

-- a pair's place, and the bytes of its distance
abbrev pub Within : List ℕ → ℕ → ℕ → ℕ → ℕ → Type 0
Within s width n u e = (u * n + e < length s) × (width * (u * n + e) + width ≤ length s)

pub within : (s : List ℕ) (width n u e : ℕ) → u < n → e < n → DistanceTable width s n → Within s width n u e
within s width n u e lu le t =
    let cell = cell-lt _ _ _ lu le in
    ⊎_elim
    (λ (w : width ≡ 2). let pairs : 2 * (n * n) ≤ length s = rw w at t.pairs in (omega arith, rw w (omega arith)))
    (λ (w : width ≡ 4). let pairs : 4 * (n * n) ≤ length s = rw w at t.pairs in (omega arith, rw w (omega arith)))
    t.bytes
