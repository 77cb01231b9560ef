-- A search among the numbers below n that goes by the set bits of x, lowest first, where every yes is at a set bit.
use Prim.Native.Nat.{ℕ, suc, ◌≤◌, ◌<◌}
use native.Mathlib.Numerals.{add-one}
use native.Mathlib.Omega.{arith}
use mathlib.Core.Path.{◌≡◌}
use Rattle.base.specs.Bits.{bit_n}
use Rattle.base.specs.BitWalk.{from_bit, LowestBit, BitWalk}
use Rattle.base.specs.Seek.{seek}
use Rattle.base.proofs.BitWalk.{walk_start, walk-set, walk-within, walk-visit, walk_more, walk-done}
use Rattle.base.proofs.Seek.{Scanned, scan-start, scan-more, scan-hit, scan-miss}

-- m holds the bits not visited yet, and no yes was found before
abbrev pub Seeking : (ℕ → ℕ) → ℕ → ℕ → ℕ → Type 0
Seeking f x n m = BitWalk (Scanned f n) x n m

module _ (f : ℕ → ℕ) (x n : ℕ) where
  pub seeking-start : Seeking f x n x
  seeking-start = walk_start _ x n (scan-start f n)

  further : (v : ℕ) → v < n → f v ≡ 0 → Scanned f n v → Scanned f n (suc v)
  further v l e w = rw (add-one v) at (scan-more f n v w l e)

  module _ (off : (v : ℕ) → bit_n x v ≡ 0 → f v ≡ 0) (m : ℕ) (w : Seeking f x n m) where
    pass : (v : ℕ) → v < n → bit_n x v ≡ 0 → Scanned f n v → Scanned f n (suc v)
    pass v l unset = further v l (off v unset)

    pub seeking-miss : m ≡ 0 → n ≡ seek f n
    seeking-miss e = scan-miss f n n (walk-done _ x n pass m w e) (omega arith)

    -- v is the next
    module _ (within : (u : ℕ) → bit_n x u ≡ 1 → u < n) (v : ℕ) (low : LowestBit m v) where
      pub seeking-below : v < n
      seeking-below = walk-within _ x n m v within w low

      pub seeking-set : bit_n x v ≡ 1
      seeking-set = walk-set _ x n m v within w low

      here : Scanned f n v
      here = walk-visit _ x n pass m v within w low

      pub seeking-hit : 1 ≤ f v → v ≡ seek f n
      seeking-hit h = scan-hit f n v here seeking-below h

      pub seeking-more : (m' : ℕ) → m' ≡ from_bit m (suc v) → f v ≡ 0 → Seeking f x n m'
      seeking-more m' e h = walk_more _ x n m v within w low _ m' e (further v seeking-below h here)
