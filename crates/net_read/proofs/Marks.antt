-- Words and rows of bits that a loop marks, one item a turn.
use Prim.Native.Nat.{ℕ, ◌+◌, ◌^◌, ◌≤◌, ◌<◌}
use native.Mathlib.Omega.{arith}
use mathlib.Core.Path.{◌≡◌, ◌∙◌, sym, ap, ap₂}
use mathlib.Core.Bool.{Bool, ◌&&◌, ◌||◌, or_assoc}
use mathlib.Core.List.{List}
use lib.Bits.{bit_or}
use lib.Dec.{eqb}
use lib.ListN.{length, replicate, length-set}
use Rattle.base.specs.Below.{any_below}
use Rattle.base.specs.Bits.{bit_n, bits, with_bit}
use Rattle.base.proofs.Below.{any_none, any_next}
use Rattle.base.proofs.SetBits.{bit-none, bit-with, rows_none, rows-with}

-- the first k items are marked in the word x; `p v j` says that item j marks v
abbrev pub Marks : (ℕ → ℕ → Bool) → ℕ → ℕ → Type 0
Marks p k x = (v : ℕ) → eqb (bit_n x v) 1 ≡ any_below (p v) k

module _ (p : ℕ → ℕ → Bool) where
  pub marks-none : Marks p 0 0
  marks-none v = bit-none v ∙ sym (any_none (p v))

  pub marks-more : (k x a : ℕ) → ((v : ℕ) → eqb a v ≡ p v k) → Marks p k x → Marks p (k + 1) (bit_or x (2 ^ a))
  marks-more k x a q m v = bit-with x a v ∙ ap₂ ◌||◌ (m v) (q v) ∙ sym (any_next (p v) k)

  pub marks-done : (n k x : ℕ) → k ≤ n → n ≤ k → Marks p k x → Marks p n x
  marks-done n k x l h m = let e : k ≡ n = omega arith in rw e at m

-- the same of rows: `p w v j` says that item j marks v in row w
abbrev pub RowMarks : (ℕ → ℕ → ℕ → Bool) → ℕ → List ℕ → Type 0
RowMarks p k rows = (w v : ℕ) → eqb (bits rows w v) 1 ≡ any_below (p w v) k

module _ (p : ℕ → ℕ → ℕ → Bool) where
  pub row-marks-none : (n : ℕ) → RowMarks p 0 (replicate n 0)
  row-marks-none n w v = rows_none n w v ∙ sym (any_none (p w v))

  -- an item that marks b in row a, and a in row b
  pub row-marks-more : (k : ℕ) (rows : List ℕ) (a b : ℕ) → a < length rows → b < length rows
      → ((w v : ℕ) → ((eqb a w && eqb b v) || (eqb b w && eqb a v)) ≡ p w v k)
      → RowMarks p k rows → RowMarks p (k + 1) (with_bit (with_bit rows a b) b a)
  row-marks-more k rows a b la lb q m w v =
      rows-with (with_bit rows a b) b a (rw (length-set rows a _) lb) w v
      ∙ ap (λ t. t || (eqb b w && eqb a v)) (rows-with rows a b la w v)
      ∙ or_assoc (eqb (bits rows w v) 1) (eqb a w && eqb b v) (eqb b w && eqb a v)
      ∙ ap₂ ◌||◌ (m w v) (q w v)
      ∙ sym (any_next (p w v) k)

  pub row-marks-done : (n k : ℕ) (rows : List ℕ) → k ≤ n → n ≤ k → RowMarks p k rows → RowMarks p n rows
  row-marks-done n k rows l h m = let e : k ≡ n = omega arith in rw e at m
