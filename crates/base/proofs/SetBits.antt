-- Which bits are set, as tests: of a word and of rows, before and after one more is set.
use Prim.Native.Nat.{ℕ, zero, suc, ◌-◌, ◌%◌, ◌^◌, ◌≤◌, ◌<◌, min, max}
use native.Mathlib.Omega.{arith}
use native.Mathlib.Nat.{zero-div}
use mathlib.Core.Path.{◌≡◌, refl, ◌∙◌, sym, ap, ap₂}
use mathlib.Core.Bool.{false, not, ◌&&◌, ◌||◌, or-true, or-false}
use mathlib.Core.List.{List}
use mathlib.Core.Logic.{⊎_elim}
use borrow.Author.Tests.{eq-eqb, ne_eqb}
use lib.Bits.{bit_or, bit_and}
use lib.Dec.{eqb}
use lib.ListN.{length, get_or, replicate, get_or-eq_default, get_or-replicate, length-replicate}
use lib.Seq.{get_or-set_same, get_or-set_other}
use Rattle.base.specs.Seek.{flag}
use Rattle.base.specs.Bits.{bit_n, bits, with_bit}
use Rattle.base.proofs.Numbers.{lt-or-le, eq-or-ne}
use Rattle.base.proofs.BitLaws.{bit-or, bit-and, bit-pow-same, bit-pow-other}

-- of 0 none; of a word with bit a set that one, beside those before
pub bit-none : (v : ℕ) → eqb (bit_n 0 v) 1 ≡ false
bit-none v = ap (λ x. eqb (x % 2) 1) (zero-div (2 ^ v))

pub bit-with : (x a v : ℕ) → eqb (bit_n (bit_or x (2 ^ a)) v) 1 ≡ (eqb (bit_n x v) 1 || eqb a v)
bit-with x a v =
    ap (λ b. eqb b 1) (bit-or x (2 ^ a) v)
    ∙ ⊎_elim
    (λ (e : a ≡ v).
    let top : max (bit_n x v) (bit_n (2 ^ a) v) ≡ 1 = omega (arith, ap (bit_n (2 ^ a)) (sym e) ∙ bit-pow-same a) in
    eq-eqb _ 1 top ∙ sym (ap (◌||◌ (eqb (bit_n x v) 1)) (eq-eqb a v e) ∙ or-true (eqb (bit_n x v) 1)))
    (λ (e : a ≡ v → ⊥).
    let same : max (bit_n x v) (bit_n (2 ^ a) v) ≡ bit_n x v = omega (arith, bit-pow-other a v e) in
    ap (λ b. eqb b 1) same ∙ sym (ap (◌||◌ (eqb (bit_n x v) 1)) (ne_eqb a v e) ∙ or-false (eqb (bit_n x v) 1)))
    (eq-or-ne a v)

-- a bit is the test of it
pub bit-flag : (x v : ℕ) → bit_n x v ≡ flag (eqb (bit_n x v) 1)
bit-flag x v = go (bit_n x v) (omega arith)
  where
    go : (d : ℕ) → d < 2 → d ≡ flag (eqb d 1)
    go zero l = refl
    go (suc zero) l = refl
    go (suc (suc d)) l = absurd (omega arith)

-- of two words, those set in both, in one of them, and in the first alone
digits : (P : ℕ → ℕ → Type 0) → P 0 0 → P 0 1 → P 1 0 → P 1 1 → (x y : ℕ) → x < 2 → y < 2 → P x y
digits P a b c d zero zero h l = a
digits P a b c d zero (suc zero) h l = b
digits P a b c d (suc zero) zero h l = c
digits P a b c d (suc zero) (suc zero) h l = d
digits P a b c d zero (suc (suc y)) h l = absurd (omega arith)
digits P a b c d (suc zero) (suc (suc y)) h l = absurd (omega arith)
digits P a b c d (suc (suc x)) y h l = absurd (omega arith)

module _ (a b v : ℕ) where
  pub set-and : eqb (bit_n (bit_and a b) v) 1 ≡ (eqb (bit_n a v) 1 && eqb (bit_n b v) 1)
  set-and =
      ap (λ d. eqb d 1) (bit-and a b v)
      ∙ digits (λ x y. eqb (min x y) 1 ≡ (eqb x 1 && eqb y 1)) refl refl refl refl (bit_n a v) (bit_n b v) (omega arith) (omega arith)

  pub set-or : eqb (bit_n (bit_or a b) v) 1 ≡ (eqb (bit_n a v) 1 || eqb (bit_n b v) 1)
  set-or =
      ap (λ d. eqb d 1) (bit-or a b v)
      ∙ digits (λ x y. eqb (max x y) 1 ≡ (eqb x 1 || eqb y 1)) refl refl refl refl (bit_n a v) (bit_n b v) (omega arith) (omega arith)

  pub set-less : (r : ℕ) → bit_n r v ≡ min (bit_n a v) (1 - bit_n b v) → eqb (bit_n r v) 1 ≡ (eqb (bit_n a v) 1 && not (eqb (bit_n b v) 1))
  set-less r e =
      ap (λ d. eqb d 1) e
      ∙ digits (λ x y. eqb (min x (1 - y)) 1 ≡ (eqb x 1 && not (eqb y 1))) refl refl refl refl (bit_n a v) (bit_n b v) (omega arith) (omega arith)

-- the same of rows
pub rows_none : (n w v : ℕ) → eqb (bits (replicate n 0) w v) 1 ≡ false
rows_none n w v =
    ap (λ x. eqb (bit_n x v) 1)
    (⊎_elim (get_or-replicate n w 0 0)
    (λ (l : n ≤ w). get_or-eq_default (replicate n 0) 0 (rw (length-replicate n) l))
    (lt-or-le w n))
    ∙ bit-none v

pub rows-with : (rows : List ℕ) (i j : ℕ) → i < length rows → (w v : ℕ)
    → eqb (bits (with_bit rows i j) w v) 1 ≡ (eqb (bits rows w v) 1 || (eqb i w && eqb j v))
rows-with rows i j l w v =
    ⊎_elim
    (λ (e : i ≡ w).
    ap (λ x. eqb (bit_n x v) 1)
    (ap (λ k. get_or (with_bit rows i j) k 0) (sym e) ∙ get_or-set_same rows i _ 0 l)
    ∙ bit-with (get_or rows i 0) j v
    ∙ ap₂ (λ x b. eqb (bit_n (get_or rows x 0) v) 1 || (b && eqb j v)) e (sym (eq-eqb i w e)))
    (λ (e : i ≡ w → ⊥).
    ap (λ x. eqb (bit_n x v) 1) (get_or-set_other rows i w _ 0 (λ q. e (sym q)))
    ∙ sym (ap (λ b. eqb (bits rows w v) 1 || (b && eqb j v)) (ne_eqb i w e) ∙ or-false (eqb (bits rows w v) 1)))
    (eq-or-ne i w)
