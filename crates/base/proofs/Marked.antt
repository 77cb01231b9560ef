-- Laws of `marked`: a loop that marks one number more a turn, and which bits are then set.
use Prim.Native.Nat.{ℕ, zero, suc, ◌+◌, ◌^◌, ◌≤◌, ◌<◌}
use native.Mathlib.Numerals.{add-one}
use native.Mathlib.Omega.{arith}
use mathlib.Core.Path.{◌≡◌, refl, ◌∙◌, sym, ap, ap₂}
use mathlib.Core.Bool.{Bool, true, false, cond, ◌&&◌, ◌||◌, and-true, and-false, or-false}
use mathlib.Core.Logic.{⊎_elim}
use borrow.Author.Tests.{lt-ltb, le-ltb, eq-eqb, ne_eqb}
use lib.Bits.{bit_or}
use lib.Dec.{ltb, eqb}
use Rattle.base.specs.Bits.{bit_n, marked}
use Rattle.base.proofs.Numbers.{eq-or-ne, lt-or-le}
use Rattle.base.proofs.SetBits.{bit-none, bit-with}

module _ (p : ℕ → Bool) where
  pub marked-none : marked p 0 ≡ 0
  unfolding marked
  marked-none = refl

  pub marked-suc : (m x : ℕ) (b : Bool) → b ≡ p m → x ≡ marked p m → cond b (bit_or x (2 ^ m)) x ≡ marked p (suc m)
  unfolding marked
  marked-suc m x b e h = ap₂ (λ b x. cond b (bit_or x (2 ^ m)) x) e h

  pub marked_more : (m x : ℕ) (b : Bool) → b ≡ p m → x ≡ marked p m → cond b (bit_or x (2 ^ m)) x ≡ marked p (m + 1)
  marked_more m x b e h = marked-suc m x b e h ∙ sym (ap (marked p) (add-one m))

  set_if : (b : Bool) (x m v : ℕ) → eqb (bit_n (cond b (bit_or x (2 ^ m)) x) v) 1 ≡ (eqb (bit_n x v) 1 || (b && eqb m v))
  set_if true x m v = bit-with x m v
  set_if false x m v = sym (or-false (eqb (bit_n x v) 1))

  set-suc : (m v : ℕ) → eqb (bit_n (marked p (suc m)) v) 1 ≡ (eqb (bit_n (marked p m) v) 1 || (p m && eqb m v))
  set-suc m v = ap (λ x. eqb (bit_n x v) 1) (sym (marked-suc m (marked p m) (p m) refl refl)) ∙ set_if (p m) (marked p m) m v

  pub marked-past : (m v : ℕ) → m ≤ v → eqb (bit_n (marked p m) v) 1 ≡ false
  marked-past zero v l = ap (λ x. eqb (bit_n x v) 1) marked-none ∙ bit-none v
  marked-past (suc m) v l = set-suc m v ∙ rw (marked-past m v (omega arith), ne_eqb m v (λ e. omega arith)) (and-false (p m))

  pub marked-below : (m v : ℕ) → v < m → eqb (bit_n (marked p m) v) 1 ≡ p v
  marked-below zero v l = absurd (omega arith)
  marked-below (suc m) v l =
      set-suc m v
      ∙ ⊎_elim (λ (e : v ≡ m). rw (e, marked-past m m (omega arith), eq-eqb m m refl) (and-true (p m)))
      (λ (e : v ≡ m → ⊥).
      rw (ne_eqb m v (λ q. e (sym q)), and-false (p m), or-false (eqb (bit_n (marked p m) v) 1)) (marked-below m v (omega arith)))
      (eq-or-ne v m)

  pub marked-is : (m v : ℕ) → eqb (bit_n (marked p m) v) 1 ≡ (ltb v m && p v)
  marked-is m v =
      ⊎_elim (λ (l : v < m). marked-below m v l ∙ sym (ap (λ b. b && p v) (lt-ltb v m l)))
      (λ (l : m ≤ v). marked-past m v l ∙ sym (ap (λ b. b && p v) (le-ltb v m l)))
      (lt-or-le v m)
