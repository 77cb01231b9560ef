-- Laws of a number's decimal digits.
use Prim.Native.Nat.{ℕ, zero, suc, ◌+◌, ◌-◌, ◌/◌, ◌%◌, ◌^◌, ◌≤◌, ◌<◌}
use native.Mathlib.Nat.{suc-add, pow-suc, div-lt_iff_lt-mul}
use native.Mathlib.Numerals.{sub-one}
use native.Mathlib.Omega.{arith}
use mathlib.Core.Path.{◌≡◌, refl, ap}
use mathlib.Core.Bool.{cond}
use mathlib.Core.List.{[], ◌∷◌, ◌++◌}
use lib.Dec.{ltb}
use borrow.Author.Tests.{lt-ltb, le-ltb}
use Rattle.text_fields.specs.Fields.{digit, digits}

-- as a number is written
pub digits-one : (k x : ℕ) → (k ≡ 0 → ⊥) → x < 10 → digits k x ≡ digit x ∷ []
unfolding digits
digits-one zero x some h = absurd (some refl)
digits-one (suc k) x some h = rw (lt-ltb x 10 h)

pub digits_last : (k x : ℕ) → (k ≡ 0 → ⊥) → 10 ≤ x → digits k x ≡ digits (k - 1) (x / 10) ++ (digit (x % 10) ∷ [])
unfolding digits
digits_last zero x some h = absurd (some refl)
digits_last (suc k) x some h = rw (le-ltb x 10 h, sub-one)

-- room for more digits than a number has changes nothing
pub digits-enough : (k j x : ℕ) → x < 10 ^ suc k → digits (suc k + j) x ≡ digits (suc k) x
unfolding digits
digits-enough zero j x h = rw (suc-add, lt-ltb x 10 h)
digits-enough (suc k) j x h =
    rw suc-add
    (ap (λ t. cond (ltb x 10) (digit x ∷ []) (t ++ (digit (x % 10) ∷ []))) (digits-enough k j (x / 10) ((div-lt_iff_lt-mul (omega arith)).1 (rw pow-suc at h))))
