-- Laws of signed numbers. A signed local holds bits: `read x` is what the bits of x are read as, which is x where x fits.
use Prim.Native.Nat.{ℕ}
use native.Mathlib.Omega.{arith}
use mathlib.Core.Path.{◌≡◌, refl}
use mathlib.Core.Bool.{true, false}
use lib.IntN.{ℤ, pos, negsuc}
use lib.Signed.{mag, lt_z}
use mir.Syntax.{w64}
use mir.Val.{SFits, to_z, of_z}
use mir.ValLaws.{to_z-of_z}
use borrow.Author.Tests.{ltb-true}

abbrev pub read : ℤ → ℤ
read x = to_z w64 (of_z w64 x)

-- a number by whether it is below 0
below : (x : ℤ) → lt_z x (pos 0) ≡ true → x ≡ negsuc (mag x)
below (pos n) h = absurd (omega (arith, ltb-true n 0 h))
below (negsuc n) h = refl

above : (x : ℤ) → lt_z x (pos 0) ≡ false → x ≡ pos (mag x)
above (pos n) h = refl
above (negsuc n) h = let z : ◌≡◌ {A = ℕ} 0 1 = cc in absurd (omega arith)

module _ (x : ℤ) (fits : SFits w64 x) where
  -- the same by the test of what is read
  pub read_below : lt_z (read x) (pos 0) ≡ true → x ≡ negsuc (mag x)
  read_below h = below x (rw (to_z-of_z w64 x fits) at h)

  pub read_above : lt_z (read x) (pos 0) ≡ false → x ≡ pos (mag x)
  read_above h = above x (rw (to_z-of_z w64 x fits) at h)
