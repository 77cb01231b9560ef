-- Numbers in bytes: how many bytes, what is read of them, and the bytes of what was read.
use Prim.Native.Nat.{ℕ, zero, suc, ◌+◌, ◌*◌, ◌/◌, ◌%◌, ◌^◌, ◌≤◌, ◌<◌}
use native.Mathlib.Nat.{add-zero, zero-add, add_comm, add_assoc, pow-suc, pow-zero}
use native.Mathlib.Numerals.{add-one}
use native.Mathlib.Omega.{arith}
use mathlib.Core.Path.{◌≡◌, refl, ◌∙◌, ap, ap₂}
use mathlib.Core.List.{List, ◌∷◌}
use mathlib.Core.Logic.{⊎_elim}
use lib.ListN.{length, get_or, take, drop, length-take, get_or-eq_default}
use lib.Seq.{drop-cons, get_or-take, get_or-drop}
use Rattle.base.specs.Bytes.{Bytes, little_endian, bytes_of}
use Rattle.base.proofs.Numbers.{lt-or-le}

pub length-bytes : (width number : ℕ) → length (bytes_of width number) ≡ width
length-bytes zero number = refl
length-bytes (suc width) number = ap suc (length-bytes width (number / 256))

-- a number is what its own bytes say
pub little-cong : (width : ℕ) (s t : List ℕ) (at to : ℕ) → ((b : ℕ) → b < width → get_or s (at + b) 0 ≡ get_or t (to + b) 0)
    → little_endian width s at ≡ little_endian width t to
little-cong zero s t at to h = refl
little-cong (suc width) s t at to h =
    let first : get_or s at 0 ≡ get_or t to 0 = simp add-zero at (h 0 (omega arith)) in
    let later : (b : ℕ) → b < width → get_or s (at + 1 + b) 0 ≡ get_or t (to + 1 + b) 0 = λ b l. simp add_assoc (h (1 + b) (omega arith)) in
    ap₂ (λ x y. x + 256 * y) first (little-cong width s t (at + 1) (to + 1) later)

-- what is read of a number's bytes is the number
pub number-back : (width number : ℕ) → number < 256 ^ width → little_endian width (bytes_of width number) 0 ≡ number
number-back zero number h = omega (arith, pow-zero 256)
number-back (suc width) number h =
    let later = little-cong width (bytes_of (suc width) number) (bytes_of width (number / 256)) 1 0 (λ b l. rw (add_comm 1 b, add-one, zero-add)) in
    omega (arith, later, number-back width (number / 256) (omega (arith, pow-suc 256 width)))

module _ (s : List ℕ) (bytes : Bytes s) where
  pub part_bytes : (size at : ℕ) → Bytes (take size (drop at s))
  part_bytes size at i =
      ⊎_elim
      (λ (l : i < size). omega (arith, get_or-take size (drop at s) i 0 l, get_or-drop at s i 0, bytes (at + i)))
      (λ (l : size ≤ i).
      let past : length (take size (drop at s)) ≤ i = simp length-take (omega arith) in
      omega (arith, get_or-eq_default (take size (drop at s)) 0 past))
      (lt-or-le i size)

  pub little-below : (width at : ℕ) → little_endian width s at < 256 ^ width
  little-below zero at = omega (arith, pow-zero 256)
  little-below (suc width) at = omega (arith, pow-suc 256 width, bytes at, little-below width (at + 1))

  -- the bytes of what is read are those that stand there
  pub bytes_back : (width at : ℕ) → at + width ≤ length s → bytes_of width (little_endian width s at) ≡ take width (drop at s)
  bytes_back zero at h = refl
  bytes_back (suc width) at h =
      let low : little_endian (suc width) s at % 256 ≡ get_or s at 0 = omega (arith, bytes at) in
      let high : little_endian (suc width) s at / 256 ≡ little_endian width s (at + 1) = omega (arith, bytes at) in
      ap₂ ◌∷◌ low (ap (bytes_of width) high ∙ bytes_back width (at + 1) (omega arith))
      ∙ rw (drop-cons s at 0 (omega arith), add-one)

-- past the end nothing is read
pub little-past : (width : ℕ) (s : List ℕ) (at : ℕ) → length s ≤ at → little_endian width s at ≡ 0
little-past zero s at h = refl
little-past (suc width) s at h = omega (arith, get_or-eq_default s 0 h, little-past width s (at + 1) (omega arith))
