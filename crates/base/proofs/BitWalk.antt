-- Laws of a walk over the set bits of a word: each is visited once, lowest first. A loop owes only that an unset bit changes nothing.
use Prim.Native.Nat.{ℕ, zero, suc, ◌+◌, ◌-◌, ◌*◌, ◌/◌, ◌%◌, ◌^◌, ◌≤◌, ◌<◌, min}
use native.Mathlib.Numerals.{add-one}
use native.Mathlib.Omega.{arith}
use native.Mathlib.Nat.{zero-div, mul_assoc, mul_comm, suc-mul, pow-suc}
use mathlib.Core.Path.{◌≡◌, refl, ◌∙◌, sym, ap, ap₂}
use mathlib.Core.Logic.{⊎_elim}
use lib.Bits.{bit_and, and_step, and_block, and_self, and_zero_l, shifted_even}
use lib.Count.{count_trailing_zeros, under}
use lib.Pow.{pow_pos, pow-add, shl-shr, shr-shr}
use Rattle.base.specs.Bits.{bit_n}
use Rattle.base.specs.BitWalk.{from_bit, LowestBit, BitWalk}
use Rattle.base.proofs.Numbers.{lt-or-le, eq-or-ne}

-- what is shifted out goes with the bits below p
from-div : (x p q : ℕ) → p ≤ q → from_bit x p / 2 ^ q ≡ x / 2 ^ q
unfolding from_bit
from-div x p q l =
    let k : ℕ = q - p in
    let e : q ≡ p + k = omega arith in
    let h : from_bit x p / 2 ^ (p + k) ≡ x / 2 ^ (p + k) =
    sym (shr-shr (from_bit x p) p k) ∙ ap (λ y. y / 2 ^ k) (shl-shr (x / 2 ^ p) p) ∙ shr-shr x p k in
    rw e h

from-from : (x p q : ℕ) → p ≤ q → from_bit (from_bit x p) q ≡ from_bit x q
unfolding from_bit
from-from x p q l = ap (λ y. y * 2 ^ q) (from-div x p q l)

from-above : (x p v : ℕ) → p ≤ v → bit_n (from_bit x p) v ≡ bit_n x v
from-above x p v l = ap (λ y. y % 2) (from-div x p v l)

from-below : (x p v : ℕ) → v < p → bit_n (from_bit x p) v ≡ 0
unfolding from_bit
from-below x p v l =
    let k : ℕ = p - suc v in
    let e : p ≡ suc k + v = omega arith in
    let y : ℕ = x / 2 ^ p in
    let h : y * 2 ^ p ≡ y * 2 ^ suc k * 2 ^ v = ap (λ z. y * 2 ^ z) e ∙ ap (λ z. y * z) (pow-add 2 (suc k) v) ∙ sym (mul_assoc y (2 ^ suc k) (2 ^ v)) in
    let g : bit_n (y * 2 ^ p) v ≡ y * 2 ^ suc k % 2 = ap (λ z. z / 2 ^ v % 2) h ∙ ap (λ z. z % 2) (shl-shr (y * 2 ^ suc k) v) in
    g ∙ shifted_even y k

-- no bit below the lowest one is set
below-lowest : (m v u : ℕ) → LowestBit m v → u < v → bit_n m u ≡ 0
below-lowest m v u h l = ap (λ y. bit_n y u) (sym h.low) ∙ from-below m v u l

pub walk_start : (P : ℕ → Type 0) (x n : ℕ) → P 0 → BitWalk P x n x
unfolding from_bit
walk_start P x n h = record { at = 0; upto = omega arith; left = omega arith; holds = h }

-- a visit: m is not used up, and v is its lowest bit
module _ (P : ℕ → Type 0) (x n m v : ℕ) (within : (u : ℕ) → bit_n x u ≡ 1 → u < n) (w : BitWalk P x n m) (h : LowestBit m v) where
  not-before : w.at ≤ v
  not-before =
      ⊎_elim (λ (l : v < w.at). absurd (omega (arith, h.set, ap (λ y. bit_n y v) w.left ∙ from-below x w.at v l)))
      (λ (l : w.at ≤ v). l)
      (lt-or-le v w.at)

  pub walk-set : bit_n x v ≡ 1
  walk-set = sym (ap (λ y. bit_n y v) w.left ∙ from-above x w.at v not-before) ∙ h.set

  pub walk-within : v < n
  walk-within = within v walk-set

  -- the walk goes on with what holds after v
  pub walk_more : (Q : ℕ → Type 0) (m' : ℕ) → m' ≡ from_bit m (suc v) → Q (suc v) → BitWalk Q x n m'
  walk_more Q m' e q =
      record {
        at = suc v;
        upto = walk-within;
        left = e ∙ ap (λ y. from_bit y (suc v)) w.left ∙ from-from x w.at (suc v) (omega (arith, not-before));
        holds = q;
      }

-- at an unset bit the claim goes on
module _ (P : ℕ → Type 0) (x n : ℕ) (pass : (v : ℕ) → v < n → bit_n x v ≡ 0 → P v → P (suc v)) where
  over : (at v : ℕ) → at ≤ v → v ≤ n → ((u : ℕ) → at ≤ u → u < v → bit_n x u ≡ 0) → P at → P v
  over at zero a b unset h = let e : at ≡ 0 = omega arith in rw e at h
  over at (suc v) a b unset h =
      ⊎_elim (λ (e : at ≡ suc v). rw e at h)
      (λ (d : at ≡ suc v → ⊥).
      pass v b (unset v (omega arith) (omega arith)) (over at v (omega arith) (omega arith) (λ u c l. unset u c (omega arith)) h))
      (eq-or-ne at (suc v))

  -- .. so that it holds where a bit is visited, and at the end
  pub walk-visit : (m v : ℕ) → ((u : ℕ) → bit_n x u ≡ 1 → u < n) → BitWalk P x n m → LowestBit m v → P v
  walk-visit m v within w h =
      over w.at v (not-before P x n m v within w h) (omega (arith, walk-within P x n m v within w h))
      (λ u a b. sym (ap (λ y. bit_n y u) w.left ∙ from-above x w.at u a) ∙ below-lowest m v u h b)
      w.holds

  pub walk-done : (m : ℕ) → BitWalk P x n m → m ≡ 0 → P n
  walk-done m w e =
      over w.at n w.upto (omega arith)
      (λ u a b. sym (ap (λ y. bit_n y u) w.left ∙ from-above x w.at u a) ∙ ap (λ y. bit_n y u) e ∙ ap (λ y. y % 2) (zero-div (2 ^ u)))
      w.holds

-- a word shifted by one bit more is halved
half-shift : (x t : ℕ) → x / 2 / 2 ^ t ≡ x / 2 ^ suc t
half-shift x t = shr-shr x 1 t ∙ ap (λ s. x / 2 ^ s) (omega arith)

-- the lowest bit of an even word is the one after that of its half
lowest-half : (x t : ℕ) → x % 2 ≡ 0 → LowestBit (x / 2) t → LowestBit x (suc t)
unfolding from_bit
lowest-half x t e h =
    let twice : x / 2 ^ suc t * 2 ^ suc t ≡ x / 2 * 2 =
    ap₂ (λ y z. y * z) (sym (half-shift x t)) (pow-suc 2 t) ∙ sym (mul_assoc (x / 2 / 2 ^ t) (2 ^ t) 2) ∙ ap (λ y. y * 2) h.low in
    record { set = ap (λ y. y % 2) (sym (half-shift x t)) ∙ h.set; low = twice ∙ omega arith }

-- the count of the zeros below it is the lowest set bit
pub lowest-is : (k x : ℕ) → 0 < x → x < 2 ^ k → LowestBit x (count_trailing_zeros k x) × (count_trailing_zeros k x < k)
unfolding count_trailing_zeros from_bit
lowest-is zero x p l = absurd (omega arith)
lowest-is (suc k) x p l = go (x % 2) refl (λ e. lowest-is k (x / 2) (omega arith) (omega (arith, pow-suc 2 k)))
  where
    go : (d : ℕ) → x % 2 ≡ d → (x % 2 ≡ 0 → LowestBit (x / 2) (count_trailing_zeros k (x / 2)) × (count_trailing_zeros k (x / 2) < k))
        → LowestBit x (under d (count_trailing_zeros k (x / 2))) × (under d (count_trailing_zeros k (x / 2)) < suc k)
    go zero e half = (lowest-half x _ e (half e).0, omega (arith, (half e).1))
    go (suc d) e half = (record { set = omega arith; low = omega arith }, omega arith)

-- an odd number and the one before it
odd-and : (b : ℕ) → bit_and (suc (b * 2)) (b * 2) ≡ b * 2
odd-and b =
    let first : suc (b * 2) / 2 ≡ b = omega arith in
    let second : b * 2 / 2 ≡ b = omega arith in
    let last : min (suc (b * 2) % 2) (b * 2 % 2) ≡ 0 = omega arith in
    and_step (suc (b * 2)) (b * 2) ∙ ap₂ ◌+◌ (ap (λ y. y * 2) (ap₂ bit_and first second ∙ and_self b)) last ∙ omega arith

-- the word without its lowest bit
pub without_is : (x v : ℕ) → LowestBit x v → bit_and x (x - 1) ≡ from_bit x (suc v)
unfolding from_bit
without_is x v h =
    let b : ℕ = x / 2 ^ v / 2 in
    let odd : x / 2 ^ v ≡ suc (b * 2) = omega (arith, h.set) in
    let word : x ≡ suc (b * 2) * 2 ^ v + 0 = sym h.low ∙ ap (λ y. y * 2 ^ v) odd ∙ omega arith in
    let before : x - 1 ≡ b * 2 * 2 ^ v + (2 ^ v - 1) = omega (arith, word, suc-mul (b * 2) (2 ^ v), pow_pos v) in
    let doubled : b * 2 * 2 ^ v + 0 ≡ b * (2 ^ v * 2) = omega (arith, mul_assoc b 2 (2 ^ v) ∙ ap (λ y. b * y) (mul_comm 2 (2 ^ v))) in
    ap₂ bit_and word before
    ∙ and_block v (suc (b * 2)) (b * 2) 0 (2 ^ v - 1) (pow_pos v) (omega (arith, pow_pos v))
    ∙ ap₂ (λ y z. y * 2 ^ v + z) (odd-and b) (and_zero_l (2 ^ v - 1))
    ∙ doubled
    ∙ sym (ap₂ (λ y z. y * z) (ap (λ s. x / 2 ^ s) (sym (add-one v)) ∙ sym (shr-shr x v 1)) (pow-suc 2 v))
