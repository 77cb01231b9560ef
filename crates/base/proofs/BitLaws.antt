-- Laws of single bits.
use Prim.Native.Nat.{ℕ, zero, suc, ◌+◌, ◌-◌, ◌/◌, ◌%◌, ◌^◌, ◌≤◌, ◌<◌, min, max}
use native.Mathlib.Omega.{arith}
use mathlib.Core.Path.{◌≡◌, refl, ◌∙◌, ap}
use mathlib.Core.List.{List}
use mathlib.Core.Logic.{◌⊎◌, inl, inr, ⊎_elim}
use native.Mathlib.Nat.{zero-div, div_self, div-eq_of_lt, lt_of_lt_of_le}
use lib.ListN.{length, get_or-eq_default}
use lib.Bits.{differ, bit_or, bit_and, bit_xor, or_step, and_step, xor_step, or_shr, and_shr, xor_shr}
use lib.Pow.{pow_pos, pow-lt, pow_mono, pow-add, shl-shr}
use Rattle.base.specs.Bits.{bit_n, bits}
use Rattle.base.proofs.Numbers.{lt-or-le}

odd-or : (a b : ℕ) → bit_or a b % 2 ≡ max (a % 2) (b % 2)
odd-or a b = omega (arith, or_step a b)

pub bit-or : (a b j : ℕ) → bit_n (bit_or a b) j ≡ max (bit_n a j) (bit_n b j)
bit-or a b j = ap (λ x. x % 2) (or_shr a b j) ∙ odd-or (a / 2 ^ j) (b / 2 ^ j)

odd-and : (a b : ℕ) → bit_and a b % 2 ≡ min (a % 2) (b % 2)
odd-and a b = omega (arith, and_step a b)

pub bit-and : (a b j : ℕ) → bit_n (bit_and a b) j ≡ min (bit_n a j) (bit_n b j)
bit-and a b j = ap (λ x. x % 2) (and_shr a b j) ∙ odd-and (a / 2 ^ j) (b / 2 ^ j)

-- a's bits that are not b's
less-digit : (x z : ℕ) → x < 2 → z < 2 → differ x (min x z) ≡ min x (1 - z)
less-digit zero z h l = omega arith
less-digit (suc zero) zero h l = refl
less-digit (suc zero) (suc zero) h l = refl
less-digit (suc zero) (suc (suc z)) h l = absurd (omega arith)
less-digit (suc (suc x)) z h l = absurd (omega arith)

odd-less : (a b : ℕ) → bit_xor a (bit_and a b) % 2 ≡ min (a % 2) (1 - b % 2)
odd-less a b =
    let e : differ (a % 2) (bit_and a b % 2) ≡ min (a % 2) (1 - b % 2) =
    ap (differ (a % 2)) (odd-and a b) ∙ less-digit (a % 2) (b % 2) (omega arith) (omega arith) in
    omega (arith, xor_step a (bit_and a b))

pub bit-less : (a b j : ℕ) → bit_n (bit_xor a (bit_and a b)) j ≡ min (bit_n a j) (1 - bit_n b j)
bit-less a b j =
    ap (λ x. x % 2) (xor_shr a (bit_and a b) j ∙ ap (bit_xor (a / 2 ^ j)) (and_shr a b j)) ∙ odd-less (a / 2 ^ j) (b / 2 ^ j)

-- a word with one bit set
pub bit-pow-same : (a : ℕ) → bit_n (2 ^ a) a ≡ 1
bit-pow-same a = ap (λ x. x % 2) (div_self (pow_pos a))

pub bit-pow-other : (a v : ℕ) → (a ≡ v → ⊥) → bit_n (2 ^ a) v ≡ 0
bit-pow-other a v d = go (lt-or-le a v)
  where
    even : (k : ℕ) → 2 ^ suc k % 2 ≡ 0
    even k = omega arith

    shifted : (k : ℕ) → 2 ^ (suc k + v) / 2 ^ v ≡ 2 ^ suc k
    shifted k = ap (λ x. x / 2 ^ v) (pow-add 2 (suc k) v) ∙ shl-shr (2 ^ suc k) v

    go : (a < v) ⊎ (v ≤ a) → bit_n (2 ^ a) v ≡ 0
    go (inl l) = ap (λ x. x % 2) (div-eq_of_lt (pow-lt l))
    go (inr l) =
        let k : ℕ = a - suc v in
        let e : a ≡ suc k + v = omega arith in
        ap (λ x. 2 ^ x / 2 ^ v % 2) e ∙ ap (λ x. x % 2) (shifted k) ∙ even k

-- past the last row there is no bit
pub bit_in : (rows : List ℕ) (i j : ℕ) → 1 ≤ bits rows i j → i < length rows
bit_in rows i j h =
    ⊎_elim (λ (l : i < length rows). l)
    (λ (l : length rows ≤ i).
    let e : bits rows i j ≡ 0 = ap (λ x. bit_n x j) (get_or-eq_default rows 0 l) ∙ ap (λ x. x % 2) (zero-div (2 ^ j)) in
    absurd (omega arith))
    (lt-or-le i (length rows))

-- nor past the last bit of a word
pub bit_past : (k x j : ℕ) → x < 2 ^ k → k ≤ j → bit_n x j ≡ 0
bit_past k x j h l = ap (λ y. y % 2) (div-eq_of_lt (lt_of_lt_of_le h (pow_mono l)))
