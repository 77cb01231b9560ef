-- Case distinctions on numbers and tests that the kit does not have.
use Prim.Native.Nat.{ℕ, suc, ◌+◌, ◌*◌, ◌≤◌, ◌<◌}
use native.Mathlib.Omega.{arith}
use native.Mathlib.Nat.{mul-le-mul, mul-le-mul_left, mul-le-mul_right, mul-suc, suc-mul}
use native.Mathlib.Decide.{dec_lt, ℕ_discrete}
use mathlib.Core.Path.{◌≡◌, refl, ◌∙◌, sym}
use mathlib.Core.Bool.{Bool, true, false, not, ◌&&◌, ◌||◌}
use mathlib.Core.Logic.{◌⊎◌, inl, inr, ◌↔◌}
use borrow.Author.Tests.{lt-ltb, le-ltb, le-leb, lt-leb, eq-eqb, ne_eqb, leb-true, ltb-true, eqb-true}
use lib.Dec.{leb, ltb, eqb}

-- a decision as a sum, with what refutes it
decided : {P Q : Type 0} → ((P → ⊥) → Q) → Dec P → P ⊎ Q
decided f (Prim.yes p) = inl p
decided f (Prim.no n) = inr (f n)

pub lt-or-le : (i n : ℕ) → (i < n) ⊎ (n ≤ i)
lt-or-le i n = decided (λ h. omega arith) (dec_lt i n)

pub eq-or-ne : (i n : ℕ) → (i ≡ n) ⊎ (i ≡ n → ⊥)
eq-or-ne i n = decided (λ h. h) (ℕ_discrete i n)

pub square_le : (n k : ℕ) → n ≤ k → n * n ≤ k * k
square_le n k h = mul-le-mul h h

-- both halves of a conjunction of tests, and a conjunction from its halves
pub both_left : (a b : Bool) → (a && b) ≡ true → a ≡ true
both_left true b h = refl
both_left false b h = h

pub both_right : (a b : Bool) → (a && b) ≡ true → b ≡ true
both_right true b h = h
both_right false b h = let z : ◌≡◌ {A = ℕ} 0 1 = cc in absurd (omega arith)

pub both : (a b : Bool) → a ≡ true → b ≡ true → (a && b) ≡ true
both a b p q = cc

-- one of two tests passes
pub either_true : (a b : Bool) → (a || b) ≡ true → (a ≡ true) ⊎ (b ≡ true)
either_true true b h = inl refl
either_true false b h = inr h

-- a test that is not true is false, and the other way round
pub true-or-false : (b : Bool) → (b ≡ true) ⊎ (b ≡ false)
true-or-false true = inl refl
true-or-false false = inr refl

pub not-both : {A : Type 0} (b : Bool) → b ≡ true → b ≡ false → A
not-both b p q = let z : ◌≡◌ {A = ℕ} 0 1 = cc in absurd (omega arith)

-- what a guard on the answer of a callee tells: `if !ok { .. }`
pub denied : (r : Bool) {v : Bool} → r ≡ v → r ≡ false → v ≡ false
denied r e h = sym e ∙ h

pub granted : (r : Bool) {v : Bool} → r ≡ v → r ≡ true → v ≡ true
granted r e h = sym e ∙ h

-- .. and where the test stands negated
pub no : (r : Bool) {v : Bool} → r ≡ v → not r ≡ true → v ≡ false
no true e h = sym e ∙ sym h
no false e h = sym e

pub yes : (r : Bool) {v : Bool} → r ≡ v → not r ≡ false → v ≡ true
yes true e h = sym e
yes false e h = sym e ∙ sym h

-- a test's value from the fact behind it: what `search tests` closes at a return after guards
pub ruleset tests = (lt-ltb, le-ltb, le-leb, lt-leb, eq-eqb, ne_eqb)

-- the plain fact behind a passed test, both ways
pub and-iff : (a b : Bool) → ((a && b) ≡ true) ↔ ((a ≡ true) × (b ≡ true))
and-iff a b = (λ h. (both_left a b h, both_right a b h), λ h. both a b h.0 h.1)

pub leb-iff : (a b : ℕ) → (leb a b ≡ true) ↔ (a ≤ b)
leb-iff a b = (leb-true a b, le-leb a b)

pub ltb_iff : (a b : ℕ) → (ltb a b ≡ true) ↔ (a < b)
ltb_iff a b = (ltb-true a b, lt-ltb a b)

pub eqb-iff : (a b : ℕ) → (eqb a b ≡ true) ↔ (a ≡ b)
eqb-iff a b = (eqb-true a b, eq-eqb a b)

pub ruleset facts = (and-iff, leb-iff, ltb_iff, eqb-iff)

-- item i of n items of one size ends within them
pub item-within : (size n i : ℕ) → i < n → size * i + size ≤ size * n
item-within size n i h = let g : size * suc i ≤ size * n = mul-le-mul_left size h in omega (arith, mul-suc size i)

-- row u, column e lies within n rows of n
pub cell-lt : (n u e : ℕ) → u < n → e < n → u * n + e < n * n
cell-lt n u e h l =
    let rows : suc u * n ≤ n * n = mul-le-mul_right n h in
    omega (arith, suc-mul u n)
