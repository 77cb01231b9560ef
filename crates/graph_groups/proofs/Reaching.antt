-- The closure is who reaches whom by chains.
use Prim.Native.Nat.{ℕ, zero, suc, ◌≤◌, ◌<◌, max}
use native.Mathlib.Omega.{arith}
use mathlib.Core.Path.{◌≡◌, ◌∙◌, sym, ap}
use mathlib.Core.Logic.{◌⊎◌, inl, inr, ◌↔◌}
use Rattle.base.specs.Elimination.{cell, Agree}
use Rattle.base.proofs.Elimination.{Measure, has-direct, has-onward, has-path, eliminated-cong}
use Rattle.graph_groups.specs.Closure.{Relation, reaches, closing, closure, Chain, step, more, Acyclic}

-- "1 ≤ x" whatever the length: a relation says whether there is a chain, not how long it is
abbrev Related : ℕ → ℕ → Type 0
Related x t = 1 ≤ x

either-cases : (x y t : ℕ) → Related (max x y) t → Related x t ⊎ Related y t
either-cases zero y t h = inr (omega arith)
either-cases (suc x) y t h = inl (omega arith)

related : Measure reaches Related
related = record {
  longer = λ x t u l h. h;
  one = λ x y t h. omega arith;
  other = λ x y t h. omega arith;
  cases = either-cases;
  join = λ x y a b g h. omega arith;
  split = λ x y t h. record { first = 0; second = 0; left = omega arith; right = omega arith; both = omega arith };
}

chain-append : {R : Relation} {n i k j : ℕ} → k < n → Chain R n i k → Chain R n k j → Chain R n i j
chain-append l (step r) d = more l r d
chain-append l (more m r c) d = more m r (chain-append l c d)

module _ (R : Relation) (n : ℕ) where
  -- the closure holds the relation, and is transitive
  pub closure-related : (i j : ℕ) → i < n → j < n → 1 ≤ R i j → 1 ≤ closure R n i j
  unfolding closing
  closure-related i j = has-direct reaches Related related R n i j 0

  pub closure-trans : (i k j : ℕ) → i < n → k < n → j < n → 1 ≤ closure R n i k → 1 ≤ closure R n k j → 1 ≤ closure R n i j
  unfolding closing
  closure-trans i k j = has-onward reaches Related related R n i k j 0 0

  -- it holds nothing else
  closure-chain : (i j : ℕ) → i < n → j < n → 1 ≤ closure R n i j → Chain R n i j
  unfolding closing
  closure-chain i j =
      has-path reaches Related related R n (λ i j t. Chain R n i j) (λ i j t u l c. c) (λ i j t l m h. step h)
      (λ i k j a b l c d. chain-append l c d) i j 0

  chain-closure : {i j : ℕ} → i < n → j < n → Chain R n i j → 1 ≤ closure R n i j
  chain-closure l m (step h) = closure-related _ _ l m h
  chain-closure l m (more {k = k} o h c) = closure-trans _ k _ l o m (closure-related _ k l o h) (chain-closure o m c)

  -- the closure is who reaches whom by a chain
  pub closure-is : (i j : ℕ) → i < n → j < n → (1 ≤ closure R n i j) ↔ Chain R n i j
  closure-is i j l m = (closure-chain i j l m, chain-closure l m)

pub closure-cong : (R S : Relation) (n : ℕ) → Agree R S n → closure R n ≡ closure S n
unfolding closing
closure-cong R S n h = ap (cell 0) (eliminated-cong reaches R S n n h)

pub acyclic-cong : (R S : Relation) (n : ℕ) → Agree R S n → Acyclic R n → Acyclic S n
acyclic-cong R S n h q i l = sym (ap (λ C. C i i) (closure-cong R S n h)) ∙ q i l
