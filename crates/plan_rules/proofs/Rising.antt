-- Items that each stand after the one before are in order pairwise, and the other way round.
use Prim.Native.Nat.{ℕ, zero, suc, ◌-◌, ◌<◌}
use native.Mathlib.Numerals.{sub-one}
use native.Mathlib.Omega.{arith}
use mathlib.Core.Path.{◌≡◌, refl, ◌∙◌, sym, ap}
use mathlib.Core.Bool.{Bool, true, false, ◌&&◌, ◌||◌, or-true}
use mathlib.Core.Logic.{inl, inr, ⊎_elim}
use borrow.Author.Tests.{lt-ltb, eq-eqb, ne_eqb, ltb-true}
use lib.Dec.{ltb, eqb}
use Rattle.base.proofs.Numbers.{facts, eq-or-ne}
use Rattle.plan_rules.specs.Rising.{rises_at, pair_before, PairBefore}

module _ (before : ℕ → ℕ → Bool) where
  rises-suc : (i : ℕ) → rises_at before (suc i) ≡ before i (suc i)
  rises-suc i = ap (λ b. b || before (suc i - 1) (suc i)) (ne_eqb (suc i) 0 (λ e. omega arith)) ∙ ap (λ k. before k (suc i)) (sub-one (suc i))

  rising-pairs :
      ((i j k : ℕ) → before i j ≡ true → before j k ≡ true → before i k ≡ true) → (n : ℕ) →
      ((i : ℕ) → i < n → rises_at before i ≡ true) → (i j : ℕ) → i < j → j < n → before i j ≡ true
  rising-pairs trans n steps i zero l h = absurd (omega arith)
  rising-pairs trans n steps i (suc j) l h =
      let step : before j (suc j) ≡ true = sym (rises-suc j) ∙ steps (suc j) h in
      ⊎_elim (λ (e : i ≡ j). rw e step)
      (λ (e : i ≡ j → ⊥). trans i j (suc j) (rising-pairs trans n steps i j (omega arith) (omega arith)) step)
      (eq-or-ne i j)

  rising-steps :
      (n : ℕ) → ((i j : ℕ) → i < j → j < n → before i j ≡ true) → (i : ℕ) → i < n → rises_at before i ≡ true
  rising-steps n pairs zero h = refl
  rising-steps n pairs (suc i) h = rises-suc i ∙ pairs i (suc i) (omega arith) h

-- items in order by a number each
module _ (f : ℕ → ℕ) where
  pub numbers-rise :
      (n : ℕ) → ((i : ℕ) → i < n → rises_at (λ i j. ltb (f i) (f j)) i ≡ true) → (i j : ℕ) → i < j → j < n → f i < f j
  numbers-rise n steps i j l h =
      ltb-true _ _
      (rising-pairs (λ i j. ltb (f i) (f j))
      (λ i j k p q. let p' = ltb-true (f i) (f j) p in let q' = ltb-true (f j) (f k) q in lt-ltb (f i) (f k) (omega arith)) n steps i j l h)

  pub numbers-step :
      (n : ℕ) → ((i j : ℕ) → i < j → j < n → f i < f j) → (i : ℕ) → i < n → rises_at (λ i j. ltb (f i) (f j)) i ≡ true
  numbers-step n pairs = rising-steps (λ i j. ltb (f i) (f j)) n (λ i j l h. lt-ltb _ _ (pairs i j l h))

-- pairs in order
module _ (f g : ℕ → ℕ) where
  before-fact : (i j : ℕ) → pair_before f g i j ≡ true → PairBefore f g i j
  before-fact i j h = go (ltb (f i) (f j)) refl
    where
      go : (b : Bool) → ltb (f i) (f j) ≡ b → PairBefore f g i j
      go true e = inl (ltb-true _ _ e)
      go false e = let rest : (eqb (f i) (f j) && ltb (g i) (g j)) ≡ true = cc in inr (simp facts at rest)

  before-test : (i j : ℕ) → PairBefore f g i j → pair_before f g i j ≡ true
  before-test i j (inl l) = rw (lt-ltb _ _ l)
  before-test i j (inr (e, l)) = rw (eq-eqb _ _ e, lt-ltb _ _ l) (or-true (ltb (f i) (f j)))

  before-trans : (i j k : ℕ) → PairBefore f g i j → PairBefore f g j k → PairBefore f g i k
  before-trans i j k (inl p) (inl q) = inl (omega arith)
  before-trans i j k (inl p) (inr q) = inl (omega arith)
  before-trans i j k (inr p) (inl q) = inl (omega arith)
  before-trans i j k (inr p) (inr q) = inr (omega arith)

  pub pairs-rise :
      (n : ℕ) → ((i : ℕ) → i < n → rises_at (pair_before f g) i ≡ true) → (i j : ℕ) → i < j → j < n → PairBefore f g i j
  pairs-rise n steps i j l h =
      before-fact i j
      (rising-pairs (pair_before f g) (λ i j k p q. before-test i k (before-trans i j k (before-fact i j p) (before-fact j k q))) n steps i j l h)

  pub pairs-step :
      (n : ℕ) → ((i j : ℕ) → i < j → j < n → PairBefore f g i j) → (i : ℕ) → i < n → rises_at (pair_before f g) i ≡ true
  pairs-step n pairs = rising-steps (pair_before f g) n (λ i j l h. before-test i j (pairs i j l h))

  -- a pair stands after the one before it, where there is one
  pub rises-after : (j : ℕ) → ((i : ℕ) → suc i ≡ j → PairBefore f g i j) → rises_at (pair_before f g) j ≡ true
  rises-after zero before = refl
  rises-after (suc i) before = rises-suc (pair_before f g) i ∙ before-test i (suc i) (before i refl)

  pub after-before : (i j : ℕ) → suc i ≡ j → rises_at (pair_before f g) j ≡ true → PairBefore f g i j
  after-before i j e h = rw (← e) (before-fact i (suc i) (sym (rises-suc (pair_before f g) i) ∙ rw (← e) at h))
