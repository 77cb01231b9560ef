-- Laws of `best`: it is the best candidate below the bound, and there is only one.
use Prim.Native.Nat.{ℕ, zero, suc, ◌<◌, ◌≤◌}
use native.Mathlib.Omega.{arith}
use mathlib.Core.Path.{◌≡◌, refl, ◌∙◌, sym, ap}
use mathlib.Core.Bool.{Bool, true, false, not, cond}
use mathlib.Core.Option.{Option, none, some}
use mathlib.Core.Logic.{◌⊎◌, inl, inr, ⊎_elim}
use lib.Dec.{ltb}
use borrow.Author.Tests.{ltb-true, lt-ltb, le-ltb, not-false}
use Rattle.base.specs.Best.{keep_best, best}
use Rattle.base.proofs.Numbers.{eq-or-ne, lt-or-le, not-both}

-- a strict total order: of two different numbers exactly one comes before the other
pub record StrictOrder (before : ℕ → ℕ → Bool) : Type 0 where
  pub irreflexive : (a : ℕ) → before a a ≡ false
  pub transitive : (a b c : ℕ) → before a b ≡ true → before b c ≡ true → before a c ≡ true
  pub exactly_one : (a b : ℕ) → (a ≡ b → ⊥) → before a b ≡ not (before b a)

-- what it is to be the best candidate below n
pub record IsBest (before : ℕ → ℕ → Bool) (candidate : ℕ → Bool) (n b : ℕ) : Type 0 where
  pub below : b < n
  pub among : candidate b ≡ true
  pub unbeaten : (i : ℕ) → i < n → candidate i ≡ true → before i b ≡ false

-- .. or for there to be none
abbrev pub BestIs : (ℕ → ℕ → Bool) → (ℕ → Bool) → ℕ → Option ℕ → Type 0
BestIs before candidate n none = (i : ℕ) → i < n → candidate i ≡ false
BestIs before candidate n (some b) = IsBest before candidate n b

module _ (before : ℕ → ℕ → Bool) (o : StrictOrder before) where
  -- of two numbers neither of which comes before the other there is only one
  pub order_same : (a b : ℕ) → before a b ≡ false → before b a ≡ false → a ≡ b
  order_same a b p q =
      ⊎_elim (λ (e : a ≡ b). e)
      (λ (e : a ≡ b → ⊥). not-both (before b a) (not-false _ (sym (o.exactly_one a b e) ∙ p)) q)
      (eq-or-ne a b)

  pub order-asym : (a b : ℕ) → before a b ≡ true → before b a ≡ false
  order-asym a b p = go (before b a) refl
    where
      go : (x : Bool) → before b a ≡ x → before b a ≡ false
      go false h = h
      go true h = not-both (before a a) (o.transitive a b a p h) (o.irreflexive a)

  -- not to come before is transitive
  pub order-not-trans : (a b c : ℕ) → before a b ≡ false → before b c ≡ false → before a c ≡ false
  order-not-trans a b c p q = go (before a c) refl
    where
      go : (x : Bool) → before a c ≡ x → before a c ≡ false
      go false h = h
      go true h =
          ⊎_elim (λ (e : a ≡ b). ap (λ z. before z c) e ∙ q)
          (λ (e : a ≡ b → ⊥).
          not-both (before b c) (o.transitive b a c (not-false _ (sym (o.exactly_one a b e) ∙ p)) h) q)
          (eq-or-ne a b)

  module _ (P : ℕ → Bool) where
    more-none : (n : ℕ) → P n ≡ false → ((i : ℕ) → i < n → P i ≡ false) → (i : ℕ) → i < suc n → P i ≡ false
    more-none n p f i l = ⊎_elim (λ (e : i ≡ n). ap P e ∙ p) (λ (e : i ≡ n → ⊥). f i (omega arith)) (eq-or-ne i n)

    more-unbeaten : (n b : ℕ) → (P n ≡ true → before n b ≡ false) → ((i : ℕ) → i < n → P i ≡ true → before i b ≡ false)
        → (i : ℕ) → i < suc n → P i ≡ true → before i b ≡ false
    more-unbeaten n b p f i l q =
        ⊎_elim (λ (e : i ≡ n). ap (λ z. before z b) e ∙ p (sym (ap P e) ∙ q)) (λ (e : i ≡ n → ⊥). f i (omega arith) q) (eq-or-ne i n)

    best-step : (n : ℕ) (t : Bool) → P n ≡ t → (b : Option ℕ) → BestIs before P n b → BestIs before P (suc n) (keep_best before t n b)
    unfolding keep_best
    best-step n false e none h = more-none n e h
    best-step n false e (some b) h =
        record { below = omega arith; among = h.among; unbeaten = more-unbeaten n b (λ q. not-both (P n) q e) h.unbeaten }
    best-step n true e none h =
        record { below = omega arith; among = e; unbeaten = more-unbeaten n n (λ q. o.irreflexive n) (λ i l q. not-both (P i) q (h i l)) }
    best-step n true e (some b) h = go (before n b) refl
      where
        go : (x : Bool) → before n b ≡ x → BestIs before P (suc n) (cond x (some n) (some b))
        go false q = record { below = omega arith; among = h.among; unbeaten = more-unbeaten n b (λ _. q) h.unbeaten }
        go true q =
            record {
              below = omega arith;
              among = e;
              unbeaten =
                  more-unbeaten n n (λ _. o.irreflexive n)
                  (λ i l r. order-not-trans i b n (h.unbeaten i l r) (order-asym n b q));
            }

    -- `best` is the best candidate, and none exactly if there is no candidate
    pub best-is : (n : ℕ) → BestIs before P n (best before P n)
    unfolding best
    best-is zero = λ i l. absurd (omega arith)
    best-is (suc n) = best-step n (P n) refl (best before P n) (best-is n)

    pub best-unique : (n : ℕ) (a b : Option ℕ) → BestIs before P n a → BestIs before P n b → a ≡ b
    best-unique n none none g h = refl
    best-unique n none (some b) g h = not-both (P b) h.among (g b h.below)
    best-unique n (some a) none g h = not-both (P a) g.among (h a g.below)
    best-unique n (some a) (some b) g h =
        ap some (order_same a b (h.unbeaten a g.below g.among) (g.unbeaten b h.below h.among))

-- one candidate more, case by case, as a loop meets it
module _ (before : ℕ → ℕ → Bool) (k : ℕ) where
  pub keep-none : (b : Option ℕ) → keep_best before false k b ≡ b
  unfolding keep_best
  keep-none b = refl

  pub keep-only : keep_best before true k none ≡ some k
  unfolding keep_best
  keep-only = refl

  pub keep-new : (b : ℕ) → before k b ≡ true → keep_best before true k (some b) ≡ some k
  unfolding keep_best
  keep-new b h = cc

  pub keep-old : (b : ℕ) → before k b ≡ false → keep_best before true k (some b) ≡ some b
  unfolding keep_best
  keep-old b h = cc

pub best-start : (before : ℕ → ℕ → Bool) (P : ℕ → Bool) → best before P 0 ≡ none
unfolding best
best-start before P = refl

pub best-more : (before : ℕ → ℕ → Bool) (P : ℕ → Bool) (n : ℕ) → best before P (suc n) ≡ keep_best before (P n) n (best before P n)
unfolding best
best-more before P n = refl

-- the order of the numbers themselves
pub ltb-order : StrictOrder ltb
ltb-order =
    record {
      irreflexive = λ a. le-ltb a a (omega arith);
      transitive = λ a b c p q. lt-ltb a c (omega (arith, ltb-true a b p, ltb-true b c q));
      exactly_one = λ a b e. one a b e (lt-or-le a b);
    }
  where
    one : (a b : ℕ) → (a ≡ b → ⊥) → (a < b) ⊎ (b ≤ a) → ltb a b ≡ not (ltb b a)
    one a b e (inl l) = cc (lt-ltb a b l, le-ltb b a (omega arith))
    one a b e (inr l) = cc (le-ltb a b l, lt-ltb b a (omega arith))
