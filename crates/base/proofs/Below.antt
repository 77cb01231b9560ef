-- Laws of `all_below` and `any_below`: what a loop needs at its start, after a turn and at its ways out, and the plain facts the tests stand for.
use Prim.Native.Nat.{ℕ, zero, suc, ◌+◌, ◌*◌, ◌≤◌, ◌<◌}
use native.Mathlib.Nat.{add-zero, add-suc, zero-mul, suc-mul}
use native.Mathlib.Numerals.{add-one}
use native.Mathlib.Omega.{arith}
use mathlib.Core.Path.{◌≡◌, refl, ◌∙◌, sym, ap, ap₂}
use mathlib.Core.Bool.{Bool, true, false, not, ◌&&◌, ◌||◌, and-true, and_assoc, or-true}
use mathlib.Core.Logic.{⊎_elim}
use Rattle.base.specs.Below.{all_below, any_below}
use Rattle.base.proofs.Numbers.{both, both_left, both_right, eq-or-ne, not-both, granted, denied}

pub all_none : (p : ℕ → Bool) → all_below p 0 ≡ true
unfolding all_below
all_none p = refl

pub all-suc : (p : ℕ → Bool) (i : ℕ) → all_below p (suc i) ≡ (all_below p i && p i)
unfolding all_below
all-suc p i = refl

pub all-next : (p : ℕ → Bool) (i : ℕ) → all_below p (i + 1) ≡ (all_below p i && p i)
all-next p i = ap (all_below p) (add-one i) ∙ all-suc p i

pub all_more : (p : ℕ → Bool) (i : ℕ) → all_below p i ≡ true → p i ≡ true → all_below p (i + 1) ≡ true
all_more p i h q = all-next p i ∙ both _ _ h q

pub all-at : (p : ℕ → Bool) (n : ℕ) → all_below p n ≡ true → (i : ℕ) → i < n → p i ≡ true
all-at p zero h i l = absurd (omega arith)
all-at p (suc n) h i l =
    let g : (all_below p n && p n) ≡ true = sym (all-suc p n) ∙ h in
    ⊎_elim (λ (e : i ≡ n). ap p e ∙ both_right (all_below p n) (p n) g)
    (λ (e : i ≡ n → ⊥). all-at p n (both_left (all_below p n) (p n) g) i (omega arith))
    (eq-or-ne i n)

pub all-intro : (p : ℕ → Bool) (n : ℕ) → ((i : ℕ) → i < n → p i ≡ true) → all_below p n ≡ true
all-intro p zero f = all_none p
all-intro p (suc n) f = all-suc p n ∙ both _ _ (all-intro p n (λ i l. f i (omega arith))) (f n (omega arith))

pub all-cong : (p q : ℕ → Bool) (n : ℕ) → ((i : ℕ) → i < n → p i ≡ q i) → all_below p n ≡ all_below q n
all-cong p q zero h = all_none p ∙ sym (all_none q)
all-cong p q (suc n) h =
    all-suc p n ∙ ap₂ ◌&&◌ (all-cong p q n (λ i l. h i (omega arith))) (h n (omega arith)) ∙ sym (all-suc q n)

pub all-fail : (p : ℕ → Bool) (n i : ℕ) → i < n → p i ≡ false → all_below p n ≡ false
all-fail p n i l q = go (all_below p n) refl
  where
    go : (b : Bool) → all_below p n ≡ b → all_below p n ≡ false
    go true e = not-both (p i) (all-at p n e i l) q
    go false e = e

pub all_done : (p : ℕ → Bool) (n i : ℕ) → i ≤ n → n ≤ i → all_below p i ≡ true → all_below p n ≡ true
all_done p n i h l q = let e : i ≡ n = omega arith in rw e at q

-- a test that holds from m on has to be asked below m alone
pub all-upto : (p : ℕ → Bool) (m n : ℕ) → m ≤ n → ((i : ℕ) → m ≤ i → i < n → p i ≡ true) → all_below p n ≡ all_below p m
all-upto p m zero l h = let e : m ≡ 0 = omega arith in rw e
all-upto p m (suc n) l h =
    ⊎_elim (λ (e : m ≡ suc n). rw e)
    (λ (e : m ≡ suc n → ⊥).
    all-suc p n ∙ ap₂ ◌&&◌ (all-upto p m n (omega arith) (λ i a b. h i a (omega arith))) (h n (omega arith) (omega arith))
    ∙ and-true (all_below p m))
    (eq-or-ne m (suc n))

-- m rows of n numbers, read row by row
all-add : (p : ℕ → Bool) (m n : ℕ) → all_below p (m + n) ≡ (all_below p m && all_below (λ e. p (m + e)) n)
all-add p m zero = rw (add-zero, all_none (λ e. p (m + e)), and-true)
all-add p m (suc n) =
    rw (add-suc, all-suc p (m + n), all-add p m n, all-suc (λ e. p (m + e)) n)
    (and_assoc (all_below p m) (all_below (λ e. p (m + e)) n) (p (m + n)))

pub all-rows : (p : ℕ → Bool) (n m : ℕ) → all_below (λ u. all_below (λ e. p (u * n + e)) n) m ≡ all_below p (m * n)
all-rows p n zero = all_none _ ∙ sym (rw zero-mul (all_none p))
all-rows p n (suc m) =
    all-suc _ m ∙ ap (λ t. t && all_below (λ e. p (m * n + e)) n) (all-rows p n m) ∙ sym (rw suc-mul (all-add p (m * n) n))

-- a loop that returns no at the first number below n at which p fails, and yes at its end: p holds of every number below i.
-- `r` is the answer to p, on whose negation the loop branches.
pub record HeldSoFar (p : ℕ → Bool) (n i : ℕ) : Type 0 where
  pub upto : i ≤ n
  pub held : all_below p i ≡ true

module _ (p : ℕ → Bool) (n : ℕ) where
  pub held_start : HeldSoFar p n 0
  held_start = record { upto = omega arith; held = all_none p }

  pub held-fail : (i : ℕ) → i < n → (r : Bool) → r ≡ p i → r ≡ false → false ≡ all_below p n
  held-fail i l r e h = sym (all-fail p n i l (denied r e h))

  pub held_more : (i : ℕ) → HeldSoFar p n i → i < n → (r : Bool) → r ≡ p i → r ≡ true → HeldSoFar p n (i + 1)
  held_more i w l r e h = record { upto = omega arith; held = all_more p i w.held (granted r e h) }

  pub held-done : (i : ℕ) → HeldSoFar p n i → n ≤ i → true ≡ all_below p n
  held-done i w l = sym (all_done p n i w.upto l w.held)

pub any_none : (p : ℕ → Bool) → any_below p 0 ≡ false
unfolding any_below
any_none p = refl

pub any-suc : (p : ℕ → Bool) (i : ℕ) → any_below p (suc i) ≡ (any_below p i || p i)
unfolding any_below
any-suc p i = refl

pub any_next : (p : ℕ → Bool) (i : ℕ) → any_below p (i + 1) ≡ (any_below p i || p i)
any_next p i = ap (any_below p) (add-one i) ∙ any-suc p i

-- some number below n at which p holds
pub record Witness (p : ℕ → Bool) (n : ℕ) : Type 0 where
  pub at : ℕ
  pub below : at < n
  pub holds : p at ≡ true

pub any_at : (p : ℕ → Bool) (n : ℕ) → any_below p n ≡ true → Witness p n
any_at p zero h = not-both (any_below p 0) h (any_none p)
any_at p (suc n) h = go (any_below p n) refl (any_at p n)
  where
    go : (b : Bool) → any_below p n ≡ b → (any_below p n ≡ true → Witness p n) → Witness p (suc n)
    go true e f = let w : Witness p n = f e in record { at = w.at; below = omega arith; holds = w.holds }
    go false e f = record { at = n; below = omega arith; holds = cc (any-suc p n) }

pub any_found : (p : ℕ → Bool) (n i : ℕ) → i < n → p i ≡ true → any_below p n ≡ true
any_found p zero i l q = absurd (omega arith)
any_found p (suc n) i l q =
    ⊎_elim (λ (e : i ≡ n). any-suc p n ∙ ap (◌||◌ (any_below p n)) (sym (ap p e) ∙ q) ∙ or-true (any_below p n))
    (λ (e : i ≡ n → ⊥). let h : any_below p n ≡ true = any_found p n i (omega arith) q in any-suc p n ∙ cc)
    (eq-or-ne i n)

pub any-refuted : (p : ℕ → Bool) (n : ℕ) → ((i : ℕ) → i < n → p i ≡ false) → any_below p n ≡ false
any-refuted p zero f = any_none p
any-refuted p (suc n) f =
    let h : any_below p n ≡ false = any-refuted p n (λ i l. f i (omega arith)) in
    let g : p n ≡ false = f n (omega arith) in
    any-suc p n ∙ cc

pub any-cong : (p q : ℕ → Bool) (n : ℕ) → ((i : ℕ) → i < n → p i ≡ q i) → any_below p n ≡ any_below q n
any-cong p q zero h = any_none p ∙ sym (any_none q)
any-cong p q (suc n) h =
    any-suc p n ∙ ap₂ ◌||◌ (any-cong p q n (λ i l. h i (omega arith))) (h n (omega arith)) ∙ sym (any-suc q n)

-- where a test does not hold of every number, some number refutes it
pub all-broken : (p : ℕ → Bool) (n : ℕ) → all_below p n ≡ false → Witness (λ i. not (p i)) n
all-broken p zero h = not-both (all_below p 0) (all_none p) h
all-broken p (suc n) h = go (all_below p n) refl (all-broken p n)
  where
    go : (b : Bool) → all_below p n ≡ b → (all_below p n ≡ false → Witness (λ i. not (p i)) n) → Witness (λ i. not (p i)) (suc n)
    go true e f = let last : p n ≡ false = cc (all-suc p n) in record { at = n; below = omega arith; holds = ap not last }
    go false e f = let w : Witness (λ i. not (p i)) n = f e in record { at = w.at; below = omega arith; holds = w.holds }
