-- Laws of sums and counts, and of sums of counts.
use Prim.Native.Nat.{ℕ, zero, suc, ◌+◌, ◌≤◌, ◌<◌, min}
use native.Mathlib.Omega.{arith}
use mathlib.Core.Path.{◌≡◌, refl, ◌∙◌, sym, ap₂}
use mathlib.Core.Bool.{Bool, true, false, ◌&&◌}
use mathlib.Core.Logic.{◌↔◌}
use lib.Dec.{eqb}
use Rattle.base.specs.Seek.{flag, count}
use Rattle.base.proofs.Seek.{flag_one, flag-none, count_none, count-suc, count-mono, count_no, count-one-more, count-upto}
use Rattle.figures_rules.specs.Sums.{total}

pub total-cong : (f g : ℕ → ℕ) (n : ℕ) → ((i : ℕ) → i < n → f i ≡ g i) → total f n ≡ total g n
unfolding total
total-cong f g zero h = refl
total-cong f g (suc n) h = ap₂ ◌+◌ (total-cong f g n (λ i l. h i (omega arith))) (h n (omega arith))

total-nothing : (n : ℕ) → total (λ i. 0) n ≡ 0
unfolding total
total-nothing zero = refl
total-nothing (suc n) = omega (arith, total-nothing n)

total-add : (f g : ℕ → ℕ) (n : ℕ) → total (λ i. f i + g i) n ≡ total f n + total g n
unfolding total
total-add f g zero = refl
total-add f g (suc n) = omega (arith, total-add f g n)

-- a count is a sum of ones
count-total : (f : ℕ → ℕ) (n : ℕ) → count f n ≡ total (λ i. min 1 (f i)) n
unfolding total
count-total f zero = count_none f
count-total f (suc n) = omega (arith, count-suc f n, count-total f n)

pub flag-once : (b : Bool) → min 1 (flag b) ≡ flag b
flag-once true = refl
flag-once false = refl

pub total-flags : (p : ℕ → Bool) (n : ℕ) → total (λ i. flag (p i)) n ≡ count (λ i. flag (p i)) n
total-flags p n = sym (count-total (λ i. flag (p i)) n ∙ total-cong _ _ n (λ i l. flag-once (p i)))

-- pairs counted by the one and by the other
pub total-counts : (g : ℕ → ℕ → ℕ) (n m : ℕ) → total (λ x. count (λ k. g k x) m) n ≡ total (λ k. count (g k) n) m
unfolding total
total-counts g n zero = total-cong _ _ n (λ x l. count_none (λ k. g k x)) ∙ total-nothing n
total-counts g n (suc m) =
    total-cong _ _ n (λ x l. count-suc (λ k. g k x) m)
    ∙ total-add (λ x. count (λ k. g k x) m) (λ x. min 1 (g m x)) n
    ∙ ap₂ ◌+◌ (total-counts g n m) (sym (count-total (g m) n))

-- two tests that say yes to the same count the same
pub count-iff : (f g : ℕ → ℕ) (n : ℕ) → ((i : ℕ) → i < n → (1 ≤ f i) ↔ (1 ≤ g i)) → count f n ≡ count g n
count-iff f g n h = omega (arith, count-mono f g n (λ i l. (h i l).0), count-mono g f n (λ i l. (h i l).1))

-- a yes is counted
pub count-some : (f : ℕ → ℕ) (n i : ℕ) → i < n → 1 ≤ f i → 1 ≤ count f n
count-some f n i l h = omega (arith, count-suc f i, count-upto f (suc i) n l)

-- a test of one number counts 1, and with another test of its own as often as that holds
pub count-one : (a n : ℕ) → a < n → count (λ i. flag (eqb a i)) n ≡ 1
count-one a n l =
    count-one-more (λ i. 0) (λ i. flag (eqb a i)) a n l refl (flag_one a a refl) (λ i d. flag-none a i d)
    ∙ omega (arith, count_no (λ i. 0) n (λ i o. refl))

pub count_at : (b : Bool) (a n : ℕ) → (b ≡ true → a < n) → count (λ i. flag (b && eqb a i)) n ≡ flag b
count_at true a n h = count-one a n (h refl)
count_at false a n h = count_no (λ i. 0) n (λ i o. refl)
