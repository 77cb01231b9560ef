-- Laws of `flag`, `seek`, `highest` and `count`.
use Prim.Native.Nat.{ℕ, zero, suc, ◌+◌, ◌≤◌, ◌<◌, min, max}
use native.Mathlib.Numerals.{add-one}
use native.Mathlib.Omega.{arith}
use mathlib.Core.Path.{◌≡◌, refl, ◌∙◌, sym, ap, ap₂}
use mathlib.Core.Bool.{Bool, true, false, ◌||◌}
use mathlib.Core.Logic.{⊎_elim}
use lib.Dec.{ltb, eqb}
use borrow.Author.Count.{below_none, below_more}
use borrow.Author.Tests.{ltb-true, ltb-false, eqb-true, eq-eqb, ne_eqb}
use Rattle.base.specs.Below.{any_below}
use Rattle.base.specs.Seek.{flag, seek, highest, count}
use Rattle.base.proofs.Numbers.{eq-or-ne, lt-or-le}

-- the flag of a test that holds
pub flag-yes : (b : Bool) → 1 ≤ flag b → b ≡ true
flag-yes true l = refl
flag-yes false l = absurd (omega arith)

-- the flag of an equation
pub flag_same : (i j : ℕ) → 1 ≤ flag (eqb i j) → i ≡ j
flag_same i j h = go (eqb i j) refl h
  where
    go : (b : Bool) → eqb i j ≡ b → 1 ≤ flag b → i ≡ j
    go true e g = eqb-true i j e
    go false e g = absurd (omega arith)

pub flag_one : (i j : ℕ) → i ≡ j → 1 ≤ flag (eqb i j)
flag_one i j e = rw (eq-eqb i j e) (omega arith)

pub flag-two : (i j : ℕ) → flag (eqb i j) < 2
flag-two i j = go (eqb i j)
  where
    go : (b : Bool) → flag b < 2
    go true = omega arith
    go false = omega arith

pub flag-none : (i j : ℕ) → (i ≡ j → ⊥) → flag (eqb i j) ≡ 0
flag-none i j e = rw (ne_eqb i j e)

-- what a search over f below n has found when it answers s
pub record Found (f : ℕ → ℕ) (n s : ℕ) : Type 0 where
  pub upto : s ≤ n
  pub before : (d : ℕ) → d < s → f d ≡ 0
  pub hit : s < n → 1 ≤ f s

pub seek_found : (f : ℕ → ℕ) (n : ℕ) → Found f n (seek f n)
unfolding seek
seek_found f zero = record { upto = omega arith; before = λ d h. absurd (omega arith); hit = λ h. absurd (omega arith) }
seek_found f (suc n) = go (seek_found f n) (ltb (seek f n) n) refl (f n) refl
  where
    go : Found f n (seek f n) → (b : Bool) → ltb (seek f n) n ≡ b → (x : ℕ) → f n ≡ x
        → Found f (suc n) (elim b [ true ↦ seek f n | false ↦ elim x [ zero ↦ suc n | suc y ↦ n ] ])
    go w true e x p =
        let l : seek f n < n = ltb-true _ _ e in
        record { upto = omega arith; before = w.before; hit = λ h. w.hit l }
    go w false e zero p =
        let l : n ≤ seek f n = ltb-false _ _ e in
        record {
          upto = omega arith;
          before = λ d h.
              ⊎_elim (λ (q : d ≡ n). ap f q ∙ p) (λ (q : d ≡ n → ⊥). w.before d (omega arith)) (eq-or-ne d n);
          hit = λ h. absurd (omega arith);
        }
    go w false e (suc y) p =
        let l : n ≤ seek f n = ltb-false _ _ e in
        record { upto = omega arith; before = λ d h. w.before d (omega arith); hit = λ h. omega arith }

-- one answer alone is right
pub found-is : (f : ℕ → ℕ) (n s : ℕ) → Found f n s → seek f n ≡ s
found-is f n s w = ⊎_elim low (λ g. ⊎_elim high (λ h. omega arith) (lt-or-le s (seek f n))) (lt-or-le (seek f n) s)
  where
    v : Found f n (seek f n)
    v = seek_found f n

    low : seek f n < s → seek f n ≡ s
    low l = absurd (omega (arith, w.before (seek f n) l, v.hit (omega (arith, w.upto))))

    high : s < seek f n → seek f n ≡ s
    high l = absurd (omega (arith, v.before s l, w.hit (omega (arith, v.upto))))

pub seek-below : (f : ℕ → ℕ) (n i : ℕ) → i < n → 1 ≤ f i → seek f n < n
seek-below f n i l h =
    ⊎_elim (λ (g : seek f n < n). g) (λ (g : n ≤ seek f n). absurd (omega (arith, (seek_found f n).before i (omega arith))))
    (lt-or-le (seek f n) n)

pub seek-cong : (f g : ℕ → ℕ) (n : ℕ) → ((i : ℕ) → i < n → f i ≡ g i) → seek f n ≡ seek g n
seek-cong f g n h = found-is f n (seek g n) (record {
  upto = v.upto;
  before = λ d l. h d (omega (arith, v.upto)) ∙ v.before d l;
  hit = λ l. omega (arith, h (seek g n) l, v.hit l);
})
  where
    v : Found g n (seek g n)
    v = seek_found g n

-- a loop that looks for the first yes below n, and has found none below i
pub record Scanned (f : ℕ → ℕ) (n i : ℕ) : Type 0 where
  pub upto : i ≤ n
  pub none : (d : ℕ) → d < i → f d ≡ 0

module _ (f : ℕ → ℕ) (n : ℕ) where
  pub scan-start : Scanned f n 0
  scan-start = record { upto = omega arith; none = below_none _ }

  pub scan-more : (i : ℕ) → Scanned f n i → i < n → f i ≡ 0 → Scanned f n (i + 1)
  scan-more i w l h = record { upto = omega arith; none = below_more _ i w.none h }

  pub scan-hit : (i : ℕ) → Scanned f n i → i < n → 1 ≤ f i → i ≡ seek f n
  scan-hit i w l h = sym (found-is f n i (record { upto = w.upto; before = w.none; hit = λ g. h }))

  pub scan-miss : (i : ℕ) → Scanned f n i → n ≤ i → n ≡ seek f n
  scan-miss i w l =
      sym (found-is f n n (record {
        upto = omega arith;
        before = λ d h. w.none d (omega arith);
        hit = λ g. absurd (omega arith);
      }))

pub highest-none : (f : ℕ → ℕ) → highest f 0 ≡ 0
unfolding highest
highest-none f = refl

pub highest-suc : (f : ℕ → ℕ) (n : ℕ) → highest f (suc n) ≡ max (highest f n) (f n)
unfolding highest
highest-suc f n = refl

pub highest-more : (f : ℕ → ℕ) (n : ℕ) → highest f (n + 1) ≡ max (highest f n) (f n)
highest-more f n = ap (highest f) (add-one n) ∙ highest-suc f n

pub highest-over : (f : ℕ → ℕ) (n i : ℕ) → i < n → f i ≤ highest f n
highest-over f zero i l = absurd (omega arith)
highest-over f (suc n) i l =
    ⊎_elim (λ (e : i ≡ n). omega (arith, highest-suc f n, ap f e))
    (λ (e : i ≡ n → ⊥). let h : f i ≤ highest f n = highest-over f n i (omega arith) in omega (arith, highest-suc f n))
    (eq-or-ne i n)

pub highest-under : (f : ℕ → ℕ) (n b : ℕ) → ((i : ℕ) → i < n → f i ≤ b) → highest f n ≤ b
highest-under f zero b h = omega (arith, highest-none f)
highest-under f (suc n) b h =
    let g : highest f n ≤ b = highest-under f n b (λ i l. h i (omega arith)) in
    omega (arith, highest-suc f n, h n (omega arith))

pub highest-cong : (f g : ℕ → ℕ) (n : ℕ) → ((i : ℕ) → i < n → f i ≡ g i) → highest f n ≡ highest g n
highest-cong f g zero h = highest-none f ∙ sym (highest-none g)
highest-cong f g (suc n) h =
    highest-suc f n ∙ ap₂ max (highest-cong f g n (λ i l. h i (omega arith))) (h n (omega arith)) ∙ sym (highest-suc g n)

-- the highest flag says whether any test holds
flag-either : (a b : Bool) → max (flag a) (flag b) ≡ flag (a || b)
flag-either true true = refl
flag-either true false = refl
flag-either false true = refl
flag-either false false = refl

pub highest-flag : (p : ℕ → Bool) (n : ℕ) → highest (λ i. flag (p i)) n ≡ flag (any_below p n)
unfolding highest any_below
highest-flag p zero = refl
highest-flag p (suc n) = ap (λ x. max x (flag (p n))) (highest-flag p n) ∙ flag-either (any_below p n) (p n)

-- where the highest value stands
pub record Top (f : ℕ → ℕ) (n : ℕ) : Type 0 where
  pub at : ℕ
  pub below : at < n
  pub is : f at ≡ highest f n

pub highest-top : (f : ℕ → ℕ) (n : ℕ) → 1 ≤ highest f n → Top f n
highest-top f zero h = absurd (omega (arith, highest-none f))
highest-top f (suc n) h = ⊎_elim new (old (highest-top f n)) (lt-or-le (highest f n) (f n))
  where
    new : highest f n < f n → Top f (suc n)
    new l = record { at = n; below = omega arith; is = omega (arith, highest-suc f n) }

    old : (1 ≤ highest f n → Top f n) → f n ≤ highest f n → Top f (suc n)
    old before l =
        let w : Top f n = before (omega (arith, highest-suc f n)) in
        record { at = w.at; below = omega arith; is = omega (arith, highest-suc f n, w.is) }

pub count_none : (f : ℕ → ℕ) → count f 0 ≡ 0
unfolding count
count_none f = refl

pub count-suc : (f : ℕ → ℕ) (n : ℕ) → count f (suc n) ≡ count f n + min 1 (f n)
unfolding count
count-suc f n = refl

pub count-le : (f : ℕ → ℕ) (n : ℕ) → count f n ≤ n
count-le f zero = omega (arith, count_none f)
count-le f (suc n) = omega (arith, count-le f n, count-suc f n)

pub count-mono : (f g : ℕ → ℕ) (n : ℕ) → ((i : ℕ) → i < n → 1 ≤ f i → 1 ≤ g i) → count f n ≤ count g n
count-mono f g zero h = omega (arith, count_none f)
count-mono f g (suc n) h =
    let w : count f n ≤ count g n = count-mono f g n (λ i l. h i (omega arith)) in
    ⊎_elim (λ (l : 0 < f n). omega (arith, count-suc f n, count-suc g n, h n (omega arith) l))
    (λ (l : f n ≤ 0). omega (arith, count-suc f n, count-suc g n))
    (lt-or-le 0 (f n))

-- a test that says yes wherever another does, and once more, counts more
pub count_less : (f g : ℕ → ℕ) (n x : ℕ) → x < n → f x ≡ 0 → 1 ≤ g x → ((i : ℕ) → i < n → 1 ≤ f i → 1 ≤ g i)
    → count f n < count g n
count_less f g zero x l p q h = absurd (omega arith)
count_less f g (suc n) x l p q h =
    ⊎_elim (λ (e : x ≡ n).
    omega (arith, count-suc f n, count-suc g n, ap f e, ap g e, count-mono f g n (λ i k. h i (omega arith))))
    (λ (e : x ≡ n → ⊥).
    let w : count f n < count g n = count_less f g n x (omega arith) p q (λ i k. h i (omega arith)) in
    ⊎_elim (λ (k : 0 < f n). omega (arith, count-suc f n, count-suc g n, h n (omega arith) k))
    (λ (k : f n ≤ 0). omega (arith, count-suc f n, count-suc g n))
    (lt-or-le 0 (f n)))
    (eq-or-ne x n)

pub count-cong : (f g : ℕ → ℕ) (n : ℕ) → ((i : ℕ) → i < n → f i ≡ g i) → count f n ≡ count g n
count-cong f g n h =
    omega (arith, count-mono f g n (λ i l m. omega (arith, h i l)), count-mono g f n (λ i l m. omega (arith, h i l)))

-- a test that says no everywhere counts nothing
pub count_no : (f : ℕ → ℕ) (n : ℕ) → ((i : ℕ) → i < n → f i ≡ 0) → count f n ≡ 0
count_no f zero h = count_none f
count_no f (suc n) h = omega (arith, count-suc f n, count_no f n (λ i l. h i (omega arith)), h n (omega arith))

-- a test that says yes everywhere counts n, and one that says no somewhere counts fewer
pub count-all : (f : ℕ → ℕ) (n : ℕ) → ((i : ℕ) → i < n → 1 ≤ f i) → count f n ≡ n
count-all f zero h = count_none f
count-all f (suc n) h = omega (arith, count-suc f n, count-all f n (λ i l. h i (omega arith)), h n (omega arith))

pub count-few : (f : ℕ → ℕ) (n i : ℕ) → i < n → f i ≡ 0 → count f n < n
count-few f n i l h =
    let g : count f n < count (λ j. 1) n = count_less f (λ j. 1) n i l h (omega arith) (λ j m k. omega arith) in
    omega (arith, count-le (λ j. 1) n)

-- a test that says yes once more than another, and is the same elsewhere, counts one more
pub count-one-more : (f g : ℕ → ℕ) (x n : ℕ) → x < n → f x ≡ 0 → 1 ≤ g x → ((i : ℕ) → (x ≡ i → ⊥) → g i ≡ f i)
    → count g n ≡ count f n + 1
count-one-more f g x zero l p q h = absurd (omega arith)
count-one-more f g x (suc n) l p q h =
    ⊎_elim (λ (e : x ≡ n).
    omega (arith, count-suc f n, count-suc g n, ap f e, ap g e, count-cong g f n (λ i k. h i (omega arith))))
    (λ (e : x ≡ n → ⊥). omega (arith, count-suc f n, count-suc g n, h n e, count-one-more f g x n (omega arith) p q h))
    (eq-or-ne x n)

-- a higher bound counts as many or more
pub count-upto : (f : ℕ → ℕ) (m n : ℕ) → m ≤ n → count f m ≤ count f n
count-upto f m zero l = let e : m ≡ 0 = omega arith in rw e (omega arith)
count-upto f m (suc n) l =
    ⊎_elim (λ (e : m ≡ suc n). rw e (omega arith))
    (λ (e : m ≡ suc n → ⊥). omega (arith, count-upto f m n (omega arith), count-suc f n))
    (eq-or-ne m (suc n))

-- a test that says yes below m alone counts at most m
pub count-within : (f : ℕ → ℕ) (m n : ℕ) → ((i : ℕ) → i < n → 1 ≤ f i → i < m) → count f n ≤ m
count-within f m zero h = omega (arith, count_none f)
count-within f m (suc n) h =
    ⊎_elim (λ (l : n < m). omega (arith, count-le f (suc n)))
    (λ (l : m ≤ n).
    ⊎_elim (λ (y : 0 < f n). absurd (omega (arith, h n (omega arith) y)))
    (λ (y : f n ≤ 0). omega (arith, count-suc f n, count-within f m n (λ i k. h i (omega arith))))
    (lt-or-le 0 (f n)))
    (lt-or-le n m)

-- the yes with k before it
pub record Nth (f : ℕ → ℕ) (n k : ℕ) : Type 0 where
  pub at : ℕ
  pub below : at < n
  pub yes : 1 ≤ f at
  pub before : count f at ≡ k

pub nth : (f : ℕ → ℕ) (n k : ℕ) → k < count f n → Nth f n k
nth f zero k l = absurd (omega (arith, count_none f))
nth f (suc n) k l = ⊎_elim (earlier (nth f n k)) last (lt-or-le k (count f n))
  where
    earlier : (k < count f n → Nth f n k) → k < count f n → Nth f (suc n) k
    earlier found h = let w : Nth f n k = found h in record { at = w.at; below = omega arith; yes = w.yes; before = w.before }

    last : count f n ≤ k → Nth f (suc n) k
    last h = record { at = n; below = omega arith; yes = omega (arith, count-suc f n); before = omega (arith, count-suc f n) }
