-- Laws of `tab`: its length and items, when two are equal, and a loop that writes one to the front of a list.
use Prim.Native.Nat.{ℕ, zero, suc, ◌+◌, ◌≤◌, ◌<◌}
use native.Mathlib.Numerals.{add-one}
use native.Mathlib.Omega.{arith}
use mathlib.Core.Path.{◌≡◌, refl, ◌∙◌, sym, ap, ap₂}
use mathlib.Core.List.{List, [], ◌∷◌, ◌++◌, append_assoc}
use mathlib.Core.Logic.{⊎_elim}
use lib.ListN.{length, get_or, take, drop, set, length-append, length-drop, take-append-drop, get_or-append}
use lib.Seq.{get_or_at, set_at, drop-cons, drop_at, take-suc}
use Rattle.base.specs.Tab.{tab}
use Rattle.base.proofs.Numbers.{eq-or-ne}

module _ {A : Type 0} where
  pub tab-none : (f : ℕ → A) → tab f 0 ≡ []
  unfolding tab
  tab-none f = refl

  pub tab-suc : (f : ℕ → A) (n : ℕ) → tab f (suc n) ≡ tab f n ++ (f n ∷ [])
  unfolding tab
  tab-suc f n = refl

  pub length-tab : (f : ℕ → A) (n : ℕ) → length (tab f n) ≡ n
  length-tab f zero = ap length (tab-none f)
  length-tab f (suc n) = ap length (tab-suc f n) ∙ length-append (tab f n) (f n ∷ []) ∙ omega (arith, length-tab f n)

  pub get_or-tab : (f : ℕ → A) (n : ℕ) (d : A) (i : ℕ) → i < n → get_or (tab f n) i d ≡ f i
  get_or-tab f zero d i l = absurd (omega arith)
  get_or-tab f (suc n) d i l =
      ⊎_elim (λ (e : i ≡ n). ap₂ (λ t k. get_or t k d) (tab-suc f n) e ∙ get_or_at (tab f n) (f n) [] d n (length-tab f n) ∙ ap f (sym e))
      (λ (e : i ≡ n → ⊥).
      ap (λ t. get_or t i d) (tab-suc f n)
      ∙ get_or-append (tab f n) (f n ∷ []) d i (omega (arith, length-tab f n))
      ∙ get_or-tab f n d i (omega arith))
      (eq-or-ne i n)

  pub tab-cong : (f g : ℕ → A) (n : ℕ) → ((i : ℕ) → i < n → f i ≡ g i) → tab f n ≡ tab g n
  tab-cong f g zero h = tab-none f ∙ sym (tab-none g)
  tab-cong f g (suc n) h =
      tab-suc f n
      ∙ ap₂ (λ t x. t ++ (x ∷ [])) (tab-cong f g n (λ i l. h i (omega arith))) (h n (omega arith))
      ∙ sym (tab-suc g n)

-- a loop that writes f 0, .. , f (n - 1) to the front of a list that was d, and has written i of them
pub record Written {A : Type 0} (f : ℕ → A) (n : ℕ) (d l : List A) (i : ℕ) : Type 0 where
  pub upto : i ≤ n
  pub long : n ≤ length d
  pub is : l ≡ tab f i ++ drop i d

module _ {A : Type 0} (f : ℕ → A) (n : ℕ) (d : List A) where
  pub write-start : n ≤ length d → Written f n d d 0
  write-start h = record { upto = omega arith; long = h; is = rw tab-none }

  pub write-length : (l : List A) (i : ℕ) → Written f n d l i → length l ≡ length d
  write-length l i w =
      ap length w.is ∙ length-append (tab f i) (drop i d) ∙ omega (arith, length-tab f i, length-drop i d, w.upto, w.long)

  pub write-room : (l : List A) (i : ℕ) → Written f n d l i → i < n → i < length l
  write-room l i w h = omega (arith, write-length l i w, w.long)

  pub write-more : (z : A) (l : List A) (i : ℕ) (x : A) → Written f n d l i → i < n → x ≡ f i → Written f n d (set l i x) (i + 1)
  write-more z l i x w h q = record {
    upto = omega arith;
    long = w.long;
    is =
        rw (w.is, q, drop-cons d i z (omega (arith, w.long)), add-one, tab-suc)
        (set_at (tab f i) (get_or d i z) (drop (suc i) d) (f i) i (length-tab f i)
        ∙ sym (append_assoc (tab f i) (f i ∷ []) (drop (suc i) d)));
  }

  pub write_done : (l : List A) (i : ℕ) → Written f n d l i → n ≤ i → l ≡ tab f n ++ drop n d
  write_done l i w h = let e : i ≡ n = omega (arith, w.upto) in rw e at w.is

module _ {A : Type 0} where
  -- a list that has the function's values at its front
  pub tab-front : (f : ℕ → A) (n : ℕ) (z : A) (l : List A) → n ≤ length l → ((i : ℕ) → i < n → get_or l i z ≡ f i) → l ≡ tab f n ++ drop n l
  tab-front f n z l h e = sym (take-append-drop n l) ∙ ap (λ t. t ++ drop n l) (front n h e)
    where
      front : (k : ℕ) → k ≤ length l → ((i : ℕ) → i < k → get_or l i z ≡ f i) → take k l ≡ tab f k
      front zero g q = sym (tab-none f)
      front (suc k) g q =
          take-suc l k z g
          ∙ ap₂ (λ t x. t ++ (x ∷ [])) (front k (omega arith) (λ i o. q i (omega arith))) (q k (omega arith))
          ∙ sym (tab-suc f k)

  pub drop-written : (f : ℕ → A) (n : ℕ) (d l : List A) → l ≡ tab f n ++ drop n d → drop n l ≡ drop n d
  drop-written f n d l e = ap (drop n) e ∙ drop_at (tab f n) (drop n d) n (length-tab f n)

  pub get_or-written : (f : ℕ → A) (n : ℕ) (z : A) (d l : List A) → l ≡ tab f n ++ drop n d → (i : ℕ) → i < n → get_or l i z ≡ f i
  get_or-written f n z d l e i h =
      ap (λ t. get_or t i z) e ∙ get_or-append (tab f n) (drop n d) z i (omega (arith, length-tab f n)) ∙ get_or-tab f n z i h
