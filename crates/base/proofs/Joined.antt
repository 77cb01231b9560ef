-- Laws of `joined` for lists of one length, and a loop that writes them to the front of a list.
use Prim.Native.Nat.{ℕ, zero, suc, ◌+◌, ◌*◌, ◌≤◌, ◌<◌}
use native.Mathlib.Numerals.{add-one}
use native.Mathlib.Nat.{add-zero, add-suc, add_assoc, zero-mul, suc-mul, mul-zero, mul-suc, mul-le-mul_left}
use native.Mathlib.Omega.{arith}
use mathlib.Core.Path.{◌≡◌, refl, ◌∙◌, sym, ap, ap₂}
use mathlib.Core.List.{List, [], ◌∷◌, ◌++◌, append-nil, append_assoc}
use mathlib.Core.Logic.{⊎_elim}
use lib.ListN.{length, get_or, take, drop, set, length-append, length-drop, take-append-drop, get_or-append}
use lib.Seq.{take_at, take-add, drop-drop, drop-append-add, get_or-append-add, sets-eq, length-take-le}
use Rattle.base.specs.Tab.{joined}
use Rattle.base.proofs.Numbers.{eq-or-ne, item-within}

module _ {A : Type 0} where
  joined-none : (f : ℕ → List A) → joined f 0 ≡ []
  unfolding joined
  joined-none f = refl

  joined-suc : (f : ℕ → List A) (n : ℕ) → joined f (suc n) ≡ joined f n ++ f n
  unfolding joined
  joined-suc f n = refl

  pub joined-cong : (f g : ℕ → List A) (n : ℕ) → ((i : ℕ) → i < n → f i ≡ g i) → joined f n ≡ joined g n
  joined-cong f g zero h = joined-none f ∙ sym (joined-none g)
  joined-cong f g (suc n) h =
      joined-suc f n ∙ ap₂ ◌++◌ (joined-cong f g n (λ i l. h i (omega arith))) (h n (omega arith)) ∙ sym (joined-suc g n)

  -- m rows of n lists, read row by row
  joined-add : (f : ℕ → List A) (m n : ℕ) → joined f (m + n) ≡ joined f m ++ joined (λ e. f (m + e)) n
  joined-add f m zero = rw (add-zero, joined-none, append-nil)
  joined-add f m (suc n) =
      rw (add-suc, joined-suc f (m + n), joined-add f m n, joined-suc (λ e. f (m + e)) n)
      (append_assoc (joined f m) (joined (λ e. f (m + e)) n) (f (m + n)))

  pub joined-rows : (f : ℕ → List A) (n m : ℕ) → joined (λ u. joined (λ e. f (u * n + e)) n) m ≡ joined f (m * n)
  joined-rows f n zero = joined-none _ ∙ sym (rw zero-mul (joined-none f))
  joined-rows f n (suc m) =
      joined-suc _ m ∙ ap (λ t. t ++ joined (λ e. f (m * n + e)) n) (joined-rows f n m) ∙ sym (rw suc-mul (joined-add f (m * n) n))

  -- the parts of a list from `at` on, each of `size` items
  pub joined-parts : (s : List A) (size at n : ℕ) → joined (λ i. take size (drop (at + size * i) s)) n ≡ take (size * n) (drop at s)
  joined-parts s size at zero = joined-none _ ∙ rw mul-zero
  joined-parts s size at (suc n) =
      joined-suc _ n
      ∙ ap₂ ◌++◌ (joined-parts s size at n) (ap (take size) (sym (drop-drop (size * n) at s)))
      ∙ sym (take-add (size * n) size (drop at s))
      ∙ ap (λ k. take k (drop at s)) (sym (mul-suc size n))

-- a loop that writes the lists f 0, .. , f (n - 1) over a list that was d, from `at` on, and has written i of them
pub record Joining {A : Type 0} (f : ℕ → List A) (size n : ℕ) (d : List A) (at : ℕ) (l : List A) (i : ℕ) : Type 0 where
  pub upto : i ≤ n
  pub long : at + size * n ≤ length d
  pub is : l ≡ take at d ++ joined f i ++ drop (at + size * i) d

-- lists of one length
module _ {A : Type 0} (f : ℕ → List A) (size : ℕ) (each : (i : ℕ) → length (f i) ≡ size) where
  pub length-joined : (n : ℕ) → length (joined f n) ≡ size * n
  length-joined zero = ap length (joined-none f) ∙ sym (mul-zero size)
  length-joined (suc n) =
      ap length (joined-suc f n) ∙ length-append (joined f n) (f n) ∙ ap₂ ◌+◌ (length-joined n) (each n) ∙ sym (mul-suc size n)

  pub get_or-joined : (n i k : ℕ) (z : A) → i < n → k < size → get_or (joined f n) (size * i + k) z ≡ get_or (f i) k z
  get_or-joined zero i k z l m = absurd (omega arith)
  get_or-joined (suc n) i k z l m =
      ap (λ t. get_or t (size * i + k) z) (joined-suc f n)
      ∙ ⊎_elim
      (λ (e : i ≡ n). rw (e, ← length-joined n) (get_or-append-add (joined f n) (f n) k z))
      (λ (e : i ≡ n → ⊥).
      get_or-append (joined f n) (f n) z (size * i + k) (omega (arith, length-joined n, item-within size n i (omega arith)))
      ∙ get_or-joined n i k z (omega arith) m)
      (eq-or-ne i n)

  module _ (n : ℕ) (d : List A) (at : ℕ) where
    pub join-start : at + size * n ≤ length d → Joining f size n d at d 0
    join-start h = record {
      upto = omega arith;
      long = h;
      is = rw (joined-none f, mul-zero size, add-zero, append-nil) (sym (take-append-drop at d));
    }

    module _ (l : List A) (i : ℕ) (w : Joining f size n d at l i) where
      items-within : size * i ≤ size * n
      items-within = mul-le-mul_left size w.upto

      length_front : length (take at d ++ joined f i) ≡ at + size * i
      length_front =
          length-append (take at d) (joined f i) ∙ ap₂ ◌+◌ (length-take-le at d (omega (arith, w.long))) (length-joined i)

      pub join-length : length l ≡ length d
      join-length =
          ap length w.is
          ∙ length-append (take at d ++ joined f i) (drop (at + size * i) d)
          ∙ omega (arith, length_front, length-drop (at + size * i) d, items-within, w.long)

      pub join-room : i < n → at + size * i + size ≤ length l
      join-room h = omega (arith, join-length, w.long, item-within size n i h)

      pub join_more :
          (after : List A) → i < n → after ≡ take (at + size * i) l ++ f i ++ drop (at + size * i + size) l →
          Joining f size n d at after (i + 1)
      join_more after h e = record {
        upto = omega arith;
        long = w.long;
        is =
            rw (
              e,
              w.is,
              take_at (take at d ++ joined f i) (drop (at + size * i) d) (at + size * i) length_front,
              rest,
              add-one,
              joined-suc,
              mul-suc size i,
              add_assoc at (size * i) size,
            )
            (ap (λ x. x ++ drop (at + (size * i + size)) d) (append_assoc (take at d) (joined f i) (f i)));
      }
        where
          rest : drop (at + size * i + size) (take at d ++ joined f i ++ drop (at + size * i) d) ≡ drop (at + size * i + size) d
          rest =
              ap (λ k. drop (k + size) (take at d ++ joined f i ++ drop (at + size * i) d)) (sym length_front)
              ∙ drop-append-add (take at d ++ joined f i) (drop (at + size * i) d) size
              ∙ drop-drop size (at + size * i) d

      pub join-done : n ≤ i → l ≡ take at d ++ joined f n ++ drop (at + size * n) d
      join-done h = let e : i ≡ n = omega (arith, w.upto) in rw e at w.is

-- two items stored one after the other
pub two-set :
    {A : Type 0} (l : List A) (p : ℕ) (a b : A) → p + 2 ≤ length l → set (set l p a) (p + 1) b ≡ take p l ++ (a ∷ b ∷ []) ++ drop (p + 2) l
two-set l p a b h = rw add-one (sets-eq (a ∷ b ∷ []) l p h)
