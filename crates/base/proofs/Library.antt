-- What the library's `all`, `find` and `fill` say, in the words of the rules.
use Rattle.std.proofs.Common.{ℕ, ◌≡◌, ◌≤◌, ◌<◌, Bool, List, ◌++◌, length, get_or, drop, refl, ap, sym, ◌∙◌, arith, zero-add}
use lib.ListN.{get_or-append, length-append}
use lib.Seq.{drop-append_seam}
use Rattle.std.specs.Prelude.{Option, Some, None, MatchOption}
use Rattle.std.specs.Option.{unwrap_or}
use Rattle.std.specs.List.{range_with_len, list_all}
use Rattle.std.proofs.lemmas.Bool.Decides.{same_from_decides}
use Rattle.std.proofs.lemmas.List.FromFn.{length-range_with_len, get_or-range_with_len}
use Rattle.std.proofs.lemmas.List.Recursion.{and_at, and_from_places}
use Rattle.base.specs.Below.{all_below}
use Rattle.base.specs.Seek.{seek}
use Rattle.base.specs.Tab.{tab}
use Rattle.base.proofs.Below.{all-at, all-intro}
use Rattle.base.proofs.Seek.{found-is}
use Rattle.base.proofs.Tab.{tab-front}

-- all items of a list, by their places
pub all-items : {A : Type 0} (p : A → Bool) (q : ℕ → Bool) (l : List A) (d : A) (n : ℕ) → length l ≡ n →
    ((i : ℕ) → i < n → p (get_or l i d) ≡ q i) → list_all p l ≡ all_below q n
all-items p q l d n long same =
    same_from_decides _ _ (
      λ h. all-intro q n (λ i o. sym (same i o) ∙ and_at (list_all p) p refl (λ _ _. refl) l i d (omega arith) h),
      λ h. and_from_places (list_all p) p refl (λ _ _. refl) l d
          (λ i o. let u : i < n = omega arith in same i u ∙ all-at q n h i u),
    )
    (λ h. h, λ h. h)

-- .. and all numbers of a range
pub all-range : (p : ℕ → Bool) (n : ℕ) → list_all p (range_with_len 0 n) ≡ all_below p n
all-range p n =
    all-items p p (range_with_len 0 n) 0 n (length-range_with_len 0 n) (λ i l. ap p (get_or-range_with_len 0 n i 0 l ∙ zero-add i))

-- the first number below n that is found, or n
pub seek-find : (f : ℕ → ℕ) (n : ℕ) (r : Option ℕ)
    → MatchOption r ((k : ℕ) → 0 ≤ k → k < n → f k ≡ 0) (λ x. (0 ≤ x) × (x < n) × (1 ≤ f x) × ((k : ℕ) → 0 ≤ k → k < x → f k ≡ 0))
    → unwrap_or r n ≡ seek f n
seek-find f n None h =
    sym (found-is f n n (record { upto = omega arith; before = λ d l. h d (omega arith) l; hit = λ o. absurd (omega arith) }))
seek-find f n (Some x) h =
    sym (found-is f n x (record { upto = omega (arith, h.1); before = λ d l. h.3 d (omega arith) l; hit = λ o. h.2 }))

-- a buffer whose first n items are the values of f
pub front-tab : (f : ℕ → ℕ) (n : ℕ) (front rest : List ℕ) → length front ≡ n → ((i : ℕ) → i < n → get_or front i 0 ≡ f i)
    → front ++ rest ≡ tab f n ++ rest
front-tab f n front rest e h =
    tab-front f n 0 (front ++ rest) (omega (arith, length-append front rest))
    (λ i l. let room : i < length front = omega arith in get_or-append front rest 0 i room ∙ h i l)
    ∙ ap (λ t. tab f n ++ t) (ap (λ m. drop m (front ++ rest)) (sym e) ∙ drop-append_seam front rest)
