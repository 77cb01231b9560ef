-- What `find` and `position` say of the first router in a group and of the first place on a path.
use Prim.Native.Nat.{ℕ, ◌≤◌, ◌<◌}
use native.Mathlib.Omega.{arith}
use mathlib.Core.Path.{◌≡◌, ◌∙◌, sym}
use mathlib.Core.List.{List}
use lib.Dec.{eqb}
use lib.ListN.{length, get_or, take}
use Rattle.std.specs.Prelude.{Option, Some, None, MatchOption}
use Rattle.std.specs.Option.{unwrap_or}
use Rattle.std.specs.List.{AllWithin, HoldsAt}
use Rattle.std.proofs.lemmas.List.{get_or-take, length-take-le}
use Rattle.base.specs.Seek.{flag, seek}
use Rattle.base.proofs.Seek.{flag_one, flag-none, found-is}
use Rattle.base.proofs.Library.{seek-find}

-- the first number below n that has Yes, or n, where the others have No
pub seek-by : (f : ℕ → ℕ) (n : ℕ) (Yes No : ℕ → Type 0) (r : Option ℕ)
    → MatchOption r ((k : ℕ) → 0 ≤ k → k < n → No k) (λ x. (0 ≤ x) × (x < n) × Yes x × ((k : ℕ) → 0 ≤ k → k < x → No k))
    → ((k : ℕ) → k < n → Yes k → 1 ≤ f k) → ((k : ℕ) → k < n → No k → f k ≡ 0) → unwrap_or r n ≡ seek f n
seek-by f n Yes No None h y z = seek-find f n None (λ k a l. z k l (h k a l))
seek-by f n Yes No (Some x) h y z =
    seek-find f n (Some x) (h.0, h.1, y x h.1 h.2, λ k a l. z k (omega (arith, h.1)) (h.3 k a l))

-- the first place below k of router w on a path
module _ (path : List ℕ) (k w : ℕ) (long : k ≤ length path) where
  abbrev first : ℕ
  first = seek (λ i. flag (eqb (get_or path i 0) w)) k

  pub place-by : (r : Option ℕ)
      → MatchOption r (AllWithin (λ x. x ≡ w → ⊥) (take k path) 0 (length (take k path)))
      (λ i. (i < length (take k path)) × HoldsAt (λ x. x ≡ w) (take k path) i × AllWithin (λ x. x ≡ w → ⊥) (take k path) 0 i)
      → MatchOption r (k ≡ first) (λ i. (i < k) × (i ≡ first))
  place-by None h =
      sym (found-is _ k k (record {
        upto = omega arith;
        before = λ d l. flag-none _ _ (λ e. h d 0 (omega arith) (omega (arith, length-take-le k path long)) (get_or-take k path d 0 l ∙ e));
        hit = λ o. absurd (omega arith);
      }))
  place-by (Some i) h =
      let below : i < k = omega (arith, h.0, length-take-le k path long) in (
        below,
        sym (found-is _ k i (record {
          upto = omega arith;
          before = λ d l. flag-none _ _ (λ e. h.2 d 0 (omega arith) l (get_or-take k path d 0 (omega arith) ∙ e));
          hit = λ o. flag_one _ _ (sym (get_or-take k path i 0 o) ∙ h.1 0);
        })),
      )
