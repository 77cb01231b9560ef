-- The numbers of a set, written one after the other.
use Prim.Native.Nat.{ℕ, zero, suc, ◌+◌, ◌*◌, ◌≤◌, ◌<◌}
use native.Mathlib.Omega.{arith}
use native.Mathlib.Nat.{zero-add}
use native.Mathlib.Numerals.{add-one}
use mathlib.Core.Path.{◌≡◌, refl, ◌∙◌, sym, ap, ap₂}
use mathlib.Core.Bool.{Bool, true, false}
use mathlib.Core.List.{List, [], ◌∷◌, ◌++◌}
use mathlib.Core.Logic.{⊎_elim}
use lib.ListN.{length, get_or, drop, length-append, get_or-append}
use lib.Seq.{get_or_at}
use Rattle.base.specs.Buffer.{written}
use Rattle.base.specs.Bytes.{bytes_of}
use Rattle.base.specs.Tab.{joined}
use Rattle.base.proofs.Buffer.{Laid, laid-front, Pieces, pieces-start, pieces_room, pieces_more, pieces-done}
use Rattle.base.proofs.Joined.{length-joined}
use Rattle.base.proofs.Numbers.{eq-or-ne, true-or-false}
use Rattle.steady_rules.specs.Numbers.{numbers_where}
use Rattle.steady_rules.proofs.Listing.{where-none, where-yes, where-no}
use Rattle.net_steady.specs.Building.{in_set}
use Rattle.call_steady.specs.Steady.{number_bytes}

-- a number in the list has as many before it as there are lower ones
module _ (p : ℕ → Bool) where
  as_many : (x m : ℕ) → x ≤ m → length (numbers_where p x) ≤ length (numbers_where p m)
  as_many x zero l = let e : x ≡ 0 = omega arith in rw e (omega arith)
  as_many x (suc m) l = ⊎_elim (λ (e : x ≡ suc m). rw e (omega arith)) (λ (e : x ≡ suc m → ⊥). go (as_many x m (omega arith))) (eq-or-ne x (suc m))
    where
      go : length (numbers_where p x) ≤ length (numbers_where p m) → length (numbers_where p x) ≤ length (numbers_where p (suc m))
      go h =
          ⊎_elim (λ (e : p m ≡ true). omega (arith, ap length (where-yes p m e) ∙ length-append (numbers_where p m) (m ∷ [])))
          (λ (e : p m ≡ false). omega (arith, ap length (where-no p m e)))
          (true-or-false (p m))

  more : (x : ℕ) → p x ≡ true → length (numbers_where p (suc x)) ≡ length (numbers_where p x) + 1
  more x e = ap length (where-yes p x e) ∙ length-append (numbers_where p x) (x ∷ [])

  pub few-where : (m : ℕ) → length (numbers_where p m) ≤ m
  few-where zero = omega (arith, ap length (where-none p))
  few-where (suc m) =
      ⊎_elim (λ (e : p m ≡ true). omega (arith, more m e, few-where m)) (λ (e : p m ≡ false). omega (arith, ap length (where-no p m e), few-where m))
      (true-or-false (p m))

  nth-where : (x m : ℕ) → x < m → p x ≡ true → get_or (numbers_where p m) (length (numbers_where p x)) 0 ≡ x
  nth-where x zero l e = absurd (omega arith)
  nth-where x (suc m) l e =
      ⊎_elim (λ (q : x ≡ m).
      rw (← q) (ap (λ t. get_or t (length (numbers_where p x)) 0) (where-yes p x e) ∙ get_or_at (numbers_where p x) x [] 0 (length (numbers_where p x)) refl))
      (λ (q : x ≡ m → ⊥). earlier (nth-where x m (omega arith) e) (omega arith))
      (eq-or-ne x m)
    where
      earlier : get_or (numbers_where p m) (length (numbers_where p x)) 0 ≡ x → x < m → get_or (numbers_where p (suc m)) (length (numbers_where p x)) 0 ≡ x
      earlier h k =
          let below : length (numbers_where p x) < length (numbers_where p m) = omega (arith, as_many (suc x) m k, more x e) in
          ⊎_elim (λ (q : p m ≡ true).
          ap (λ t. get_or t (length (numbers_where p x)) 0) (where-yes p m q)
          ∙ get_or-append (numbers_where p m) (m ∷ []) 0 (length (numbers_where p x)) below
          ∙ h)
          (λ (q : p m ≡ false). ap (λ t. get_or t (length (numbers_where p x)) 0) (where-no p m q) ∙ h)
          (true-or-false (p m))

-- a loop over the numbers below 4,096: those below x are written, i of them
pub record Writing (set : List ℕ) (count : ℕ) (out₀ out : List ℕ) (i x : ℕ) : Type 0 where
  pub all : count ≡ length (numbers_where (in_set set) 4096)
  pub upto : x ≤ 4096
  pub found : i ≡ length (numbers_where (in_set set) x)
  pub pieces : Pieces (λ j. bytes_of 2 (get_or (numbers_where (in_set set) 4096) j 0)) 2 count out₀ 0 out i

module _ (set : List ℕ) (count : ℕ) (out₀ : List ℕ) where
  abbrev piece : ℕ → List ℕ
  piece j = bytes_of 2 (get_or (numbers_where (in_set set) 4096) j 0)

  pub writing_start : count ≡ length (numbers_where (in_set set) 4096) → 2 * count ≤ length out₀ → Writing set count out₀ out₀ 0 0
  writing_start e l =
      record {
        all = e;
        upto = omega arith;
        found = sym (ap length (where-none (in_set set)));
        pieces = pieces-start (λ j. refl) (omega arith);
      }

  module _ (out : List ℕ) (i x : ℕ) (w : Writing set count out₀ out i x) where
    pub writing-few : i ≤ count
    writing-few = omega (arith, w.all, w.found, as_many (in_set set) x 4096 w.upto)

    -- all 4,096 were seen
    pub writing-all : 4096 ≤ x → i ≡ count
    writing-all l = let e : x ≡ 4096 = omega (arith, w.upto) in w.found ∙ ap (λ k. length (numbers_where (in_set set) k)) e ∙ sym w.all

    pub writing-done : count ≤ i → out ≡ number_bytes (numbers_where (in_set set) 4096) ++ drop (2 * count) out₀
    unfolding number_bytes
    writing-done l =
        let size : length (joined piece count) ≡ 2 * count = length-joined piece 2 (λ j. refl) count in
        let whole : Laid out₀ 0 (joined piece count) out
        = record { within = omega (arith, w.pieces.joining.long); is = pieces-done w.pieces l } in
        laid-front whole ∙ ap₂ (λ k c. joined piece k ++ drop c out₀) w.all size

    module _ (below : x < 4096) (l : i < count) where
      pub writing-room : 2 * i + 2 ≤ length out
      writing-room = omega (arith, pieces_room w.pieces l)

      pub writing_more : (out' : List ℕ) → in_set set x ≡ true → out' ≡ written out (2 * i) (bytes_of 2 x) → Writing set count out₀ out' (i + 1) (x + 1)
      writing_more out' e q =
          let own : get_or (numbers_where (in_set set) 4096) i 0 ≡ x
          = ap (λ k. get_or (numbers_where (in_set set) 4096) k 0) w.found ∙ nth-where (in_set set) x 4096 below e in
          record {
            all = w.all;
            upto = omega (arith, below);
            found = ap (λ k. k + 1) w.found ∙ sym (ap (λ k. length (numbers_where (in_set set) k)) (add-one x) ∙ more (in_set set) x e);
            pieces = pieces_more w.pieces l (q ∙ ap₂ (λ at y. written out at (bytes_of 2 y)) (sym (zero-add (2 * i))) (sym own));
          }

      pub writing-skip : in_set set x ≡ false → Writing set count out₀ out i (x + 1)
      writing-skip e =
          record {
            all = w.all;
            upto = omega (arith, below);
            found = w.found ∙ sym (ap (λ k. length (numbers_where (in_set set) k)) (add-one x) ∙ ap length (where-no (in_set set) x e));
            pieces = w.pieces;
          }
