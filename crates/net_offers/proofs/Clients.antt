-- The best of the listed clients that v neighbours, by one pass over them: the bits of x, lowest first.
use Prim.Native.Nat.{ℕ, suc, ◌<◌}
use native.Mathlib.Omega.{arith}
use mathlib.Core.Path.{◌≡◌, ◌∙◌, sym, ap}
use mathlib.Core.Bool.{Bool, ◌&&◌}
use mathlib.Core.Option.{Option, none}
use borrow.Author.Tests.{eq-eqb}
use lib.Dec.{eqb}
use Rattle.base.specs.Best.{keep_best, best}
use Rattle.base.specs.Bits.{bit_n}
use Rattle.base.specs.BitWalk.{from_bit, LowestBit, BitWalk}
use Rattle.base.proofs.Best.{best-start, best-more, keep-none}
use Rattle.base.proofs.BitWalk.{walk_start, walk-set, walk-within, walk-visit, walk_more, walk-done}
use Rattle.route_rules.specs.Instance.{Instance, RouterBelow}
use Rattle.route_rules.specs.Preference.{nearer}
use Rattle.route_rules.specs.Reliance.{listed_client_of, best_client}
use Rattle.route_rules.proofs.Reliance.{clients-below}

-- b is the best of those visited, and m holds the others
pub record Seeking (I : Instance) (v x : ℕ) (b : Option ℕ) (m : ℕ) : Type 0 where
  pub marks : (e : ℕ) → listed_client_of I v e ≡ (eqb (bit_n x e) 1 && I.way v e)
  pub within : (e : ℕ) → bit_n x e ≡ 1 → e < I.n
  pub walk : BitWalk (λ k. b ≡ best (nearer I v) (listed_client_of I v) k) x I.n m

module _ (I : Instance) (v x : ℕ) where
  abbrev So : Option ℕ → ℕ → Type 0
  So b k = b ≡ best (nearer I v) (listed_client_of I v) k

  pub seeking-start : (b : Option ℕ) → b ≡ none → ((e : ℕ) → listed_client_of I v e ≡ (eqb (bit_n x e) 1 && I.way v e))
      → ((e : ℕ) → bit_n x e ≡ 1 → e < I.n)
      → Seeking I v x b x
  seeking-start b h marks within =
      record { marks = marks; within = within; walk = walk_start (So b) x I.n (h ∙ sym (best-start (nearer I v) (listed_client_of I v))) }

  module _ (b : Option ℕ) (m : ℕ) (s : Seeking I v x b m) where
    -- where the bit of e is known
    more : (e : ℕ) {c : Bool} → eqb (bit_n x e) 1 ≡ c
        → best (nearer I v) (listed_client_of I v) (suc e) ≡ keep_best (nearer I v) (c && I.way v e) e (best (nearer I v) (listed_client_of I v) e)
    more e h =
        best-more (nearer I v) (listed_client_of I v) e
        ∙ ap (λ c. keep_best (nearer I v) c e (best (nearer I v) (listed_client_of I v) e)) (s.marks e ∙ ap (λ c. c && I.way v e) h)

    pass : (e : ℕ) → e < I.n → bit_n x e ≡ 0 → So b e → So b (suc e)
    pass e l unset h = h ∙ sym (more e (ap (λ d. eqb d 1) unset) ∙ keep-none _ e _)

    module _ (e : ℕ) (low : LowestBit m e) where
      pub seeking-below : e < I.n
      seeking-below = walk-within (So b) x I.n m e s.within s.walk low

      so_far : So b e
      so_far = walk-visit (So b) x I.n pass m e s.within s.walk low

      pub seeking-router : RouterBelow I.n b
      seeking-router = rw so_far (clients-below I v e (omega (arith, seeking-below)))

      pub seeking-more : (c : Option ℕ) (m' : ℕ) → m' ≡ from_bit m (suc e) → c ≡ keep_best (nearer I v) (I.way v e) e b → Seeking I v x c m'
      seeking-more c m' left h =
          let set : bit_n x e ≡ 1 = walk-set (So b) x I.n m e s.within s.walk low in
          record {
            marks = s.marks;
            within = s.within;
            walk =
                walk_more (So b) x I.n m e s.within s.walk low (So c) m' left
                (h ∙ ap (keep_best (nearer I v) (I.way v e) e) so_far ∙ sym (more e (eq-eqb _ 1 set)));
          }

    pub seeking-done : m ≡ 0 → b ≡ best_client I v
    unfolding best_client
    seeking-done e = walk-done (So b) x I.n pass m s.walk e
