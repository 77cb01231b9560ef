-- Rows of reliances, one bit and one row more a turn.
use Prim.Native.Nat.{ℕ, suc, ◌+◌, ◌^◌, ◌≤◌, ◌<◌}
use native.Mathlib.Omega.{arith}
use mathlib.Core.Path.{◌≡◌, refl, ◌∙◌, sym, ap}
use mathlib.Core.Bool.{Bool, true, false, cond, ◌&&◌, ◌||◌}
use mathlib.Core.List.{List}
use mathlib.Core.Logic.{⊎_elim}
use mathlib.Core.Option.{Option, none, some}
use borrow.Author.Tests.{eqb-true, eq-eqb}
use lib.Bits.{bit_or}
use lib.Dec.{eqb}
use lib.ListN.{length, get_or, set, length-set}
use lib.Seq.{get_or-set_same, get_or-set_other}
use Rattle.base.specs.Bits.{bit_n, marked}
use Rattle.base.specs.BitWalk.{from_bit, LowestBit, BitWalk}
use Rattle.base.specs.Seek.{flag}
use Rattle.base.proofs.Marked.{marked-none, marked-suc, marked-below, marked-past}
use Rattle.base.proofs.BitWalk.{walk_start, walk-within, walk-visit, walk_more, walk-done}
use Rattle.base.proofs.SetBits.{bit-flag}
use Rattle.base.proofs.Numbers.{eq-or-ne, not-both}
use Rattle.route_rules.specs.Instance.{Instance, is_router}
use Rattle.route_rules.specs.Reliance.{best_client, relies}
use Rattle.route_rules.proofs.Reliance.{best_client-below}
use Rattle.net_reliance.specs.RelianceRows.{RelianceRow, RelianceRows}

module _ (I : Instance) (w : ℕ) where
  -- a word that a loop marked
  row-marked : (k row : ℕ) → row ≡ marked (relies I w) k → RelianceRow I w k row
  row-marked k row e =
      record {
        within = λ v l. bit-flag row v ∙ ap flag (ap (λ x. eqb (bit_n x v) 1) e ∙ marked-below (relies I w) k v l);
        past = λ v l. bit-flag row v ∙ ap flag (ap (λ x. eqb (bit_n x v) 1) e ∙ marked-past (relies I w) k v l);
      }

  -- a word whose bits are the reliances
  pub row_is : (x : ℕ) → ((v : ℕ) → eqb (bit_n x v) 1 ≡ relies I w v) → ((v : ℕ) → bit_n x v ≡ 1 → v < I.n) → RelianceRow I w I.n x
  row_is x marks within =
      record {
        within = λ v l. bit-flag x v ∙ ap flag (marks v);
        past = λ v l.
            ⊎_elim (λ (set : bit_n x v ≡ 1). absurd (omega (arith, within v set))) (λ (d : bit_n x v ≡ 1 → ⊥). omega arith) (eq-or-ne (bit_n x v) 1);
      }

-- One pass over the bits of x, lowest first, where w relies on no other router: row has the reliances on those visited, and m holds the others.
pub record Noting (I : Instance) (w x row m : ℕ) : Type 0 where
  pub within : (v : ℕ) → bit_n x v ≡ 1 → v < I.n
  pub others : (v : ℕ) → bit_n x v ≡ 0 → relies I w v ≡ false
  pub walk : BitWalk (λ k. row ≡ marked (relies I w) k) x I.n m

module _ (I : Instance) (w x : ℕ) where
  pub noting-start : ((v : ℕ) → bit_n x v ≡ 1 → v < I.n) → ((v : ℕ) → bit_n x v ≡ 0 → relies I w v ≡ false) → Noting I w x 0 x
  noting-start within others = record { within = within; others = others; walk = walk_start _ x I.n (sym (marked-none (relies I w))) }

  module _ (row m : ℕ) (s : Noting I w x row m) where
    abbrev So : ℕ → Type 0
    So k = row ≡ marked (relies I w) k

    pass : (v : ℕ) → v < I.n → bit_n x v ≡ 0 → So v → So (suc v)
    pass v l unset h = marked-suc (relies I w) v row false (sym (s.others v unset)) h

    module _ (v : ℕ) (low : LowestBit m v) where
      pub noting-below : v < I.n
      noting-below = walk-within So x I.n m v s.within s.walk low

      pub noting-more : (m' : ℕ) → m' ≡ from_bit m (suc v) → (b : Bool) → b ≡ relies I w v → Noting I w x (cond b (bit_or row (2 ^ v)) row) m'
      noting-more m' left b e =
          record {
            within = s.within;
            others = s.others;
            walk =
                walk_more So x I.n m v s.within s.walk low _ m' left
                (marked-suc (relies I w) v row b e (walk-visit So x I.n pass m v s.within s.walk low));
          }

    pub noting-done : m ≡ 0 → RelianceRow I w I.n row
    noting-done e = row-marked I w I.n row (walk-done So x I.n pass m s.walk e)

-- an unlisted reflector relies on no router but its best client and the reflectors it neighbours
module _ (I : Instance) (w : ℕ) (unlisted : I.listed w ≡ false) (reflector : I.reflector w ≡ true) where
  not-asked : (v : ℕ) → ((I.neighbour w v && I.reflector v) || is_router v (best_client I w)) ≡ false → relies I w v ≡ false
  unfolding relies
  not-asked v h = go (I.neighbour w v && I.reflector v) refl (is_router v (best_client I w)) refl
    where
      go : (a : Bool) → (I.neighbour w v && I.reflector v) ≡ a → (b : Bool) → is_router v (best_client I w) ≡ b → relies I w v ≡ false
      go true p b q = not-both true refl (sym (ap (λ a. a || is_router v (best_client I w)) p) ∙ h)
      go false p true q = not-both true refl (sym (cc) ∙ h)
      go false p false q = cc

  module _ (near : (v : ℕ) → I.neighbour w v ≡ true → v < I.n) (x : ℕ)
      (marks : (v : ℕ) → eqb (bit_n x v) 1 ≡ ((I.neighbour w v && I.reflector v) || is_router v (best_client I w))) where
    asked-below : (v : ℕ) → bit_n x v ≡ 1 → v < I.n
    asked-below v set = go (I.neighbour w v) refl (best_client I w) refl (sym (marks v) ∙ eq-eqb _ 1 set)
      where
        go : (a : Bool) → I.neighbour w v ≡ a → (o : Option ℕ) → best_client I w ≡ o → ((a && I.reflector v) || is_router v o) ≡ true → v < I.n
        go true p o q h = near v p
        go false p none q h = not-both true refl (sym h)
        go false p (some e) q h = rw (eqb-true e v h) at (rw q at (best_client-below I w))

    pub asked-start : Noting I w x 0 x
    asked-start = noting-start I w x asked-below (λ v unset. not-asked v (sym (marks v) ∙ ap (λ d. eqb d 1) unset))

-- the rows of the routers below k
pub record RowsBelow (I : Instance) (before : List ℕ) (k : ℕ) (rows : List ℕ) : Type 0 where
  pub size : length rows ≡ length before
  pub routers : (w : ℕ) → w < k → RelianceRow I w I.n (get_or rows w 0)
  pub rest : (w : ℕ) → k ≤ w → get_or rows w 0 ≡ get_or before w 0

module _ (I : Instance) (before : List ℕ) where
  pub rows_none : RowsBelow I before 0 before
  rows_none = record { size = refl; routers = λ w l. absurd (omega arith); rest = λ w l. refl }

  pub rows_more : (k : ℕ) (rows : List ℕ) (row : ℕ) → k < length before → RowsBelow I before k rows → RelianceRow I k I.n row
      → RowsBelow I before (k + 1) (set rows k row)
  rows_more k rows row l h r =
      record {
        size = length-set rows k row ∙ h.size;
        routers = λ w m.
            ⊎_elim (λ (q : w ≡ k). rw (q, get_or-set_same rows k row 0 (omega (arith, h.size))) r)
            (λ (q : w ≡ k → ⊥). rw (get_or-set_other rows k w row 0 q) (h.routers w (omega arith)))
            (eq-or-ne w k);
        rest = λ w m. get_or-set_other rows k w row 0 (omega arith) ∙ h.rest w (omega arith);
      }

  pub rows-done : (k : ℕ) (rows : List ℕ) → k ≤ I.n → I.n ≤ k → RowsBelow I before k rows → RelianceRows I before rows
  rows-done k rows l m h =
      record { size = h.size; routers = λ w o. h.routers w (omega arith); rest = λ w o. h.rest w (omega arith) }
