-- Counts raised: one of them, and those whose bits are set in a word.
use Prim.Native.Nat.{ℕ, suc, ◌+◌, ◌≤◌, ◌<◌}
use native.Mathlib.Omega.{arith}
use mathlib.Core.Path.{◌≡◌, refl, ◌∙◌, ap}
use mathlib.Core.List.{List}
use mathlib.Core.Logic.{⊎_elim}
use lib.ListN.{length, get_or, drop, set, length-set}
use lib.Seq.{get_or-set_same, get_or-set_other, drop-set-lt}
use Rattle.base.specs.Bits.{bit_n}
use Rattle.base.specs.BitWalk.{from_bit, LowestBit, BitWalk}
use Rattle.base.proofs.BitWalk.{walk_start, walk-set, walk-visit, walk_more, walk-done}
use Rattle.base.proofs.Numbers.{lt-or-le, eq-or-ne}
use Rattle.net_figures.specs.Counted.{Raised}

-- the routers below k whose bits are set in the word are counted once more, and no other
pub record CountedBelow (word : ℕ) (before after : List ℕ) (k : ℕ) : Type 0 where
  pub below : (i : ℕ) → i < k → get_or after i 0 ≡ get_or before i 0 + bit_n word i
  pub above : (i : ℕ) → k ≤ i → get_or after i 0 ≡ get_or before i 0

-- a walk over the routers whose bits are set: `left` holds those that are not counted yet
pub record Counting (word : ℕ) (before after : List ℕ) (left : ℕ) : Type 0 where
  pub walk : BitWalk (CountedBelow word before after) word 64 left
  pub size : length after ≡ length before
  pub rest : (n : ℕ) → ((w : ℕ) → bit_n word w ≡ 1 → w < n) → drop n after ≡ drop n before

module _ (word : ℕ) (before : List ℕ)
    (asked : (w : ℕ) → bit_n word w ≡ 1 → (w < 64) × (w < length before) × (get_or before w 0 < 255)) where
  pub counting-start : Counting word before before word
  counting-start =
      record {
        walk = walk_start _ word 64 (record { below = λ i l. absurd (omega arith); above = λ i l. refl });
        size = refl;
        rest = λ n h. refl;
      }

  within : (w : ℕ) → bit_n word w ≡ 1 → w < 64
  within w set = (asked w set).0

  -- an unset bit counts nothing
  pass : (after : List ℕ) (v : ℕ) → v < 64 → bit_n word v ≡ 0 → CountedBelow word before after v → CountedBelow word before after (suc v)
  pass after v l unset h =
      record {
        below = λ i o.
            ⊎_elim (λ (e : i ≡ v). omega (arith, ap (bit_n word) e ∙ unset, h.above i (omega arith)))
            (λ (d : i ≡ v → ⊥). h.below i (omega arith))
            (eq-or-ne i v);
        above = λ i o. h.above i (omega arith);
      }

  module _ (after : List ℕ) (left : ℕ) (c : Counting word before after left) where
    -- v is the next
    module _ (v : ℕ) (low : LowestBit left v) where
      visited : bit_n word v ≡ 1
      visited = walk-set _ word 64 left v within c.walk low

      so_far : CountedBelow word before after v
      so_far = walk-visit _ word 64 (pass after) left v within c.walk low

      pub counting-room : v < length after
      counting-room = omega (arith, (asked v visited).1, c.size)

      pub counting-low : get_or after v 0 < 255
      counting-low = omega (arith, (asked v visited).2, so_far.above v (omega arith))

      pub counting_more : (x left' : ℕ) → x ≡ get_or after v 0 + 1 → left' ≡ from_bit left (suc v)
          → Counting word before (set after v x) left'
      counting_more x left' e step =
          record {
            walk =
                walk_more _ word 64 left v within c.walk low _ left' step
                (record {
                  below = λ i o.
                      ⊎_elim (λ (q : i ≡ v).
                      omega (
                        arith,
                        ap (λ j. get_or (set after v x) j 0) q ∙ get_or-set_same after v x 0 counting-room,
                        ap (bit_n word) q ∙ visited,
                        so_far.above v (omega arith),
                        ap (λ j. get_or before j 0) q,
                      ))
                      (λ (d : i ≡ v → ⊥). get_or-set_other after v i x 0 d ∙ so_far.below i (omega arith))
                      (eq-or-ne i v);
                  above = λ i o. get_or-set_other after v i x 0 (λ q. omega arith) ∙ so_far.above i (omega arith);
                });
            size = length-set after v x ∙ c.size;
            rest = λ n h. drop-set-lt n after v x (h v visited) ∙ c.rest n h;
          }

    pub counting-done : left ≡ 0 → (n : ℕ) → ((w : ℕ) → bit_n word w ≡ 1 → w < n) → Raised (bit_n word) n before after
    counting-done e n h =
        let all : CountedBelow word before after 64 = walk-done _ word 64 (pass after) left c.walk e in
        record {
          within = λ i l.
              ⊎_elim (λ (o : i < 64). all.below i o)
              (λ (o : 64 ≤ i).
              ⊎_elim (λ (set : bit_n word i ≡ 1). absurd (omega (arith, within i set)))
              (λ (unset : bit_n word i ≡ 1 → ⊥). omega (arith, all.above i o))
              (eq-or-ne (bit_n word i) 1))
              (lt-or-le i 64);
          rest = c.rest n h;
        }
