-- A loop over the choices of a group, one after the other: choice s sets the bits of s, lowest router first.
use Prim.Native.Nat.{ℕ, ◌+◌, ◌-◌, ◌^◌, ◌≤◌, ◌<◌, min}
use native.Mathlib.Omega.{arith}
use mathlib.Core.Path.{◌≡◌, ◌∙◌, sym, ap}
use mathlib.Core.Logic.{◌⊎◌, inl, inr, ⊎_elim}
use lib.Bits.{bit_and}
use lib.Dec.{eqb}
use lib.Pow.{pow_pos}
use Rattle.base.specs.Bits.{bit_n}
use Rattle.base.specs.Seek.{count}
use Rattle.base.proofs.BitLaws.{bit-and}
use Rattle.base.proofs.Numbers.{lt-or-le, eq-or-ne}
use Rattle.base.proofs.Seek.{Nth, nth}
use Rattle.steady_rules.proofs.Numbers.{same_bits, count-lt}
use Rattle.net_steady.proofs.BitSteps.{zero_bit, bit-some, Lowest, lowest, Lowered, lowered, complement}

-- the routers of g that choice s leaves unset, where so many choices come after it
pub record Choice (g n s unset : ℕ) : Type 0 where
  pub after : ℕ
  pub total : s + after + 1 ≡ 2 ^ count (bit_n g) n
  pub own : (w : ℕ) → bit_n g w ≡ 1 → bit_n unset w ≡ bit_n after (count (bit_n g) w)
  pub other : (w : ℕ) → bit_n g w ≡ 0 → bit_n unset w ≡ 0

module _ (g n : ℕ) (bounded : (w : ℕ) → bit_n g w ≡ 1 → w < n) where
  -- the place of a router among those of g
  place : (w : ℕ) → bit_n g w ≡ 1 → count (bit_n g) w < count (bit_n g) n
  place w e = count-lt (bit_n g) w n (bounded w e) (omega arith)

  pub choice-start : Choice g n 0 g
  choice-start =
      let k : ℕ = count (bit_n g) n in
      let all : 0 + (2 ^ k - 1) + 1 ≡ 2 ^ k = omega (arith, pow_pos k) in
      record {
        after = 2 ^ k - 1;
        total = all;
        own = λ w e. omega (arith, complement k 0 (2 ^ k - 1) (count (bit_n g) w) all (place w e), zero_bit (count (bit_n g) w));
        other = λ w e. e;
      }

  module _ (s unset : ℕ) (c : Choice g n s unset) where
    set-of : (w : ℕ) → bit_n unset w ≡ 1 → bit_n g w ≡ 1
    set-of w e = ⊎_elim (λ (q : bit_n g w ≡ 0). absurd (omega (arith, c.other w q))) (λ (q : bit_n g w ≡ 0 → ⊥). omega arith) (eq-or-ne (bit_n g w) 0)

    -- the bit at a place is that of the router there
    at_place : (m i : ℕ) (u : Nth (bit_n g) m i) → bit_n unset u.at ≡ bit_n c.after i
    at_place m i u = c.own u.at (omega (arith, u.yes)) ∙ ap (bit_n c.after) u.before

    -- the last choice leaves none unset
    pub choice-last : unset ≡ 0 → s + 1 ≡ 2 ^ count (bit_n g) n
    choice-last e =
        let none : c.after ≡ 0
        = same_bits (count (bit_n g) n) c.after 0 (omega (arith, c.total)) (pow_pos (count (bit_n g) n)) (λ i l.
        let u : Nth (bit_n g) n i = nth (bit_n g) n i l in
        ap (λ d. eqb d 1) (sym (at_place n i u) ∙ ap (λ x. bit_n x u.at) e ∙ zero_bit u.at ∙ sym (zero_bit i))) in
        omega (arith, c.total)

    -- any other is followed by the one that sets the lowest router that was not, and unsets those below it
    pub choice-more : 0 < unset → Choice g n (s + 1) (bit_and (unset - 1) g)
    choice-more some =
        record {
          after = c.after - 1;
          total = omega (arith, c.total, bit-some c.after j set);
          own = own;
          other = λ w e. omega (arith, bit-and (unset - 1) g w);
        }
      where
        found : Lowest unset
        found = lowest unset some

        z : ℕ
        z = found.at

        member : bit_n g z ≡ 1
        member = set-of z found.set

        j : ℕ
        j = count (bit_n g) z

        low : Lowered unset z
        low = lowered z unset found.set found.before

        set : bit_n c.after j ≡ 1
        set = sym (c.own z member) ∙ found.set

        fewer : Lowered c.after j
        fewer = lowered j c.after set (λ i l.
            let u : Nth (bit_n g) z i = nth (bit_n g) z i l in
            sym (at_place z i u) ∙ found.before u.at u.below)

        own : (w : ℕ) → bit_n g w ≡ 1 → bit_n (bit_and (unset - 1) g) w ≡ bit_n (c.after - 1) (count (bit_n g) w)
        own w e = bit-and (unset - 1) g w ∙ go (lt-or-le w z) (lt-or-le z w)
          where
            go : (w < z) ⊎ (z ≤ w) → (z < w) ⊎ (w ≤ z) → min (bit_n (unset - 1) w) (bit_n g w) ≡ bit_n (c.after - 1) (count (bit_n g) w)
            go (inl l) k =
                omega (arith, low.below w l, fewer.below (count (bit_n g) w) (count-lt (bit_n g) w z l (omega arith)))
            go (inr l) (inl k) =
                omega (
                  arith,
                  low.above w k,
                  c.own w e,
                  fewer.above (count (bit_n g) w) (count-lt (bit_n g) z w k (omega (arith, member))),
                )
            go (inr l) (inr k) = let q : w ≡ z = omega arith in rw q (omega (arith, low.at, fewer.at))

    -- the routers that it sets
    pub choice-sets : (chosen : ℕ) → ((w : ℕ) → bit_n chosen w ≡ min (bit_n g w) (1 - bit_n unset w))
        → (w : ℕ) → bit_n g w ≡ 1 → bit_n chosen w ≡ bit_n s (count (bit_n g) w)
    choice-sets chosen h w e =
        omega (arith, h w, c.own w e, complement (count (bit_n g) n) s c.after (count (bit_n g) w) c.total (place w e))
