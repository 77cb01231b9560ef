-- The search among all numbers, from the highest down.
use Prim.Native.Nat.{ℕ, suc, ◌/◌, ◌%◌, ◌^◌, ◌≤◌, ◌<◌}
use native.Mathlib.Omega.{arith}
use mathlib.Core.Path.{◌≡◌, refl, ◌∙◌, sym, ap}
use mathlib.Core.Bool.{Bool, true, false, cond, ◌||◌, or-true, or-false}
use mathlib.Core.List.{List, [], ◌∷◌}
use mathlib.Core.Logic.{⊎_elim}
use borrow.Author.Tests.{eq-eqb, ne_eqb, leb-true, leb-false}
use lib.Count.{ones}
use lib.Dec.{leb, eqb}
use lib.ListN.{replicate}
use Rattle.base.specs.Bits.{bit_n}
use Rattle.base.specs.Seek.{count}
use Rattle.base.proofs.Numbers.{eq-or-ne}
use Rattle.base.proofs.SetBits.{rows_none}
use Rattle.route_rules.specs.Instance.{Instance}
use Rattle.steady_rules.specs.Numbers.{has, Marks}
use Rattle.steady_rules.specs.Steady.{grouped_routers}
use Rattle.hopset_rules.specs.HopSet.{serves, set_of, reflectors_in, hop_set}
use Rattle.hopset_rules.proofs.HopSet.{hop-is}
use Rattle.hopset_rules.proofs.Serving.{all-serve}
use Rattle.hopset_rules.proofs.Sizes.{set-grouped, set-size}
use Rattle.net_groups.proofs.Counted.{ones-count}
use Rattle.net_steady.specs.Building.{in_set}
use Rattle.net_hopset.specs.Places.{Places, Tried, Best}
use Rattle.net_hopset.proofs.Serving.{place-below}

-- a set in which one more is marked
with_number : (set after : ℕ → Bool) (x y : ℕ) → Marks set after (x ∷ []) → after y ≡ (set y || eqb x y)
unfolding has
with_number set after x y m = m y ∙ ap (◌||◌ (set y)) (or-false (eqb x y))

module _ (I : Instance) (k : ℕ) where
  pub tried-start : Tried I k (replicate 64 0) (2 ^ k)
  tried-start = record { from = λ y l m. absurd (omega arith); before = λ y l. rows_none 64 (y / 64) (y % 64) }

  -- x does not serve, or it does and is added
  pub tried-no : (served : List ℕ) (x : ℕ) → Tried I k served (suc x) → serves I (set_of I x) ≡ false → Tried I k served x
  tried-no served x t e =
      record {
        from = λ y l m.
            ⊎_elim (λ (q : x ≡ y). sym (ap (in_set served) q) ∙ t.before x (omega arith) ∙ sym e ∙ ap (λ z. serves I (set_of I z)) q)
            (λ (q : x ≡ y → ⊥). t.from y (omega arith) m)
            (eq-or-ne x y);
        before = λ y l. t.before y (omega arith);
      }

  pub tried-yes : (served after : List ℕ) (x : ℕ) → Marks (in_set served) (in_set after) (x ∷ []) → Tried I k served (suc x)
      → serves I (set_of I x) ≡ true → Tried I k after x
  tried-yes served after x marks t e =
      record {
        from = λ y l m.
            with_number (in_set served) (in_set after) x y marks
            ∙ ⊎_elim
            (λ (q : x ≡ y).
            ap (◌||◌ (in_set served y)) (eq-eqb x y q) ∙ or-true (in_set served y) ∙ sym e ∙ ap (λ z. serves I (set_of I z)) q)
            (λ (q : x ≡ y → ⊥). ap (◌||◌ (in_set served y)) (ne_eqb x y q) ∙ or-false (in_set served y) ∙ t.from y (omega arith) m)
            (eq-or-ne x y);
        before = λ y l.
            with_number (in_set served) (in_set after) x y marks
            ∙ ap (◌||◌ (in_set served y)) (ne_eqb x y (λ q. omega arith))
            ∙ or-false (in_set served y)
            ∙ t.before y (omega arith);
      }

  -- the best so far stays it, or gives way to x
  pub best-no : (best x : ℕ) → Best I k best (suc x) → serves I (set_of I x) ≡ false → Best I k best x
  best-no best x b e =
      record {
        below = b.below;
        serving = b.serving;
        least = λ y l m s. b.least y (later y l s) m s;
        lowest = λ y l m s q. b.lowest y (later y l s) m s q;
      }
    where
      later : (y : ℕ) → x ≤ y → serves I (set_of I y) ≡ true → suc x ≤ y
      later y l s =
          ⊎_elim (λ (q : x ≡ y).
          let z : ◌≡◌ {A = ℕ} 0 1 = cc (ap (λ z. serves I (set_of I z)) q) in absurd (omega arith))
          (λ (q : x ≡ y → ⊥). omega arith)
          (eq-or-ne x y)

  module _ (counted : k ≡ grouped_routers I) where
    set-ones : (x : ℕ) → x < 2 ^ k → reflectors_in I (set_of I x) ≡ ones x
    set-ones x l = set-size I x ∙ ap (count (bit_n x)) (sym counted) ∙ sym (ones-count k x l)

    pub best-yes : (best x : ℕ) → x < 2 ^ k → Best I k best (suc x) → serves I (set_of I x) ≡ true
        → Best I k (cond (leb (ones x) (ones best)) x best) x
    best-yes best x l b s = go (leb (ones x) (ones best)) refl
      where
        go : (t : Bool) → leb (ones x) (ones best) ≡ t → Best I k (cond t x best) x
        go true e =
            let less : reflectors_in I (set_of I x) ≤ reflectors_in I (set_of I best)
            = omega (arith, leb-true (ones x) (ones best) e, set-ones x l, set-ones best b.below) in
            record {
              below = l;
              serving = s;
              least = λ y m o t.
                  ⊎_elim (λ (q : x ≡ y). omega (arith, ap (λ z. reflectors_in I (set_of I z)) q))
                  (λ (q : x ≡ y → ⊥). omega (arith, b.least y (omega arith) o t))
                  (eq-or-ne x y);
              lowest = λ y m o t q. m;
            }
        go false e =
            let more : reflectors_in I (set_of I best) < reflectors_in I (set_of I x)
            = omega (arith, leb-false (ones x) (ones best) e, set-ones x l, set-ones best b.below) in
            record {
              below = b.below;
              serving = b.serving;
              least = λ y m o t.
                  ⊎_elim (λ (q : x ≡ y). omega (arith, ap (λ z. reflectors_in I (set_of I z)) q))
                  (λ (q : x ≡ y → ⊥). b.least y (omega arith) o t)
                  (eq-or-ne x y);
              lowest = λ y m o t r.
                  ⊎_elim (λ (q : x ≡ y). absurd (omega (arith, ap (λ z. reflectors_in I (set_of I z)) q)))
                  (λ (q : x ≡ y → ⊥). b.lowest y (omega arith) o t r)
                  (eq-or-ne x y);
            }

    pub best-done : (best : ℕ) → Best I k best 0 → best ≡ hop_set I
    best-done best b =
        hop-is I best (rw (← counted) b.below) b.serving
        (λ y l s. b.least y (omega arith) (rw counted l) s)
        (λ y l s e. b.lowest y (omega arith) (rw counted l) s e)

  pub best-start : (rows : List ℕ) (all : ℕ) → Places I rows k all → Best I k all (2 ^ k)
  best-start rows all p =
      record {
        below = p.fits;
        serving = all-serve I (set_of I all) (λ w l g. set-grouped I all w g ∙ p.every _ (place-below I rows k all p w l g));
        least = λ y l m s. absurd (omega arith);
        lowest = λ y l m s e. absurd (omega arith);
      }
