-- A distance as a number of two or four bytes: what is written of it reads as the same distance, and what was read is written again.
use Prim.Native.Nat.{ℕ, ◌^◌, ◌≤◌, ◌<◌}
use native.Mathlib.Omega.{arith}
use mathlib.Core.Path.{◌≡◌, refl, ◌∙◌, sym}
use mathlib.Core.Bool.{true, cond, not, not-not, or-true}
use mathlib.Core.Logic.{◌⊎◌, inl, inr, ⊎_elim}
use borrow.Author.Tests.{eq-eqb, ne_eqb, lt-ltb, eqb-true, ltb-true}
use lib.Dec.{eqb, ltb}
use Rattle.base.proofs.Numbers.{eq-or-ne, either_true}
use Rattle.plan_rules.specs.Distances.{no_way, highest, as_distance, is_way, TwoOrFour}
use Rattle.plan_rules.specs.Converted.{distance_fits}
use Rattle.plan_rules.proofs.Widths.{highest-most, highest-above}

-- how a distance stands in `to` bytes
abbrev pub number_of : ℕ → ℕ → ℕ
number_of to d = cond (is_way d) d (highest to)

-- a distance that fits is no way, or below the highest number
pub fits-cases : (to d : ℕ) → distance_fits to d ≡ true → (d ≡ no_way) ⊎ (d < highest to)
fits-cases to d fits =
    ⊎_elim (λ (h : not (is_way d) ≡ true). inl (eqb-true d no_way (sym (not-not (eqb d no_way)) ∙ h)))
    (λ (h : ltb d (highest to) ≡ true). inr (ltb-true d (highest to) h))
    (either_true (not (is_way d)) (ltb d (highest to)) fits)

module _ (to : ℕ) (t : TwoOrFour to) where
  way : (d : ℕ) → d < highest to → is_way d ≡ true
  way d l = rw (ne_eqb d no_way (λ e. omega (arith, highest-most to t)))

  module _ (d : ℕ) (fits : distance_fits to d ≡ true) where
    pub number_small : number_of to d < 256 ^ to
    number_small = ⊎_elim (λ (e : d ≡ no_way). rw e (omega (arith, highest-above to t))) (λ (l : d < highest to). rw (way d l) (omega arith)) (fits-cases to d fits)

    pub number-reads : as_distance to (number_of to d) ≡ d
    number-reads =
        ⊎_elim (λ (e : d ≡ no_way). rw (e, eq-eqb (highest to) (highest to) refl))
        (λ (l : d < highest to). rw (way d l, ne_eqb d (highest to) (λ e. omega arith)))
        (fits-cases to d fits)

  module _ (x : ℕ) (small : x < 256 ^ to) where
    pub number-kept : number_of to (as_distance to x) ≡ x
    number-kept =
        ⊎_elim (λ (e : x ≡ highest to). rw (eq-eqb x (highest to) e) (sym e))
        (λ (e : x ≡ highest to → ⊥). rw (ne_eqb x (highest to) e, way x (omega arith)))
        (eq-or-ne x (highest to))

    -- what is read of `to` bytes fits into as many, and into more
    pub number_fits : (more : ℕ) → highest to ≤ highest more → distance_fits more (as_distance to x) ≡ true
    number_fits more h =
        ⊎_elim (λ (e : x ≡ highest to). rw (eq-eqb x (highest to) e))
        (λ (e : x ≡ highest to → ⊥). rw (ne_eqb x (highest to) e, lt-ltb x (highest more) (omega arith), or-true))
        (eq-or-ne x (highest to))
