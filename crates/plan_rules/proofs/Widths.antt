-- The two widths of a distance.
use Prim.Native.Nat.{ℕ, ◌*◌, ◌≤◌, ◌<◌}
use native.Mathlib.Omega.{arith}
use mathlib.Core.Path.{◌≡◌, refl, sym}
use mathlib.Core.Bool.{Bool, true, false, not}
use mathlib.Core.List.{List}
use mathlib.Core.Logic.{inl, inr, ⊎_elim}
use borrow.Author.Tests.{eqb-true, eqb-false, ne_eqb}
use lib.Dec.{eqb}
use Rattle.base.specs.Bytes.{Bytes}
use Rattle.base.proofs.Bytes.{little-below}
use Rattle.base.proofs.Numbers.{not-both}
use Rattle.plan_contents.specs.Header.{width_of}
use Rattle.plan_rules.specs.Distances.{highest, as_distance, is_way, number_at, TwoOrFour}

-- every mark gives one of them
pub width-of-mark : (mark : ℕ) → TwoOrFour (width_of mark)
width-of-mark mark = go (eqb mark 50) refl
  where
    go : (b : Bool) → eqb mark 50 ≡ b → TwoOrFour (width_of mark)
    go true h = inr (rw h)
    go false h = inl (rw h)

-- the width that is not 2 is 4
pub not-two : (width : ℕ) → TwoOrFour width → (width ≡ 2 → ⊥) → width ≡ 4
not-two width t h = ⊎_elim (λ (w : width ≡ 2). absurd (h w)) (λ (w : width ≡ 4). w) t

-- four bytes are a distance as they are
pub four-as-it-is : (x : ℕ) → as_distance 4 x ≡ x
four-as-it-is x = go (eqb x 4294967295) refl
  where
    go : (b : Bool) → eqb x 4294967295 ≡ b → as_distance 4 x ≡ x
    go true h = rw h (sym (eqb-true x 4294967295 h))
    go false h = rw h

-- a number of so many bytes
pub number-most : (width : ℕ) (s : List ℕ) (i : ℕ) → Bytes s → number_at width s i ≤ highest width
number-most width s i bytes = omega (arith, little-below s bytes width (width * i))

-- no way, whatever the width, is no less
pub highest-most : (width : ℕ) → TwoOrFour width → highest width ≤ 4294967295
highest-most width t = ⊎_elim (λ (w : width ≡ 2). rw w (omega arith)) (λ (w : width ≡ 4). rw w (omega arith)) t

-- some distance is less than what stands for no way
pub highest-above : (width : ℕ) → TwoOrFour width → 0 < highest width
highest-above width t = ⊎_elim (λ (w : width ≡ 2). rw w (omega arith)) (λ (w : width ≡ 4). rw w (omega arith)) t

pub highest-some : (mark : ℕ) → 0 < highest (width_of mark)
highest-some mark = highest-above (width_of mark) (width-of-mark mark)

-- no way exactly if the number is the highest, and else the number itself
module _ (width x : ℕ) (t : TwoOrFour width) (most : x ≤ highest width) where
  pub way-is : is_way (as_distance width x) ≡ not (eqb x (highest width))
  way-is = go (eqb x (highest width)) refl
    where
      go : (b : Bool) → eqb x (highest width) ≡ b → is_way (as_distance width x) ≡ not b
      go true h = rw h
      go false h =
          let less : x < highest width = omega (arith, eqb-false x (highest width) h) in
          rw (h, ne_eqb x 4294967295 (omega (arith, highest-most width t)))

  pub distance_is : is_way (as_distance width x) ≡ true → as_distance width x ≡ x
  distance_is w = go (eqb x (highest width)) refl
    where
      go : (b : Bool) → eqb x (highest width) ≡ b → as_distance width x ≡ x
      go true h = not-both (is_way (as_distance width x)) w (rw h)
      go false h = rw h

-- of two numbers the lower stands for the lesser distance
pub distance-order : (width x y : ℕ) → TwoOrFour width → y ≤ highest width → x < y → as_distance width x < as_distance width y
distance-order width x y t most l = go (eqb y (highest width)) refl
  where
    lower : as_distance width x ≡ x
    lower = rw (ne_eqb x (highest width) (omega arith))

    go : (b : Bool) → eqb y (highest width) ≡ b → as_distance width x < as_distance width y
    go true h = rw (h, lower) (omega (arith, highest-most width t))
    go false h = rw (h, lower) l
