-- What a distance read and a test for a way say of an instance with these distances.
use Prim.Native.Nat.{ℕ, ◌+◌, ◌*◌, ◌≤◌}
use native.Mathlib.Omega.{arith}
use mathlib.Core.List.{List}
use mathlib.Core.Path.{◌≡◌, ◌∙◌, sym, ap}
use mathlib.Core.Bool.{Bool, true, false, not}
use Rattle.base.proofs.Numbers.{granted, denied}
use Rattle.plan_rules.specs.Distances.{highest, as_distance, number_at, distance_in, is_way, way_in, TwoOrFour}
use Rattle.plan_rules.proofs.Widths.{distance_is, distance-order}
use Rattle.route_rules.specs.Instance.{Instance}
use Rattle.net_prefer.specs.Measured.{Measured, ReadAs, Ordered}

-- a distance read is the instance's
pub read_as : {I : Instance} {width : ℕ} {s : List ℕ} {n : ℕ} → Measured I width s n → (w e d : ℕ) → d ≡ distance_in width s n w e
    → ReadAs I w e d
read_as q w e d r = record { dist = ap (λ f. f w e) q.dist ∙ sym r; way = ap (λ f. f w e) q.way ∙ ap is_way (sym r) }

-- of a way the number read is the instance's distance
pub number-as : {I : Instance} {width : ℕ} {s : List ℕ} {n : ℕ} → Measured I width s n → TwoOrFour width → (w e number : ℕ)
    → number ≡ number_at width s (w * n + e) → number ≤ highest width → I.way w e ≡ true → I.dist w e ≡ number
number-as {I} {width} q t w e number p most h =
    let far : I.dist w e ≡ as_distance width number = ap (λ d. d w e) q.dist ∙ ap (as_distance width) (sym p) in
    let there : I.way w e ≡ is_way (as_distance width number) = ap (λ d. d w e) q.way ∙ ap (λ x. is_way (as_distance width x)) (sym p) in
    far ∙ distance_is width number t most (sym there ∙ h)

-- distances are in their own order
pub distances-ordered : {I : Instance} {w e f first second : ℕ} → I.dist w e ≡ first → I.dist w f ≡ second → Ordered I w e f first second
distances-ordered p q = record { nearer = λ l. omega arith; tie = λ h. omega arith; farther = λ l. omega arith }

-- .. and so are the numbers that stand for them
pub numbers-ordered : {I : Instance} {width : ℕ} {s : List ℕ} {n : ℕ} → Measured I width s n → TwoOrFour width → (w e f first second : ℕ)
    → first ≡ number_at width s (w * n + e) → first ≤ highest width → second ≡ number_at width s (w * n + f) → second ≤ highest width
    → Ordered I w e f first second
numbers-ordered {I} {width} q t w e f first second p a r b =
    let to-e : I.dist w e ≡ as_distance width first = ap (λ d. d w e) q.dist ∙ ap (as_distance width) (sym p) in
    let to-f : I.dist w f ≡ as_distance width second = ap (λ d. d w f) q.dist ∙ ap (as_distance width) (sym r) in
    record {
      nearer = λ l. omega (arith, distance-order width first second t b l);
      tie = λ h. to-e ∙ ap (as_distance width) h ∙ sym to-f;
      farther = λ l. omega (arith, distance-order width second first t a l);
    }

module _ {I : Instance} {width : ℕ} {s : List ℕ} {n : ℕ} (q : Measured I width s n) (w e : ℕ) (r : Bool) (tested : r ≡ way_in width s n w e) where
  pub some-way : r ≡ true → I.way w e ≡ true
  some-way h = ap (λ way. way w e) q.way ∙ granted r tested h

  pub no_way : r ≡ false → I.way w e ≡ false
  no_way h = ap (λ way. way w e) q.way ∙ denied r tested h
