-- Keys order clients as their distances and numbers do.
use Prim.Native.Nat.{ℕ, ◌+◌, ◌*◌, ◌≤◌, ◌<◌}
use native.Mathlib.Omega.{arith}
use mathlib.Core.Path.{◌≡◌, refl, ◌∙◌, sym, ap}
use mathlib.Core.Bool.{true, not, ◌&&◌, or-true}
use mathlib.Core.List.{List}
use mathlib.Core.Logic.{◌⊎◌, inl, inr, ⊎_elim}
use borrow.Author.Tests.{eq-eqb, eqb-true, eqb-false, ltb-true, lt-ltb, ne_eqb, not-true}
use lib.Dec.{eqb, ltb}
use lib.ListN.{get_or}
use Rattle.base.proofs.Numbers.{lt-or-le, eq-or-ne, both_left, both_right, either_true}
use Rattle.plan_rules.specs.Distances.{highest, number_at, TwoOrFour}
use Rattle.plan_rules.proofs.Widths.{number-most, way-is}
use Rattle.route_rules.specs.Instance.{Instance}
use Rattle.route_rules.specs.Preference.{nearer}
use Rattle.net_prefer.specs.Measured.{Measured, Ordered}
use Rattle.net_prefer.proofs.Measured.{numbers-ordered}
use Rattle.net_everylist.specs.Peeling.{key_at, no_key}

-- the lower key is that of the nearer
module _ {I : Instance} {width : ℕ} {s : List ℕ} {n : ℕ} (q : Measured I width s n) (t : TwoOrFour width) (bytes : (i : ℕ) → get_or s i 0 < 256)
    (w : ℕ) where
  most : (e : ℕ) → number_at width s (w * n + e) ≤ highest width
  most e = number-most width s (w * n + e) bytes

  ordered : (e f : ℕ) → Ordered I w e f (number_at width s (w * n + e)) (number_at width s (w * n + f))
  ordered e f = numbers-ordered q t w e f _ _ refl (most e) refl (most f)

  pub key-nearer : (e f : ℕ) → e < 64 → f < 64 → nearer I w e f ≡ true → key_at width s n w e < key_at width s n w f
  unfolding nearer
  key-nearer e f l m h =
      let o = ordered e f in
      go (either_true (ltb (I.dist w e) (I.dist w f)) (eqb (I.dist w e) (I.dist w f) && ltb e f) h) o
    where
      go : (ltb (I.dist w e) (I.dist w f) ≡ true) ⊎ ((eqb (I.dist w e) (I.dist w f) && ltb e f) ≡ true)
          → Ordered I w e f (number_at width s (w * n + e)) (number_at width s (w * n + f))
          → key_at width s n w e < key_at width s n w f
      go (inl a) o =
          let d : I.dist w e < I.dist w f = ltb-true _ _ a in
          ⊎_elim (λ (x : number_at width s (w * n + e) < number_at width s (w * n + f)). omega arith)
          (λ (x : number_at width s (w * n + f) ≤ number_at width s (w * n + e)).
          ⊎_elim (λ (y : number_at width s (w * n + e) ≡ number_at width s (w * n + f)). absurd (omega (arith, o.tie y)))
          (λ (y : number_at width s (w * n + e) ≡ number_at width s (w * n + f) → ⊥). absurd (omega (arith, o.farther (omega arith))))
          (eq-or-ne (number_at width s (w * n + e)) (number_at width s (w * n + f))))
          (lt-or-le (number_at width s (w * n + e)) (number_at width s (w * n + f)))
      go (inr a) o =
          let d : I.dist w e ≡ I.dist w f = eqb-true _ _ (both_left (eqb (I.dist w e) (I.dist w f)) (ltb e f) a) in
          let b : e < f = ltb-true e f (both_right (eqb (I.dist w e) (I.dist w f)) (ltb e f) a) in
          ⊎_elim (λ (x : number_at width s (w * n + f) < number_at width s (w * n + e)). absurd (omega (arith, o.farther x)))
          (λ (x : number_at width s (w * n + e) ≤ number_at width s (w * n + f)). omega arith)
          (lt-or-le (number_at width s (w * n + f)) (number_at width s (w * n + e)))

  pub nearer-key : (e f : ℕ) → e < 64 → f < 64 → key_at width s n w e < key_at width s n w f → nearer I w e f ≡ true
  unfolding nearer
  nearer-key e f l m h =
      let o = ordered e f in
      ⊎_elim (λ (x : number_at width s (w * n + e) < number_at width s (w * n + f)). rw (lt-ltb _ _ (o.nearer x)))
      (λ (x : number_at width s (w * n + f) ≤ number_at width s (w * n + e)).
      let y : number_at width s (w * n + e) ≡ number_at width s (w * n + f) = omega arith in
      let z : e < f = omega arith in
      rw (eq-eqb (I.dist w e) (I.dist w f) (o.tie y), lt-ltb e f z) (or-true (ltb (I.dist w e) (I.dist w f))))
      (lt-or-le (number_at width s (w * n + e)) (number_at width s (w * n + f)))

  -- a way's key is below that of none, and only a way's
  ways : (e : ℕ) → I.way w e ≡ not (eqb (number_at width s (w * n + e)) (highest width))
  ways e = ap (λ f. f w e) q.way ∙ way-is width _ t (most e)

  pub key-way : (e : ℕ) → e < 64 → I.way w e ≡ true → key_at width s n w e < no_key width
  key-way e l h =
      let d : number_at width s (w * n + e) ≡ highest width → ⊥ = eqb-false _ _ (not-true _ (sym (ways e) ∙ h)) in
      omega (arith, most e)

  pub way-key : (e : ℕ) → key_at width s n w e < no_key width → I.way w e ≡ true
  way-key e h = ways e ∙ ap not (ne_eqb (number_at width s (w * n + e)) (highest width) (λ x. omega arith))
