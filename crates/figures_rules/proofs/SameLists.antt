-- The figures of two families of networks that are the same list by list.
use Prim.Native.Nat.{ℕ, zero, suc, ◌<◌}
use native.Mathlib.Omega.{arith}
use mathlib.Core.Path.{◌≡◌, refl, ap, ap₂}
use mathlib.Core.Bool.{not, cond, ◌&&◌}
use lib.Dec.{eqb}
use Rattle.base.specs.Seek.{flag}
use Rattle.base.proofs.Seek.{count-cong}
use Rattle.route_rules.specs.Instance.{Instance}
use Rattle.steady_rules.specs.Steady.{grouped_in}
use Rattle.net_verdict.specs.Assessed.{is_stable, highest_of}
use Rattle.figures_rules.specs.Figures.{stable_lists, suspect_lists, higher_of, highest_stable, stable_with, grouped_lists, figures_of}

module _ (nets others : ℕ → Instance) where
  highest-same : (m : ℕ) → ((k : ℕ) → k < m → nets k ≡ others k) → highest_stable nets m ≡ highest_stable others m
  unfolding highest_stable
  highest-same zero h = refl
  highest-same (suc m) h =
      ap₂ (λ I x. cond (is_stable I) (higher_of x (highest_of I)) x) (h m (omega arith)) (highest-same m (λ k l. h k (omega arith)))

  module _ (m : ℕ) (h : (k : ℕ) → k < m → nets k ≡ others k) where
    pub figures-same : figures_of nets m ≡ figures_of others m
    unfolding figures_of stable_lists suspect_lists
    figures-same =
        λ i. record {
          stable = count-cong _ _ m (λ k l. ap (λ I. flag (is_stable I)) (h k l)) i;
          suspect = count-cong _ _ m (λ k l. ap (λ I. flag (not (is_stable I))) (h k l)) i;
          highest = highest-same m h i;
        }

    pub ranks-same : (r : ℕ) → stable_with nets m r ≡ stable_with others m r
    unfolding stable_with
    ranks-same r = count-cong _ _ m (λ k l. ap (λ I. flag (is_stable I && eqb (highest_of I) r)) (h k l))

    pub routers-same : (w : ℕ) → grouped_lists nets m w ≡ grouped_lists others m w
    unfolding grouped_lists
    routers-same w = count-cong _ _ m (λ k l. ap (λ I. grouped_in I w) (h k l))
