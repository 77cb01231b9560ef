-- The settled table is the only steady one: every other table has an act that changes it.
use Prim.Native.Nat.{ℕ, zero, suc, ◌<◌}
use native.Mathlib.Omega.{arith}
use native.Mathlib.Decide.{ℕ_discrete}
use mathlib.Core.Path.{◌≡◌, ◌∙◌, sym, ap}
use mathlib.Core.List.{List}
use mathlib.Core.Logic.{◌⊎◌, inl, inr, ⊎_elim}
use lib.Seq.{ext_get_or}
use Rattle.base.proofs.Numbers.{eq-or-ne}
use Rattle.route_rules.specs.Instance.{Instance, Route, nothing, Route-discrete}
use Rattle.route_rules.specs.Activation.{choose, held, activate}
use Rattle.route_rules.proofs.Routes.{activate-own}
use Rattle.route_theorems.specs.Settled.{settled_table}
use Rattle.route_theorems.specs.Claims.{Ranked, IsTable, Steady, OneSteadyTable}
use Rattle.route_theorems.proofs.Clean.{CleanEntry, choose-clean}
use Rattle.route_theorems.proofs.Existence.{steady-holds, holds-steady, settled-length, chooses-settled, settled-legal, settled-steady}

-- a number below k at which two functions differ, or none
record Differ (f g : ℕ → Route) (k : ℕ) : Type 0 where
  at : ℕ
  below : at < k
  differ : f at ≡ g at → ⊥

find-differ : (f g : ℕ → Route) (k : ℕ) → Differ f g k ⊎ ((i : ℕ) → i < k → f i ≡ g i)
find-differ f g zero = inr (λ i l. absurd (omega arith))
find-differ f g (suc k) = go (find-differ f g k) (Route-discrete ℕ_discrete (f k) (g k))
  where
    go : Differ f g k ⊎ ((i : ℕ) → i < k → f i ≡ g i) → Dec (f k ≡ g k) → Differ f g (suc k) ⊎ ((i : ℕ) → i < suc k → f i ≡ g i)
    go (inl d) x = inl (record { at = d.at; below = omega (arith, d.below); differ = d.differ })
    go (inr h) (no d) = inl (record { at = k; below = omega arith; differ = d })
    go (inr h) (yes e) = inr (λ i l. ⊎_elim (λ (q : i ≡ k). ap f q ∙ e ∙ ap g (sym q)) (λ (q : i ≡ k → ⊥). h i (omega arith)) (eq-or-ne i k))

module _ (I : Instance) (rank : ℕ → ℕ) (R : ℕ) (r : Ranked I rank R) where
  module _ (t : List Route) (e : IsTable I t) where
    module _ (holds : (w : ℕ) → w < I.n → choose I w (held t) ≡ held t w) where
      steady-clean : (v : ℕ) → v < I.n → CleanEntry I v (held t v)
      steady-clean v l = λ f s q. choose-clean I v (held t) f s (holds v l ∙ q)

      -- rank by rank
      steady-settled : (k v : ℕ) → v < I.n → rank v < k → held t v ≡ held (settled_table I R) v
      steady-settled zero v l h = absurd (omega arith)
      steady-settled (suc k) v l h =
          sym (holds v l)
          ∙ chooses-settled I rank R r v (held t) l steady-clean (λ u m p. steady-settled k u m (omega (arith, r.falls v u l m p)))

    only : Steady I t → t ≡ settled_table I R
    only s =
        ext_get_or nothing t (settled_table I R) (e ∙ sym (settled-length I rank R r))
        (λ v l. steady-settled (steady-holds I t e s) (suc (rank v)) v (omega arith) (omega arith))

    changes : (t ≡ settled_table I R → ⊥) → (w : ℕ) × (w < I.n) × (activate I w t ≡ t → ⊥)
    changes d = go (find-differ (λ w. choose I w (held t)) (held t) I.n)
      where
        go : Differ (λ w. choose I w (held t)) (held t) I.n ⊎ ((w : ℕ) → w < I.n → choose I w (held t) ≡ held t w)
            → (w : ℕ) × (w < I.n) × (activate I w t ≡ t → ⊥)
        go (inl x) =
            (x.at, x.below, λ h. x.differ (sym (activate-own I x.at t (omega (arith, x.below))) ∙ ap (λ u. held u x.at) h))
        go (inr h) = absurd (d (only (holds-steady I t h)))

  pub one-steady-table : OneSteadyTable I R
  one-steady-table =
      record { table = settled-length I rank R r; legal = settled-legal I rank R r; steady = settled-steady I rank R r; only = only; changes = changes }
