-- Where the hop step decides between two routes the one that its egress tells is preferred, elsewhere the nearer.
use Prim.Native.Nat.{ℕ}
use mathlib.Core.Path.{◌≡◌, refl, ◌∙◌, sym, ap}
use mathlib.Core.Bool.{Bool, true, false, not, beq, ◌&&◌}
use Rattle.base.proofs.Numbers.{not-both}
use Rattle.route_rules.specs.Instance.{Instance}
use Rattle.route_rules.specs.Preference.{nearer, has_step, prefers}
use Rattle.route_rules.proofs.Preference.{prefers-alike, prefers-without, prefers-direct, prefers-passed}

module _ (I : Instance) (w e f : ℕ) where
  pub step-decided : (d d' : Bool) → (has_step I w && not (beq d d')) ≡ true → (e ≡ f → ⊥) → prefers I w e d f d' ≡ d
  step-decided d d' h apart = go (has_step I w) refl d d' h
    where
      go : (s : Bool) → has_step I w ≡ s → (d d' : Bool) → (s && not (beq d d')) ≡ true → prefers I w e d f d' ≡ d
      go true p true false h = prefers-direct I w p e f apart
      go true p false true h = prefers-passed I w p e f
      go true p true true h = not-both false h refl
      go true p false false h = not-both false h refl
      go false p d d' h = not-both false h refl

  pub step-open : (d d' : Bool) → (has_step I w && not (beq d d')) ≡ false → prefers I w e d f d' ≡ nearer I w e f
  step-open d d' h = go (has_step I w) refl d d' h
    where
      go : (s : Bool) → has_step I w ≡ s → (d d' : Bool) → (s && not (beq d d')) ≡ false → prefers I w e d f d' ≡ nearer I w e f
      go false p d d' h = prefers-without I w p e d f d'
      go true p true true h = prefers-alike I w e f true
      go true p false false h = prefers-alike I w e f false
      go true p true false h = not-both true refl h
      go true p false true h = not-both true refl h
