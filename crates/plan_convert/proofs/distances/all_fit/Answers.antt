use Prim.Native.Nat.{ℕ, ◌+◌, ◌≤◌}
use native.Mathlib.Omega.{arith}
use mathlib.Core.Path.{◌≡◌, refl, ◌∙◌, sym, ap, ap₂}
use mathlib.Core.Bool.{Bool, true, false, ◌&&◌}
use mathlib.Core.Logic.{⊎_elim}
use borrow.Author.Tests.{eq-eqb, ne_eqb}
use lib.Dec.{eqb}
use mir.Val.{bool_byte}
use Rattle.base.proofs.Below.{all_none, all-next}
use Rattle.base.proofs.Numbers.{eq-or-ne}
use Rattle.plan_rules.specs.Distances.{placed}
use Rattle.plan_rules.specs.Converted.{distance_fits}
use Rattle.plan_convert.proofs.distances.all_fit.Goals as goal

neither : (x : Bool) → (x && false) ≡ false
neither true = refl
neither false = refl

both : (x : Bool) → (x && true) ≡ x
both true = refl
both false = refl

-- one more that fits, or does not
one-more : (fitting i : ℕ) (b x : Bool) → fitting ≤ i → eqb fitting i ≡ x
    → (fitting + bool_byte b ≤ i + 1) × (eqb (fitting + bool_byte b) (i + 1) ≡ (x && b))
one-more fitting i true x l e = (
  omega arith,
  ⊎_elim (λ (same : fitting ≡ i). eq-eqb (fitting + 1) (i + 1) (omega arith) ∙ sym (eq-eqb fitting i same))
      (λ (other : fitting ≡ i → ⊥). ne_eqb (fitting + 1) (i + 1) (λ h. other (omega arith)) ∙ sym (ne_eqb fitting i other))
      (eq-or-ne fitting i) ∙ e ∙ sym (both x),
)
one-more fitting i false x l e = (omega arith, ne_eqb (fitting + 0) (i + 1) (λ h. omega arith) ∙ sym (neither x))

pub loop-i-init : goal.loop-i-init
loop-i-init c = (omega arith, sym (all_none _))

pub loop-i-preserved : goal.loop-i-preserved
loop-i-preserved c =
    let more = one-more c.loop-i.fitting c.loop-i.i c.distance_fits.result _ c.loop-i.invariant.0 c.loop-i.invariant.1 in (
      more.0,
      more.1
          ∙ ap₂ ◌&&◌ refl (c.distance_fits.ensures ∙ ap (distance_fits c.args.to) c.distance_at.ensures.0)
          ∙ sym (all-next (λ j. distance_fits c.args.to (placed c.args.width c.args.s.now j)) c.loop-i.i),
    )
