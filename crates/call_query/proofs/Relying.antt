-- The answers to whether one router relies on another.
use Prim.Native.Nat.{ℕ}
use mathlib.Core.Path.{◌≡◌, refl, ◌∙◌, sym}
use mathlib.Core.Bool.{true, false}
use mathlib.Core.List.{List}
use Rattle.route_rules.specs.Reliance.{relies}
use Rattle.net_rules.specs.FromPlan.{instance_of}
use Rattle.call_query.specs.declared.relies.ReliesAnswer.TheVariants.{Refused, Yes, No}
use Rattle.call_rules.specs.Refusals.{relies_refusal}
use Rattle.call_query.specs.Relies.{relied, Relied}
use Rattle.plan_rules.proofs.Refused.{when-refused}

module _ (plan : List ℕ) (k w v : ℕ) where
  pub relied-refused : (number : ℕ) → number ≡ relies_refusal plan k w v → (number ≡ 0 → ⊥) → Relied plan k w v (Refused number)
  relied-refused number same h =
      rw same
      (let n : relies_refusal plan k w v ≡ 0 → ⊥ = λ z. h (same ∙ z) in
      record { answer = sym (when-refused _ _ _ n); number = refl; value = sym (when-refused _ _ _ n) })

  module _ (given : relies_refusal plan k w v ≡ 0) where
    pub relied-yes : relies (instance_of plan k) w v ≡ true → Relied plan k w v Yes
    unfolding relied
    relied-yes h = record { answer = rw (given, h); number = sym given; value = rw (given, h) }

    pub relied-no : relies (instance_of plan k) w v ≡ false → Relied plan k w v No
    unfolding relied
    relied-no h = record { answer = rw (given, h); number = sym given; value = rw (given, h) }
