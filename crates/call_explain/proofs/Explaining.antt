-- The call's answer, refused and not.
use Prim.Native.Nat.{ℕ}
use mathlib.Core.Path.{◌≡◌, refl, ◌∙◌, sym, ap}
use mathlib.Core.List.{List}
use Rattle.net_rules.specs.FromPlan.{instance_of}
use Rattle.call_rules.specs.Refusals.{relies_refusal}
use Rattle.plan_rules.proofs.Refused.{when-refused}
use Rattle.route_explain_rules.specs.Explained.{explained}
use Rattle.route_explain_rules.specs.Values.{values_of}
use Rattle.call_explain.specs.Explain.{explain_number, Explains}
use Rattle.route_explain_rules.specs.Reasons.{RuleOf}
use Rattle.route_explain_rules.proofs.Reasons.{explaining}
use Rattle.route_explain_rules.specs.declared.explanation.Explanation.{Explanation}
use Rattle.route_explain_rules.specs.declared.explanation.Explanation.TheVariants.{Refused, Yes, No}

module _ (plan : List ℕ) (k w v : ℕ) where
  pub explains-refused : (number : ℕ) → number ≡ relies_refusal plan k w v → (number ≡ 0 → ⊥) → Explains plan k w v (Refused number)
  explains-refused number same h =
      rw same
      (let n : relies_refusal plan k w v ≡ 0 → ⊥ = λ z. h (same ∙ z) in
      record { answer = sym (when-refused _ _ _ n); number = refl; values = sym (when-refused _ _ _ n) })

  -- an explanation of a network's routers is no refusal
  not-refused : (r : Explanation) → RuleOf (instance_of plan k) w v r → explain_number r ≡ 0
  not-refused (Refused number) h = absurd h
  not-refused (Yes rule) h = refl
  not-refused (No reason) h = refl

  pub explains-given : relies_refusal plan k w v ≡ 0 → (r : Explanation) → r ≡ explained (instance_of plan k) w v → Explains plan k w v r
  explains-given given r h =
      record {
        answer = rw given h;
        number = ap explain_number h ∙ not-refused (explained (instance_of plan k) w v) (explaining (instance_of plan k) w v).rule ∙ sym given;
        values = rw given (ap values_of h);
      }
