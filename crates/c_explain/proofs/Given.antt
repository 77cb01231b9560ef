-- What the variables hold beside a refusal number, and beside none.
use Prim.Native.Nat.{ℕ}
use mathlib.Core.Path.{◌≡◌, ◌∙◌, sym, ap}
use mathlib.Core.List.{List}
use lib.IntN.{ℤ}
use Rattle.base.specs.Seek.{flag}
use Rattle.call_rules.specs.Refusals.{relies_refusal}
use Rattle.plan_rules.proofs.Refused.{when-refused, when-given}
use Rattle.call_verdict.proofs.Judging.{kept}
use Rattle.route_explain_rules.specs.declared.explanation.Values.{Values}
use Rattle.route_explain_rules.specs.declared.explanation.Explanation.{Explanation}
use Rattle.route_explain_rules.specs.Values.{values_of}
use Rattle.call_explain.specs.Explain.{explain_number, Explains}
use Rattle.c_rules.specs.Exports.{why_of, ExplainExport}
use Rattle.c_rules.proofs.Written.{wrote}

module _ (plan : List ℕ) (k w v : ℕ) (r : Explanation) (call : Explains plan k w v r) (number : ℕ) (is : number ≡ explain_number r)
    (relies code offer present own : ℕ) (margin : ℤ) where
  pub explain-refused : (number ≡ 0 → ⊥)
      → ExplainExport plan k w v number (kept relies) (kept code) (kept offer) (kept present) (kept own) (kept margin)
  explain-refused h =
      let n : relies_refusal plan k w v ≡ 0 → ⊥ = λ z. h (is ∙ call.number ∙ z) in
      record {
        number = is ∙ call.number;
        answered = sym (when-refused _ _ _ n);
        coded = sym (when-refused _ _ _ n);
        offer = sym (when-refused _ _ _ n);
        compared = sym (when-refused _ _ _ n);
        owned = sym (when-refused _ _ _ n);
        measured = sym (when-refused _ _ _ n);
      }

  pub explain-given : number ≡ 0 → (values : Values) → values ≡ values_of r → (relies' present' : ℕ) (margin' : ℤ)
      → relies' ≡ flag values.relies → present' ≡ flag values.compared → margin' ≡ values.margin
      → ExplainExport plan k w v 0 (wrote relies relies') (wrote code values.code) (wrote offer values.offer)
      (wrote present present') (wrote own values.own) (wrote margin margin')
  explain-given zero values h relies' present' margin' a p m =
      let n : relies_refusal plan k w v ≡ 0 = sym (is ∙ call.number) ∙ zero in
      let why : values ≡ why_of plan k w v = h ∙ call.values ∙ when-given _ _ _ n in
      record {
        number = sym n;
        answered = a ∙ ap (λ x. flag x.relies) why ∙ sym (when-given _ _ _ n);
        coded = ap (λ x. x.code) why ∙ sym (when-given _ _ _ n);
        offer = ap (λ x. x.offer) why ∙ sym (when-given _ _ _ n);
        compared = p ∙ ap (λ x. flag x.compared) why ∙ sym (when-given _ _ _ n);
        owned = ap (λ x. x.own) why ∙ sym (when-given _ _ _ n);
        measured = m ∙ ap (λ x. x.margin) why ∙ sym (when-given _ _ _ n);
      }
