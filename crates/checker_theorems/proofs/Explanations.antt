-- What the call that explains says of the calls that answer a reliance and a comparison.
use Prim.Native.Nat.{ℕ, ◌<◌}
use mathlib.Core.Path.{◌≡◌, refl, ◌∙◌, sym, ap, subst}
use mathlib.Core.Bool.{true}
use mathlib.Core.Option.{some}
use mathlib.Core.List.{List}
use mathlib.Core.Logic.{⊎_elim}
use lib.IntN.{ℤ}
use borrow.Author.Tests.{lt-ltb}
use Rattle.std.specs.Prelude.{Some}
use Rattle.base.proofs.Numbers.{eq-or-ne}
use Rattle.plan_contents.specs.Header.{router_count}
use Rattle.plan_rules.proofs.Refused.{when-refused, when-given}
use Rattle.route_rules.specs.Instance.{RouterBelow}
use Rattle.route_rules.specs.Preference.{nearer, has_step, hops, prefers, better, margin_of}
use Rattle.route_rules.proofs.Reliance.{best_client-below, offer-below}
use Rattle.net_rules.specs.FromPlan.{instance_of}
use Rattle.call_rules.specs.Refusals.{compare_refusal, relies_refusal}
use Rattle.call_rules.proofs.InOrder.{compare-in-order}
use Rattle.call_rules.proofs.Granted.{relies-asked}
use Rattle.call_compare.specs.declared.compare.CompareAnswer.TheVariants.{Compared}
use Rattle.call_compare.specs.declared.compare.Preferred.TheVariants.{First}
use Rattle.call_query.specs.declared.relies.ReliesAnswer.{ReliesAnswer}
use Rattle.call_query.specs.Relies.{relies_flag, Relied}
use Rattle.call_compare.specs.Compare.{preferred_of, compared}
use Rattle.route_explain_rules.specs.declared.explanation.Explanation.{Explanation}
use Rattle.route_explain_rules.specs.declared.explanation.Explanation.TheVariants.{Yes}
use Rattle.route_explain_rules.specs.declared.explanation.Rule.TheVariants.{BetterOffer}
use Rattle.route_explain_rules.specs.Reasons.{is_yes, ByRule, RuleOf}
use Rattle.call_explain.specs.Explain.{Explains}
use Rattle.route_explain_rules.proofs.Reasons.{values-say, explaining}
use Rattle.checker_theorems.specs.Explanations.{EveryExplanationAgrees, EveryOfferCompares}

module _ (plan : List ℕ) (k w v : ℕ) (plain : ReliesAnswer) (why : Explanation) (relied : Relied plan k w v plain)
    (explains : Explains plan k w v why) where
  yes-agrees : is_yes why ≡ relies_flag plain
  yes-agrees =
      ⊎_elim
      (λ (given : relies_refusal plan k w v ≡ 0).
      ap is_yes (explains.answer ∙ when-given _ _ _ given)
      ∙ (explaining (instance_of plan k) w v).agrees
      ∙ sym (relied.value ∙ when-given _ _ _ given))
      (λ (ne : relies_refusal plan k w v ≡ 0 → ⊥).
      ap is_yes (explains.answer ∙ when-refused _ _ _ ne) ∙ sym (relied.value ∙ when-refused _ _ _ ne))
      (eq-or-ne (relies_refusal plan k w v) 0)

pub every-explanation-agrees : EveryExplanationAgrees
every-explanation-agrees plan k w v plain why relied explains =
    let agrees = yes-agrees plan k w v plain why relied explains in
    (agrees, values-say why ∙ agrees, explains.number ∙ sym relied.number)

module _ (plan : List ℕ) (k w v e c : ℕ) (m : ℤ) (explains : Explains plan k w v (Yes (BetterOffer e c m))) where
  given : relies_refusal plan k w v ≡ 0
  given = sym explains.number

  by-rule : ByRule (instance_of plan k) w v (BetterOffer e c m)
  by-rule = subst (RuleOf (instance_of plan k) w v) (sym (explains.answer ∙ when-given _ _ _ given)) (explaining (instance_of plan k) w v).rule

  offer-known : e < router_count plan
  offer-known = subst (RouterBelow (router_count plan)) by-rule.2 (offer-below (instance_of plan k) v (relies-asked _ _ _ _ given).other)

  own-known : c < router_count plan
  own-known = subst (RouterBelow (router_count plan)) by-rule.3 (best_client-below (instance_of plan k) w)

  not-refused : compare_refusal plan w e c ≡ 0
  not-refused =
      let asked = relies-asked _ _ _ _ given in
      let r = lt-ltb _ _ asked.router in
      let o = lt-ltb _ _ offer-known in
      let b = lt-ltb _ _ own-known in
      (compare-in-order plan w e c).none asked.plan_ok (rw (r, o, b)) refl refl refl

  -- a comparison reads no list
  better-there : better (instance_of plan 0) w e ((instance_of plan k).listed v) c true ≡ true
  unfolding better prefers nearer hops has_step
  better-there = by-rule.4

  margin-there : margin_of (instance_of plan 0) w e c ≡ some m
  unfolding margin_of
  margin-there = by-rule.5

  says : compared plan w e ((instance_of plan k).listed v) c true ≡ Compared First (Some m)
  unfolding compared preferred_of
  says = rw (better-there, margin-there)

pub every-offer-compares : EveryOfferCompares
every-offer-compares plan k w v e c m r explains compares =
    compares.answer ∙ when-given _ _ _ (not-refused plan k w v e c m explains) ∙ says plan k w v e c m explains
