-- What C sees of the two calls on a reliance is one answer.
use mathlib.Core.Path.{◌≡◌, ◌∙◌, sym, ap}
use Rattle.base.specs.Seek.{flag}
use Rattle.net_rules.specs.FromPlan.{instance_of}
use Rattle.call_rules.specs.Refusals.{relies_refusal}
use Rattle.plan_rules.proofs.Refused.{when-given}
use Rattle.route_explain_rules.specs.Explained.{explained}
use Rattle.route_explain_rules.proofs.Reasons.{values-say, explaining}
use Rattle.c_rules.specs.Exports.{SameReliance}

pub same-reliance : SameReliance
same-reliance plan k w v r s plain relied code offered has_own own margin p q =
    let I = instance_of plan k in (
      p.number ∙ sym q.number,
      λ zero.
          let given : relies_refusal plan k w v ≡ 0 = sym p.number ∙ zero in
          q.answered
          ∙ when-given _ _ _ given
          ∙ ap flag (values-say (explained I w v) ∙ (explaining I w v).agrees)
          ∙ sym (p.answered ∙ when-given _ _ _ given),
    )
