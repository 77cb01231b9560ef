-- Document 02, "Every reliance with its rule", of the calls on any bytes and numbers.
use Rattle.std.specs.Prelude.{ℕ, ◌≡◌, Bool, true, false, List, ℤ, Some}
use Rattle.plan_rules.specs.Refusal.{plan_refusal}
use Rattle.net_rules.specs.FromPlan.{instance_of}
use Rattle.call_query.specs.declared.relies.ReliesAnswer.{ReliesAnswer}
use Rattle.call_compare.specs.declared.compare.CompareAnswer.{CompareAnswer}
use Rattle.call_compare.specs.declared.compare.CompareAnswer.TheVariants.{Compared}
use Rattle.call_compare.specs.declared.compare.Preferred.TheVariants.{First}
use Rattle.call_query.specs.Relies.{relies_number, relies_flag, Relied}
use Rattle.call_compare.specs.Compare.{Compares}
use Rattle.route_explain_rules.specs.declared.explanation.Explanation.{Explanation}
use Rattle.route_explain_rules.specs.declared.explanation.Explanation.TheVariants.{Yes}
use Rattle.route_explain_rules.specs.declared.explanation.Rule.{Rule}
use Rattle.route_explain_rules.specs.declared.explanation.Rule.TheVariants.{BetterOffer}
use Rattle.route_explain_rules.specs.declared.explanation.Reason.{Reason}
use Rattle.route_explain_rules.specs.Reasons.{place, is_yes}
use Rattle.route_explain_rules.specs.Values.{values_of_rule, values_of}
use Rattle.call_explain.specs.Explain.{explain_number, Explains}

-- "Yes must agree with the plain reliance answer for every pair": the two calls say the same, in case, value and number, refused or not
abbrev pub EveryExplanationAgrees : Type 0
EveryExplanationAgrees =
    (plan : List ℕ) (k w v : ℕ) (plain : ReliesAnswer) (why : Explanation) → Relied plan k w v plain → Explains plan k w v why
    → (is_yes why ≡ relies_flag plain) × ((values_of why).relies ≡ relies_flag plain) × (explain_number why ≡ relies_number plain)

-- "better offer with its route and .. that one's route and the margin, offer minus own": the comparison of the two routes is not refused,
-- and says that the offer is better, by that margin. A listed reflector offers its own route, any other passes one on; a best client tells
-- its own.
abbrev pub EveryOfferCompares : Type 0
EveryOfferCompares =
    (plan : List ℕ) (k w v e c : ℕ) (m : ℤ) (r : CompareAnswer) → Explains plan k w v (Yes (BetterOffer e c m))
    → Compares plan w e ((instance_of plan k).listed v) c true r → r ≡ Compared First (Some m)

-- a plan that is not refused, and a list and two routers of it of which the call answers yes or no with this number, and says whether it
-- compared an offer with an own best client
pub record Occurs (relies : Bool) (code : ℕ) (compared : Bool) : Type 0 where
  pub plan : List ℕ
  pub list : ℕ
  pub router : ℕ
  pub other : ℕ
  pub passes : plan_refusal plan ≡ 0
  pub answers : (r : Explanation) → Explains plan list router other r
      → (explain_number r ≡ 0) × ((values_of r).relies ≡ relies) × ((values_of r).code ≡ code) × ((values_of r).compared ≡ compared)

-- "Reasons that never occur are shown so and dropped": every rule and every reason that is kept occurs
abbrev pub EveryRuleOccurs : Type 0
EveryRuleOccurs = (rule : Rule) → Occurs true (values_of_rule rule).code (values_of_rule rule).compared

abbrev pub EveryReasonOccurs : Type 0
EveryReasonOccurs = (reason : Reason) → Occurs false (place reason) false
