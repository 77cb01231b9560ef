-- The call: "For a list and two routers, the answer is yes with its rule .. or no with the reason" (document 02, "Every reliance with its
-- rule").
use Rattle.std.specs.Prelude.{ℕ, List, ◌≡◌, false}
use Rattle.net_rules.specs.FromPlan.{instance_of}
use Rattle.plan_rules.specs.Refused.{unless_refused}
use Rattle.call_rules.specs.Refusals.{relies_refusal}
use Rattle.route_explain_rules.specs.Explained.{explained}
use Rattle.route_explain_rules.specs.Values.{bare, values_of}
use Rattle.route_explain_rules.specs.declared.explanation.Explanation.{Explanation}
use Rattle.route_explain_rules.specs.declared.explanation.Explanation.TheVariants.{Refused, Yes, No}

-- the answer's refusal number
abbrev pub explain_number : Explanation → ℕ
explain_number (Refused number) = number
explain_number (Yes rule) = 0
explain_number (No reason) = 0

-- the answer r to why w relies on v for list k, or does not
pub record Explains (plan : List ℕ) (k w v : ℕ) (r : Explanation) : Type 0 where
  pub answer :
      r ≡ unless_refused (relies_refusal plan k w v) (Refused (relies_refusal plan k w v)) (explained (instance_of plan k) w v)
  pub number : explain_number r ≡ relies_refusal plan k w v
  pub values : values_of r ≡ unless_refused (relies_refusal plan k w v) (bare false 0) (values_of (explained (instance_of plan k) w v))
