-- Document 01: "the reliance of one router on another answered for a list".
use Rattle.std.specs.Prelude.{ℕ, List, ◌≡◌, Bool, true, false, cond}
use Rattle.route_rules.specs.Reliance.{relies}
use Rattle.net_rules.specs.FromPlan.{instance_of}
use Rattle.call_rules.specs.Refusals.{relies_refusal}
use Rattle.call_query.specs.declared.relies.ReliesAnswer.{ReliesAnswer}
use Rattle.call_query.specs.declared.relies.ReliesAnswer.TheVariants.{Refused, Yes, No}
use Rattle.plan_rules.specs.Refused.{unless_refused, flag_field}

unfoldable pub relied : List ℕ → ℕ → ℕ → ℕ → ReliesAnswer
relied plan k w v = cond (relies (instance_of plan k) w v) Yes No

-- the paper's refusal number and value for each case of the answer
abbrev pub relies_number : ReliesAnswer → ℕ
relies_number (Refused number) = number
relies_number Yes = 0
relies_number No = 0

abbrev pub relies_flag : ReliesAnswer → Bool
relies_flag (Refused number) = false
relies_flag Yes = true
relies_flag No = false

-- the answer r to whether w relies on v for list k
pub record Relied (plan : List ℕ) (k w v : ℕ) (r : ReliesAnswer) : Type 0 where
  pub answer : r ≡ unless_refused (relies_refusal plan k w v) (Refused (relies_refusal plan k w v)) (relied plan k w v)
  pub number : relies_number r ≡ relies_refusal plan k w v
  pub value : relies_flag r ≡ flag_field (relies_refusal plan k w v) (relies (instance_of plan k) w v)
