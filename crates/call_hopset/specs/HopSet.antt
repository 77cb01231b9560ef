-- Document 02, "Where to load the hop step": the call that names a smallest set. What it names for a plan's list is the number of the plan's
-- network with that list (`hop_set`).
use Rattle.std.specs.Prelude.{ℕ, ◌≡◌, List}
use Rattle.plan_rules.specs.Refusal.{refuse}
use Rattle.plan_rules.specs.Refused.{unless_refused, field}
use Rattle.route_rules.specs.Instance.{Instance}
use Rattle.hopset_rules.specs.HopSet.{hop_set}
use Rattle.net_rules.specs.FromPlan.{instance_of}
use Rattle.call_rules.specs.Refusals.{few_grouped, hop_set_refusal}
use Rattle.call_hopset.specs.declared.hop_set.HopSetAnswer.{HopSetAnswer}
use Rattle.call_hopset.specs.declared.hop_set.HopSetAnswer.TheVariants.{Refused, Named}

-- `number` is the refusal of the call, and I the plan's network with the list: "given as a number in the bits of Slip 11"
unfoldable pub hop_set_answer : ℕ → Instance → HopSetAnswer
hop_set_answer number I = unless_refused number (Refused number) (Named (hop_set I))

-- .. where the plan and the list pass: row 15 is what is left to ask
unfoldable pub named_for : Instance → HopSetAnswer
named_for I = hop_set_answer (refuse (few_grouped I) 15 0) I

-- the paper's refusal number and set for each case of the answer
abbrev pub refusal_of : HopSetAnswer → ℕ
refusal_of (Refused number) = number
refusal_of (Named set) = 0

abbrev pub set_named : HopSetAnswer → ℕ
set_named (Refused number) = 0
set_named (Named set) = set

-- the answer r of a call whose refusal is `number`
pub record HopSetGiven (number : ℕ) (I : Instance) (r : HopSetAnswer) : Type 0 where
  pub answer : r ≡ hop_set_answer number I
  pub numbered : refusal_of r ≡ number
  pub named : set_named r ≡ field number (hop_set I)

-- the same of any call
abbrev pub HopSetCall : (plan : List ℕ) (k : ℕ) (r : HopSetAnswer) → Type 0
HopSetCall plan k r = HopSetGiven (hop_set_refusal plan k) (instance_of plan k) r
