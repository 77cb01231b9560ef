-- The call that asks whether a plan is stable for every egress list. What it answers and gives is the answer of the plan's network
-- (`every_list`) and the list found there (`suspect_list`).
use Rattle.std.specs.Prelude.{ℕ, zero, suc, ◌≡◌, false, List, ◌++◌, length, drop}
use Rattle.base.specs.Lent.{Lent}
use Rattle.plan_rules.specs.Refused.{unless_refused, field}
use Rattle.route_rules.specs.Instance.{Instance}
use Rattle.everylist_rules.specs.EveryList.{with_list, every_list, suspect_list}
use Rattle.net_rules.specs.FromPlan.{instance_of}
use Rattle.call_rules.specs.Refusals.{every_list_refusal}
use Rattle.net_everylist.specs.declared.EveryList.{EveryList}
use Rattle.net_everylist.specs.declared.EveryList.TheVariants as found
use Rattle.call_everylist.specs.declared.every_list.EveryListAnswer.{EveryListAnswer}
use Rattle.call_everylist.specs.declared.every_list.EveryListAnswer.TheVariants.{Refused, Yes, No, Undecided}

-- "The plan's own lists play no part.": the plan's network with nobody listed
abbrev pub network_of : List ℕ → Instance
network_of plan = with_list (instance_of plan 0) (λ v. false)

-- "1 yes, stable for every list; 0 no, with a list ..; 2 undecided": the case of a number, with the length of the list
abbrev pub answer_of : ℕ → ℕ → EveryListAnswer
answer_of zero count = No count
answer_of (suc zero) count = Yes
answer_of (suc (suc more)) count = Undecided

-- the answer over a network as the call's
abbrev pub as_answer : EveryList → EveryListAnswer
as_answer found.Yes = Yes
as_answer (found.No count) = No count
as_answer found.Undecided = Undecided

-- `number` is the refusal of the call, and I the plan's network
unfoldable pub every_list_answer : ℕ → Instance → EveryListAnswer
every_list_answer number I = unless_refused number (Refused number) (answer_of (every_list I) (length (suspect_list I)))

-- the list stands at the start of the buffer, and the bytes after it are left as they were: all of them where there is no list
unfoldable pub list_after : ℕ → Instance → List ℕ → List ℕ
list_after number I list = unless_refused number list (suspect_list I ++ drop (length (suspect_list I)) list)

-- the refusal number, the answer's number and the count for each case of the answer
abbrev pub refusal_of : EveryListAnswer → ℕ
refusal_of (Refused number) = number
refusal_of Yes = 0
refusal_of (No count) = 0
refusal_of Undecided = 0

abbrev pub answer_number : EveryListAnswer → ℕ
answer_number (Refused number) = 0
answer_number Yes = 1
answer_number (No count) = 0
answer_number Undecided = 2

abbrev pub count_of : EveryListAnswer → ℕ
count_of (Refused number) = 0
count_of Yes = 0
count_of (No count) = count
count_of Undecided = 0

-- the answer r of a call whose refusal is `number`, and the buffer before and after
pub record EveryListGiven (number : ℕ) (I : Instance) (r : EveryListAnswer) (list : Lent (List ℕ)) : Type 0 where
  pub answer : r ≡ every_list_answer number I
  pub numbered : refusal_of r ≡ number
  pub answered : answer_number r ≡ field number (every_list I)
  pub counted : count_of r ≡ field number (length (suspect_list I))
  pub written : list.after ≡ list_after number I list.before

-- the same of any call
abbrev pub EveryListCall : (plan : List ℕ) (r : EveryListAnswer) (list : Lent (List ℕ)) → Type 0
EveryListCall plan r list = EveryListGiven (every_list_refusal plan list.before) (network_of plan) r list
