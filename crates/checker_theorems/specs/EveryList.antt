-- Stable for every list, over a plan's bytes with any list in place of its lists, and over what the verdict call says of that plan.
use Rattle.std.specs.Prelude.{ℕ, ◌+◌, ◌≤◌, ◌<◌, ◌≡◌, true, false, List, [], ◌∷◌, ◌++◌, ◌↔◌, length, get_or, set, take}
use Rattle.base.specs.Lent.{Lent}
use Rattle.plan_contents.specs.Header.{router_count}
use Rattle.plan_contents.specs.Contents.{contents_of, lists_entry, routers_body, sessions_body, lists_body}
use Rattle.plan_rules.specs.Routers.{role}
use Rattle.plan_rules.specs.Parents.{parent_count}
use Rattle.plan_rules.specs.EgressLists.{list_count, list_numbers}
use Rattle.plan_rules.specs.Refusal.{plan_refusal}
use Rattle.steady_rules.specs.Numbers.{Rises}
use Rattle.everylist_rules.specs.Pairs.{NoPairCycle, found}
use Rattle.everylist_rules.specs.EveryList.{with_list, stable_for, none_left, every_list, suspect_list, Clusters, OwnClientsNearer}
use Rattle.net_rules.specs.FromPlan.{named, instance_of}
use Rattle.call_verdict.specs.declared.verdict.VerdictAnswer.{VerdictAnswer}
use Rattle.call_verdict.specs.Verdict.{verdict_number, verdict_is_stable, VerdictCall}
use Rattle.call_everylist.specs.declared.every_list.EveryListAnswer.{EveryListAnswer}
use Rattle.call_everylist.specs.EveryList.{network_of, refusal_of, answer_number, count_of, EveryListCall}
use Rattle.checker_theorems.specs.HopStep.{HasList, AllHaveStep}

-- the body of kind 4 with one list alone: "one byte m", then "a count byte c .. and c router numbers"
abbrev pub one_list : List ℕ → List ℕ
one_list numbers = 1 ∷ length numbers ∷ numbers

-- the bytes before that body: the plan's, but for bytes 24 and 25, which say how long it is
abbrev pub before_one_list : List ℕ → List ℕ → List ℕ
before_one_list plan numbers = set (set (take (lists_entry (contents_of plan)).offset plan) 24 (length (one_list numbers))) 25 0

-- the plan with that list alone in place of its lists
unfoldable pub with_list_in : List ℕ → List ℕ → List ℕ
with_list_in plan numbers = before_one_list plan numbers ++ one_list numbers

-- a list as a plan of n routers may have it: "router numbers below n, rising strictly"; it may be empty
pub record LegalList (n : ℕ) (numbers : List ℕ) : Type 0 where
  pub below : (j : ℕ) → j < length numbers → get_or numbers j 0 < n
  pub rises : Rises numbers

-- What that plan is, of a plan that is not refused and a list that it may have.
pub record ListedPlan (plan numbers : List ℕ) : Type 0 where
  -- the bytes before the lists are the plan's, but for two, and the lists are that list
  pub others :
      (i : ℕ) → i < (lists_entry (contents_of plan)).offset → (i ≡ 24 → ⊥) → (i ≡ 25 → ⊥) → get_or (with_list_in plan numbers) i 0 ≡ get_or plan i 0
  pub lists : lists_body (with_list_in plan numbers) ≡ one_list numbers
  pub long : length (with_list_in plan numbers) ≡ (lists_entry (contents_of plan)).offset + (2 + length numbers)
  -- it is not refused, and has one list, with those numbers
  pub passes : plan_refusal (with_list_in plan numbers) ≡ 0
  pub one : list_count (with_list_in plan numbers) ≡ 1
  pub is : list_numbers (with_list_in plan numbers) 0 ≡ numbers
  -- it is the network of the plan, of whichever of its lists, with that list
  pub network : (k : ℕ) → instance_of (with_list_in plan numbers) 0 ≡ with_list (instance_of plan k) (named numbers)
  -- the verdict call says stable of it exactly if that list is stable
  pub verdict : (r : VerdictAnswer) (labels ranks table shown : Lent (List ℕ)) → VerdictCall (with_list_in plan numbers) 0 r labels ranks table shown
      → verdict_number r ≡ 0 → verdict_is_stable r ≡ stable_for (instance_of plan 0) (named numbers)

abbrev pub EveryListedPlan : Type 0
EveryListedPlan = (plan numbers : List ℕ) → plan_refusal plan ≡ 0 → LegalList (router_count plan) numbers → ListedPlan plan numbers

-- no client has two neighbouring reflectors
abbrev pub OneParent : List ℕ → Type 0
OneParent plan =
    (v : ℕ) → v < router_count plan → role (routers_body plan) v ≡ 2 → parent_count (routers_body plan) (sessions_body plan) (router_count plan) v ≤ 1

-- every list that the plan may have is stable
abbrev pub EachStable : List ℕ → Type 0
EachStable plan = (numbers : List ℕ) → LegalList (router_count plan) numbers → stable_for (network_of plan) (named numbers) ≡ true

-- What an answer and the list given with it say of a plan.
pub record AnswerMeans (plan : List ℕ) (answer : ℕ) (given : List ℕ) : Type 0 where
  pub answers : answer ≤ 2
  -- yes exactly if there is no cycle of pairs
  pub no_cycle : (answer ≡ 1) ↔ NoPairCycle (network_of plan)
  -- yes: with every list that the plan may have, listed reflectors and the empty list among them, that plan is not refused, and the verdict
  -- call says stable
  pub yes : answer ≡ 1 → (numbers : List ℕ) → LegalList (router_count plan) numbers → HasList (with_list_in plan numbers) 0
  pub stable : answer ≡ 1 → (numbers : List ℕ) → LegalList (router_count plan) numbers → (r : VerdictAnswer) (labels ranks table shown : Lent (List ℕ))
      → VerdictCall (with_list_in plan numbers) 0 r labels ranks table shown → verdict_number r ≡ 0 → verdict_is_stable r ≡ true
  -- no: the list given is one that the plan may have, of clients, and not empty
  pub legal : LegalList (router_count plan) given
  pub clients : answer ≡ 0 → (j : ℕ) → j < length given → role (routers_body plan) (get_or given j 0) ≡ 2
  pub somebody : answer ≡ 0 → 0 < length given
  -- .. with it that plan is not refused, and the verdict call says suspect
  pub no : answer ≡ 0 → HasList (with_list_in plan given) 0
  pub suspect : answer ≡ 0 → (r : VerdictAnswer) (labels ranks table shown : Lent (List ℕ))
      → VerdictCall (with_list_in plan given) 0 r labels ranks table shown → verdict_number r ≡ 0 → verdict_is_stable r ≡ false
  -- another answer comes with an empty list
  pub nobody : (answer ≡ 0 → ⊥) → given ≡ []
  -- undecided exactly if pairs are left and the list found is stable
  pub undecided : (answer ≡ 2) ↔ ((none_left (network_of plan) ≡ false) × (stable_for (network_of plan) (found (network_of plan)) ≡ true))
  -- Never undecided where no client has two parents, nor where reflectors that share clients are alike: then yes exactly if every list is stable.
  pub one_parent : OneParent plan → Clusters (network_of plan)
  pub decided : Clusters (network_of plan) → answer ≡ 2 → ⊥
  pub exact : Clusters (network_of plan) → (answer ≡ 1) ↔ EachStable plan
  -- where own clients are nearer, and where every reflector has role 4 or 5: yes
  pub guideline : OwnClientsNearer (network_of plan) → answer ≡ 1
  pub step : AllHaveStep plan → answer ≡ 1

-- The answer of a plan that is not refused. The plan's lists play no part: it is the same for each of them, and with any list in their place.
pub record EveryListOf (plan : List ℕ) : Type 0 where
  pub means : AnswerMeans plan (every_list (network_of plan)) (suspect_list (network_of plan))
  pub any_list : (k : ℕ) → (every_list (instance_of plan k) ≡ every_list (network_of plan)) × (suspect_list (instance_of plan k) ≡ suspect_list (network_of plan))
  pub other_lists : (numbers : List ℕ) → LegalList (router_count plan) numbers
      → (every_list (network_of (with_list_in plan numbers)) ≡ every_list (network_of plan))
      × (suspect_list (network_of (with_list_in plan numbers)) ≡ suspect_list (network_of plan))

abbrev pub EveryListOfPlans : Type 0
EveryListOfPlans = (plan : List ℕ) → plan_refusal plan ≡ 0 → EveryListOf plan

-- What a call that is not refused says by its answer and by the list that it writes.
abbrev pub EveryListCallMeans : Type 0
EveryListCallMeans =
    (plan : List ℕ) (r : EveryListAnswer) (list : Lent (List ℕ)) → EveryListCall plan r list → refusal_of r ≡ 0
    → AnswerMeans plan (answer_number r) (take (count_of r) list.after)
