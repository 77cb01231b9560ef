-- Document 02, "Where to load the hop step": what the number that the call names means of the plan's bytes, with the roles of the set's
-- routers changed, and of what the verdict call says of that plan.
use Rattle.std.specs.Prelude.{ℕ, zero, suc, ◌+◌, ◌*◌, ◌^◌, ◌≤◌, ◌<◌, ◌≡◌, Bool, true, cond, ◌&&◌, List, ◌↔◌, ltb, eqb, length, get_or, set}
use Rattle.base.specs.Lent.{Lent}
use Rattle.plan_contents.specs.Header.{router_count}
use Rattle.plan_contents.specs.Contents.{routers_body}
use Rattle.plan_rules.specs.Routers.{role}
use Rattle.steady_rules.specs.Steady.{grouped_in, grouped_routers, SharesLabel}
use Rattle.hopset_rules.specs.HopSet.{with_step, serves, set_of, reflectors_in}
use Rattle.net_rules.specs.FromPlan.{instance_of}
use Rattle.call_verdict.specs.declared.verdict.VerdictAnswer.{VerdictAnswer}
use Rattle.call_verdict.specs.Verdict.{verdict_number, verdict_is_stable, VerdictCall}
use Rattle.call_hopset.specs.declared.hop_set.HopSetAnswer.{HopSetAnswer}
use Rattle.call_hopset.specs.HopSet.{refusal_of, set_named, HopSetCall}
use Rattle.checker_theorems.specs.HopStep.{HasList, MayCycle}

-- "their roles 1 and 3 become 4 and 5"
abbrev pub role_with_step : ℕ → ℕ
role_with_step number = cond (eqb number 1) 4 (cond (eqb number 3) 5 number)

-- where the role of router w stands: the first body starts at byte 26, and has five bytes a router
abbrev pub role_place : ℕ → ℕ
role_place w = 26 + 5 * w

-- the plan with those roles for the chosen routers below m
unfoldable pub stepped_below : List ℕ → (ℕ → Bool) → ℕ → List ℕ
stepped_below plan chosen zero = plan
stepped_below plan chosen (suc w) =
    cond (chosen w) (set (stepped_below plan chosen w) (role_place w) (role_with_step (get_or plan (role_place w) 0))) (stepped_below plan chosen w)

-- .. for all of them
abbrev pub stepped : List ℕ → (ℕ → Bool) → List ℕ
stepped plan chosen = stepped_below plan chosen (router_count plan)

-- What that plan is, of one that is not refused and any of its lists.
pub record SteppedPlan (plan : List ℕ) (k : ℕ) (chosen : ℕ → Bool) : Type 0 where
  -- the roles of the chosen routers are changed, and no other byte is
  pub roles : (w : ℕ) → w < router_count plan
      → role (routers_body (stepped plan chosen)) w ≡ cond (chosen w) (role_with_step (role (routers_body plan) w)) (role (routers_body plan) w)
  pub others : (i : ℕ) → ((w : ℕ) → w < router_count plan → i ≡ role_place w → ⊥) → get_or (stepped plan chosen) i 0 ≡ get_or plan i 0
  pub long : length (stepped plan chosen) ≡ length plan
  -- it is not refused, and has the list
  pub has : HasList (stepped plan chosen) k
  -- with the list it is the network in which the chosen reflectors have the step too, and else the same
  pub network : instance_of (stepped plan chosen) k ≡ with_step (instance_of plan k) (λ w. chosen w && (instance_of plan k).reflector w)
  -- "makes the plan stable": the verdict call says stable exactly if the chosen routers serve
  pub verdict : (r : VerdictAnswer) (labels ranks table shown : Lent (List ℕ)) → VerdictCall (stepped plan chosen) k r labels ranks table shown
      → verdict_number r ≡ 0 → verdict_is_stable r ≡ serves (instance_of plan k) chosen

abbrev pub EverySteppedPlan : Type 0
EverySteppedPlan = (plan : List ℕ) (k : ℕ) → HasList plan k → (chosen : ℕ → Bool) → SteppedPlan plan k chosen

-- the routers that a number names: "in the bits of Slip 11"
abbrev pub named_set : List ℕ → ℕ → ℕ → ℕ → Bool
named_set plan k x = set_of (instance_of plan k) x

-- how many reflectors are chosen
abbrev pub chosen_count : List ℕ → ℕ → (ℕ → Bool) → ℕ
chosen_count plan k chosen = reflectors_in (instance_of plan k) chosen

-- What the number x says that a call names.
pub record HopSetMeans (plan : List ℕ) (k x : ℕ) : Type 0 where
  -- "drawn from groups of two or more": each shares its label with another, and is an unlisted reflector of role 1 or 3 with a best client;
  -- the number has a bit for each router in such groups, at most 12
  pub drawn : (w : ℕ) → w < router_count plan → named_set plan k x w ≡ true → SharesLabel (instance_of plan k) w × MayCycle plan k w
  pub below : x < 2 ^ grouped_routers (instance_of plan k)
  pub fits : x < 4096
  -- "makes the plan stable once their roles 1 and 3 become 4 and 5": that plan is not refused, and the verdict call on it says stable
  pub passes : HasList (stepped plan (named_set plan k x)) k
  pub stable : (r : VerdictAnswer) (labels ranks table shown : Lent (List ℕ))
      → VerdictCall (stepped plan (named_set plan k x)) k r labels ranks table shown → verdict_number r ≡ 0 → verdict_is_stable r ≡ true
  -- "No smaller set of reflectors anywhere in the plan may do": whichever routers are chosen, if the verdict call then says stable
  pub least : (chosen : ℕ → Bool) (r : VerdictAnswer) (labels ranks table shown : Lent (List ℕ))
      → VerdictCall (stepped plan chosen) k r labels ranks table shown → verdict_is_stable r ≡ true
      → chosen_count plan k (named_set plan k x) ≤ chosen_count plan k chosen
  -- "among sets of the least size, the lowest number"
  pub lowest : (y : ℕ) → y < 2 ^ grouped_routers (instance_of plan k) → (r : VerdictAnswer) (labels ranks table shown : Lent (List ℕ))
      → VerdictCall (stepped plan (named_set plan k y)) k r labels ranks table shown → verdict_is_stable r ≡ true
      → chosen_count plan k (named_set plan k y) ≡ chosen_count plan k (named_set plan k x) → x ≤ y
  -- "a stable list gives 0", and no other does
  pub stable_list : (r : VerdictAnswer) (labels ranks table shown : Lent (List ℕ)) → VerdictCall plan k r labels ranks table shown
      → verdict_number r ≡ 0 → (x ≡ 0) ↔ (verdict_is_stable r ≡ true)

abbrev pub EveryHopSetMeans : Type 0
EveryHopSetMeans =
    (plan : List ℕ) (k : ℕ) (r : HopSetAnswer) → HopSetCall plan k r → refusal_of r ≡ 0 → HopSetMeans plan k (set_named r)

-- all routers in groups of two or more, however many these are
abbrev pub every_grouped : List ℕ → ℕ → ℕ → Bool
every_grouped plan k w = ltb 0 (grouped_in (instance_of plan k) w)

-- "Some set always serves, and that is to be shown"
abbrev pub EveryListServed : Type 0
EveryListServed =
    (plan : List ℕ) (k : ℕ) → HasList plan k → (r : VerdictAnswer) (labels ranks table shown : Lent (List ℕ))
    → VerdictCall (stepped plan (every_grouped plan k)) k r labels ranks table shown → verdict_number r ≡ 0 → verdict_is_stable r ≡ true
