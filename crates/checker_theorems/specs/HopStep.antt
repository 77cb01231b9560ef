-- Document 02, "Reflectors with the hop step": what it promises of a plan's lists, over the plan's bytes, and what the calls answer and
-- write. That "plans that mix roles must settle as promised too" is `EverySeriesSettles`, which asks for no role.
use Rattle.std.specs.Prelude.{ℕ, ◌≤◌, ◌<◌, ◌*◌, ◌≡◌, Bool, true, false, List, ◌++◌, ◌⊎◌, length, get_or, drop}
use Rattle.std.proofs.Math.Option.{some}
use Rattle.base.specs.Lent.{Lent}
use Rattle.base.specs.Tab.{tab}
use Rattle.plan_contents.specs.Header.{router_count}
use Rattle.plan_contents.specs.Contents.{routers_body}
use Rattle.plan_rules.specs.Routers.{role}
use Rattle.plan_rules.specs.EgressLists.{list_count, list_numbers}
use Rattle.plan_rules.specs.Refusal.{plan_refusal}
use Rattle.route_rules.specs.Reliance.{best_client}
use Rattle.route_theorems.specs.HopStep.{with_list}
use Rattle.net_rules.specs.FromPlan.{named, instance_of}
use Rattle.net_verdict.specs.Assessed.{is_stable, highest_of, settled_bytes, cycle_of}
use Rattle.call_rules.specs.Refusals.{buffers_ok, table_checks}
use Rattle.call_verdict.specs.declared.verdict.VerdictAnswer.{VerdictAnswer}
use Rattle.call_verdict.specs.declared.verdict.VerdictAnswer.TheVariants.{Stable, Suspect}
use Rattle.call_verdict.specs.Verdict.{verdict_number, verdict_is_stable, verdict_size, VerdictCall}
use Rattle.checker_theorems.specs.Comparisons.{step_role}
use Rattle.checker_theorems.specs.VerdictMeaning.{Reaches, Shares, rank_in}
use Rattle.checker_theorems.specs.Series.{Call, ForThis, Enough, SettledAfter}
use Rattle.checker_theorems.specs.Nobody.{rounds_in}

-- a plan that is not refused, and one of its lists
pub record HasList (plan : List ℕ) (k : ℕ) : Type 0 where
  pub plan_ok : plan_refusal plan ≡ 0
  pub list_ok : k < list_count plan

-- an unlisted reflector of role 1 or 3 with a best client
pub record MayCycle (plan : List ℕ) (k w : ℕ) : Type 0 where
  pub unlisted : named (list_numbers plan k) w ≡ false
  pub without_step : (role (routers_body plan) w ≡ 1) ⊎ (role (routers_body plan) w ≡ 3)
  pub client : ℕ
  pub best : best_client (instance_of plan k) w ≡ some client

-- What the verdict call writes.
pub record VerdictShowsNoStep (plan : List ℕ) (k : ℕ) (r : VerdictAnswer) (labels shown : Lent (List ℕ)) : Type 0 where
  -- "No ring may contain one": a suspect verdict shows no router of role 4 or 5,
  pub cycled : (count : ℕ) → r ≡ Suspect count → (j : ℕ) → j < count → step_role plan (get_or shown.after j 0) ≡ false
  -- .. but unlisted reflectors of role 1 or 3 with a best client
  pub in_cycle : (count : ℕ) → r ≡ Suspect count → (j : ℕ) → j < count → MayCycle plan k (get_or shown.after j 0)
  -- A router with the step has its own number for a label,
  pub labelled : (w : ℕ) → w < router_count plan → step_role plan w ≡ true → get_or labels.after w 0 ≡ w
  -- .. and whoever has the label of another router is such a reflector too.
  pub same_label : (w v : ℕ) → w < router_count plan → v < router_count plan → (w ≡ v → ⊥)
      → get_or labels.after w 0 ≡ get_or labels.after v 0 → MayCycle plan k w

pub record StepBreaksCycles (plan : List ℕ) (k : ℕ) : Type 0 where
  -- "No ring may contain one": no router of role 4 or 5 relies on itself through a chain of reliances,
  pub no_chain : (w : ℕ) → w < router_count plan → step_role plan w ≡ true → Reaches plan k w w → ⊥
  -- .. none is in the cycle that the verdict shows,
  pub none_shown : is_stable (instance_of plan k) ≡ false → (j : ℕ) → j < length (cycle_of (instance_of plan k))
      → step_role plan (get_or (cycle_of (instance_of plan k)) j 0) ≡ false
  -- .. and none shares its group with another.
  pub alone : (w v : ℕ) → w < router_count plan → v < router_count plan → step_role plan w ≡ true → Shares plan k w v → w ≡ v
  -- Whoever does one of the three is an unlisted reflector of role 1 or 3 with a best client.
  pub who_cycles : (w : ℕ) → w < router_count plan → Reaches plan k w w → MayCycle plan k w
  pub who_is_shown : is_stable (instance_of plan k) ≡ false → (j : ℕ) → j < length (cycle_of (instance_of plan k))
      → MayCycle plan k (get_or (cycle_of (instance_of plan k)) j 0)
  pub who_shares : (w v : ℕ) → w < router_count plan → v < router_count plan → (w ≡ v → ⊥) → Shares plan k w v → MayCycle plan k w
  -- The verdict call writes so.
  pub verdict : (r : VerdictAnswer) (labels ranks table shown : Lent (List ℕ)) → VerdictCall plan k r labels ranks table shown
      → buffers_ok (router_count plan) labels.before ranks.before table.before shown.before ≡ true
      → VerdictShowsNoStep plan k r labels shown

abbrev pub EveryStepBreaksCycles : Type 0
EveryStepBreaksCycles = (plan : List ℕ) (k : ℕ) → HasList plan k → StepBreaksCycles plan k

-- "a plan whose reflectors all have the step": it is not refused, and each role is 2, 4 or 5
pub record AllHaveStep (plan : List ℕ) : Type 0 where
  pub plan_ok : plan_refusal plan ≡ 0
  pub roles : (w : ℕ) → w < router_count plan → (role (routers_body plan) w ≡ 2) ⊎ (step_role plan w ≡ true)

-- What the verdict call answers and writes.
pub record VerdictAtMostThree (plan : List ℕ) (k : ℕ) (r : VerdictAnswer) (labels ranks table shown : Lent (List ℕ)) : Type 0 where
  -- it is not refused, and the list is stable; the highest rank is at most 3
  pub answer : r ≡ Stable (highest_of (instance_of plan k))
  pub number : verdict_number r ≡ 0
  pub stable : verdict_is_stable r ≡ true
  pub size : verdict_size r ≤ 3
  -- each router is alone in its group; ranks are at most 3; the settled table; there is no cycle
  pub labelled : labels.after ≡ tab (λ w. w) (router_count plan) ++ drop (router_count plan) labels.before
  pub ranked : (w : ℕ) → w < router_count plan → get_or ranks.after w 0 ≤ 3
  pub settled : table.after ≡ settled_bytes (instance_of plan k) ++ drop (2 * router_count plan) table.before
  pub cycled : shown.after ≡ shown.before

-- of one of the plan's lists
pub record StableList (plan : List ℕ) (k : ℕ) : Type 0 where
  pub stable : is_stable (instance_of plan k) ≡ true
  pub highest : highest_of (instance_of plan k) ≤ 3
  pub ranks : (w : ℕ) → w < router_count plan → rank_in plan k w ≤ 3
  -- the verdict call says and writes so
  pub verdict : (r : VerdictAnswer) (labels ranks table shown : Lent (List ℕ)) → VerdictCall plan k r labels ranks table shown
      → buffers_ok (router_count plan) labels.before ranks.before table.before shown.before ≡ true
      → VerdictAtMostThree plan k r labels ranks table shown
  -- every series of calls settles, on whatever table a call for this plan and list is not refused for
  pub settles : (start : List ℕ) → table_checks (instance_of plan k) start ≡ 0 → (calls : List Call) → ForThis plan k calls start
      → SettledAfter plan k start calls
  -- .. and five rounds are as many as "the highest rank plus two"
  pub five_rounds : (start : List ℕ) (calls : List Call) → 5 ≤ rounds_in plan start calls → Enough plan k calls start

-- ".. is stable for every list"
pub record StableForEveryList (plan : List ℕ) : Type 0 where
  pub lists : (k : ℕ) → k < list_count plan → StableList plan k
  -- .. and for every other that the plan might have: whichever routers are listed
  pub stable : (listed : ℕ → Bool) → is_stable (with_list (instance_of plan 0) listed) ≡ true
  pub highest : (listed : ℕ → Bool) → highest_of (with_list (instance_of plan 0) listed) ≤ 3

abbrev pub AllHaveStepStable : Type 0
AllHaveStepStable = (plan : List ℕ) → AllHaveStep plan → StableForEveryList plan
