-- The size of a plan, n and m. Document 01: "n, the number of routers, 1 to 64"; "Kind 4: one byte m, 1 to 64, then m lists".
-- No call of document 01 returns both. This one is refused as a check of the plan is, by the plan's rows.
use Rattle.std.specs.Prelude.{ℕ, List, ◌≡◌}
use Rattle.plan_contents.specs.Header.{router_count}
use Rattle.plan_rules.specs.EgressLists.{list_count}
use Rattle.plan_rules.specs.Refusal.{plan_refusal}
use Rattle.call_query.specs.declared.size.SizeAnswer.{SizeAnswer}
use Rattle.plan_rules.specs.Refused.{field}

unfoldable pub size_routers : List ℕ → ℕ
size_routers plan = field (plan_refusal plan) (router_count plan)

unfoldable pub size_lists : List ℕ → ℕ
size_lists plan = field (plan_refusal plan) (list_count plan)

-- the answer r to what a plan's size is
pub record Sizes (plan : List ℕ) (r : SizeAnswer) : Type 0 where
  pub number : r.refused ≡ plan_refusal plan
  pub routers : r.routers ≡ size_routers plan
  pub lists : r.lists ≡ size_lists plan
