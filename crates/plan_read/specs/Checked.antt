-- What a check of a plan hands on to those that read the plan after it.
use Rattle.std.specs.Prelude.{ℕ, List, ◌≡◌}
use Rattle.plan_contents.specs.Header.{width, router_count}
use Rattle.plan_contents.specs.Contents.{contents_of}
use Rattle.plan_rules.specs.EgressLists.{list_count}
use Rattle.plan_rules.specs.Refusal.{plan_refusal}
use Rattle.plan_read.specs.declared.refusal.CheckedPlan.{CheckedPlan}

-- the plan is not refused, and what is handed on is its own
pub record Accepted (plan : List ℕ) (checked : CheckedPlan) : Type 0 where
  pub ok : plan_refusal plan ≡ 0
  pub routers : checked.n ≡ router_count plan
  pub lists : checked.m ≡ list_count plan
  pub bytes : checked.width ≡ width plan
  pub contents : checked.table ≡ contents_of plan

-- the plan's refusal number; beside 0, that
pub record Checked (plan : List ℕ) (checked : CheckedPlan) : Type 0 where
  pub number : checked.refused ≡ plan_refusal plan
  pub accepted : plan_refusal plan ≡ 0 → Accepted plan checked
