-- Every call's refusal is the number of the first row that fails.
use Prim.Native.Nat.{ℕ}
use mathlib.Core.Bool.{Bool, true, ◌&&◌}
use mathlib.Core.List.{List}
use Rattle.plan_contents.specs.Header.{router_count}
use Rattle.plan_rules.specs.Refusal.{refuse}
use Rattle.plan_rules.proofs.Cascade.{plan-passes, plan-refused}
use Rattle.route_rules.specs.Instance.{Instance}
use Rattle.net_rules.specs.FromPlan.{instance_of}
use Rattle.net_tables.specs.TableBytes.{table_rule}
use Rattle.call_rules.specs.Refusals.{has_list, has_router, sequence_ok, asked_checks, egress_list_refusal, compare_refusal, relies_refusal, buffers_ok, verdict_refusal, few_grouped, numbers_long, steady_checks, steady_refusal, hop_set_refusal, grade_refusal, table_long, table_checks, activate_refusal, run_refusal, counts_ok, figures_refusal, list_long, every_list_refusal}
use Rattle.call_rules.specs.InOrder.{InOrder}

in_order : (plan : List ℕ) (ok few long rule : Bool)
    → InOrder plan ok few long rule (asked_checks plan ok (refuse few 15 (refuse long 9 (refuse rule 10 0))))
unfolding refuse
in_order plan ok few long rule =
    record {
      plan-rows = plan-refused plan _;
      row-8 = λ p a. rw (plan-passes plan _ p, a);
      row-15 = λ p a f. rw (plan-passes plan _ p, a, f);
      row-9 = λ p a f b. rw (plan-passes plan _ p, a, f, b);
      row-10 = λ p a f b c. rw (plan-passes plan _ p, a, f, b, c);
      none = λ p a f b c. rw (plan-passes plan _ p, a, f, b, c);
    }

module _ (plan : List ℕ) where
  -- rows up to 8 alone
  pub asked-in-order : (ok : Bool) → InOrder plan ok true true true (asked_checks plan ok 0)
  unfolding refuse
  asked-in-order ok = in_order plan ok true true true

  pub list-in-order : (k : ℕ) → InOrder plan (has_list plan k) true true true (egress_list_refusal plan k)
  unfolding egress_list_refusal refuse
  list-in-order k = in_order plan _ true true true

  pub compare-in-order : (w e f : ℕ) → InOrder plan (has_router plan w && has_router plan e && has_router plan f) true true true (compare_refusal plan w e f)
  unfolding compare_refusal refuse
  compare-in-order w e f = in_order plan _ true true true

  pub relies-in-order : (k w v : ℕ) → InOrder plan (has_list plan k && has_router plan w && has_router plan v) true true true (relies_refusal plan k w v)
  unfolding relies_refusal refuse
  relies-in-order k w v = in_order plan _ true true true

  pub verdict-in-order : (k : ℕ) (labels ranks table cycle : List ℕ)
      → InOrder plan (has_list plan k) true (buffers_ok (router_count plan) labels ranks table cycle) true (verdict_refusal plan k labels ranks table cycle)
  unfolding verdict_refusal refuse
  verdict-in-order k labels ranks table cycle = in_order plan _ true _ true

  pub steady-in-order : (k : ℕ) (out : List ℕ)
      → InOrder plan (has_list plan k) (few_grouped (instance_of plan k)) (numbers_long (instance_of plan k) out) true (steady_refusal plan k out)
  unfolding steady_refusal steady_checks refuse
  steady-in-order k out = in_order plan _ _ _ true

  pub hop-set-in-order : (k : ℕ) → InOrder plan (has_list plan k) (few_grouped (instance_of plan k)) true true (hop_set_refusal plan k)
  unfolding hop_set_refusal refuse
  hop-set-in-order k = in_order plan _ _ true true

  pub grade-in-order : (k : ℕ) → InOrder plan (has_list plan k) (few_grouped (instance_of plan k)) true true (grade_refusal plan k)
  unfolding grade_refusal refuse
  grade-in-order k = in_order plan _ _ true true

  pub figures-in-order : (ranks routers : List ℕ)
      → InOrder plan true true (counts_ok (router_count plan) ranks routers) true (figures_refusal plan ranks routers)
  unfolding figures_refusal refuse
  figures-in-order ranks routers = in_order plan true true _ true

  pub every-list-in-order : (list : List ℕ) → InOrder plan true true (list_long plan list) true (every_list_refusal plan list)
  unfolding every_list_refusal refuse
  every-list-in-order list = in_order plan true true _ true

  -- the two calls on a table
  module _ (k : ℕ) (table : List ℕ) where
    abbrev I : Instance
    I = instance_of plan k

    pub activate-in-order : (w : ℕ)
        → InOrder plan (has_list plan k && has_router plan w) true (table_long I table) (table_rule I table) (activate_refusal plan k w table)
    unfolding activate_refusal table_checks refuse
    activate-in-order w = in_order plan _ true _ _

    pub run-in-order : (acts : List ℕ)
        → InOrder plan (has_list plan k && sequence_ok acts (router_count plan)) true (table_long I table) (table_rule I table) (run_refusal plan k acts table)
    unfolding run_refusal table_checks refuse
    run-in-order acts = in_order plan _ true _ _
