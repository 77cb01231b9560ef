-- A stable list: its ranks obey their rule, and what the verdict call answers and writes.
use Prim.Native.Nat.{ℕ, suc, ◌*◌, ◌<◌}
use mathlib.Core.Path.{◌≡◌, refl, ◌∙◌, ap}
use mathlib.Core.Bool.{Bool, true, false, cond}
use mathlib.Core.List.{List, ◌++◌}
use borrow.Author.Tests.{lt-ltb, eqb-true}
use lib.ListN.{drop}
use Rattle.base.specs.Lent.{Lent}
use Rattle.base.specs.Seek.{flag}
use Rattle.base.specs.Tab.{tab}
use Rattle.base.proofs.Below.{all-at}
use Rattle.base.proofs.Seek.{highest-cong}
use Rattle.base.proofs.Tab.{tab-cong}
use Rattle.plan_contents.specs.Header.{router_count}
use Rattle.plan_rules.specs.EgressLists.{list_count}
use Rattle.plan_rules.specs.Refusal.{plan_refusal}
use Rattle.plan_rules.proofs.Cascade.{refuse-true, plan-passes}
use Rattle.plan_rules.proofs.Refused.{when-given}
use Rattle.graph_groups.specs.Groups.{stable}
use Rattle.graph_ranks.specs.Rank.{rank_above, rank_over, rank}
use Rattle.graph_ranks.proofs.RankRule.{rank-rule}
use Rattle.route_rules.specs.Instance.{Instance}
use Rattle.route_rules.specs.Reliance.{relies, reliance}
use Rattle.route_theorems.specs.Nobody.{RankRule}
use Rattle.net_rules.specs.FromPlan.{instance_of}
use Rattle.net_verdict.specs.Assessed.{is_stable, highest_of, settled_bytes, labels_of, ranks_of, found, labels_left, ranks_left, table_left, cycle_left}
use Rattle.call_rules.specs.Refusals.{buffers_ok, verdict_refusal}
use Rattle.call_verdict.specs.declared.verdict.VerdictAnswer.{VerdictAnswer}
use Rattle.call_verdict.specs.declared.verdict.VerdictAnswer.TheVariants.{Stable}
use Rattle.call_verdict.specs.Verdict.{verdict_answer, labels_after, ranks_after, table_after, cycle_after, VerdictCall}
use Rattle.checker_theorems.specs.VerdictMeaning.{label_in, rank_in}
use Rattle.checker_theorems.proofs.VerdictMeaning.{acyclic}

-- one more than a rank, as the rule of ranks has it
above-is : (b : Bool) (r : ℕ) → rank_above (flag b) r ≡ cond b (suc r) 0
above-is true r = refl
above-is false r = refl

pub stable-ranks : (I : Instance) → is_stable I ≡ true → RankRule I (rank (reliance I) I.n)
unfolding rank_over
stable-ranks I s w l =
    rank-rule (reliance I) I.n (acyclic I s) w l
    ∙ highest-cong _ _ I.n (λ v m. above-is (relies I w v) (rank (reliance I) I.n v))

-- the verdict call on one of the lists of a plan that is not refused, with room for what it writes
pub no-refusal : (plan : List ℕ) (k : ℕ) → plan_refusal plan ≡ 0 → k < list_count plan → (labels ranks table shown : List ℕ)
    → buffers_ok (router_count plan) labels ranks table shown ≡ true → verdict_refusal plan k labels ranks table shown ≡ 0
unfolding verdict_refusal
no-refusal plan k plan_ok list_ok labels ranks table shown room =
    plan-passes plan _ plan_ok ∙ refuse-true _ 8 _ (lt-ltb k _ list_ok) ∙ refuse-true _ 9 0 room

-- the answer, and each buffer after
pub record StableVerdict (plan : List ℕ) (k : ℕ) (r : VerdictAnswer) (labels ranks table shown : Lent (List ℕ)) : Type 0 where
  pub answer : r ≡ Stable (highest_of (instance_of plan k))
  pub labelled : labels.after ≡ tab (λ w. w) (router_count plan) ++ drop (router_count plan) labels.before
  pub ranked : ranks.after ≡ tab (rank_in plan k) (router_count plan) ++ drop (router_count plan) ranks.before
  pub settled : table.after ≡ settled_bytes (instance_of plan k) ++ drop (2 * router_count plan) table.before
  pub cycled : shown.after ≡ shown.before

own-label : (plan : List ℕ) (k : ℕ) → is_stable (instance_of plan k) ≡ true → (w : ℕ) → w < router_count plan → label_in plan k w ≡ w
unfolding is_stable stable
own-label plan k s w l = eqb-true _ w (all-at _ (router_count plan) s w l)

pub stable-verdict : (plan : List ℕ) (k : ℕ) (r : VerdictAnswer) (labels ranks table shown : Lent (List ℕ))
    → VerdictCall plan k r labels ranks table shown
    → verdict_refusal plan k labels.before ranks.before table.before shown.before ≡ 0
    → is_stable (instance_of plan k) ≡ true → StableVerdict plan k r labels ranks table shown
unfolding verdict_answer found labels_after ranks_after table_after cycle_after labels_left ranks_left table_left cycle_left labels_of ranks_of
stable-verdict plan k r labels ranks table shown call given s =
    record {
      answer = call.answer ∙ when-given _ _ _ given ∙ rw s;
      labelled =
          call.labelled ∙ when-given _ _ _ given
          ∙ ap (λ t. t ++ drop (router_count plan) labels.before) (tab-cong _ _ (router_count plan) (own-label plan k s));
      ranked = call.ranked ∙ when-given _ _ _ given ∙ rw s;
      settled = call.settled ∙ when-given _ _ _ given ∙ rw s;
      cycled = call.cycled ∙ when-given _ _ _ given ∙ rw s;
    }
