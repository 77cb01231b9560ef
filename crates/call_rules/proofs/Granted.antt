-- What a call that is not refused was handed.
use Prim.Native.Nat.{ℕ, ◌*◌, ◌≤◌, ◌<◌}
use native.Mathlib.Omega.{arith}
use mathlib.Core.Path.{◌≡◌, refl, ◌∙◌, sym, ap}
use mathlib.Core.Bool.{Bool, true, false, ◌&&◌}
use mathlib.Core.List.{List}
use mathlib.Core.Logic.{⊎_elim}
use borrow.Author.Tests.{ltb-true, leb-true}
use lib.ListN.{length}
use Rattle.base.proofs.Below.{all-at}
use Rattle.base.proofs.Numbers.{facts, eq-or-ne, true-or-false}
use Rattle.plan_contents.specs.Header.{router_count}
use Rattle.plan_contents.specs.Contents.{distances_body}
use Rattle.plan_rules.specs.EgressLists.{list_count}
use Rattle.plan_rules.specs.Refusal.{refuse, plan_checks, plan_refusal}
use Rattle.plan_rules.proofs.Cascade.{call-cascade, refuse-passed}
use Rattle.plan_rules.proofs.Passed.{passed}
use Rattle.route_rules.specs.Instance.{Instance}
use Rattle.route_rules.specs.Rounds.{ActsBelow}
use Rattle.net_rules.specs.declared.Network.{Network}
use Rattle.net_rules.specs.Decoded.{decoded}
use Rattle.net_rules.specs.FromPlan.{instance_of}
use Rattle.net_rules.specs.Opened.{Opened}
use Rattle.net_tables.specs.TableBytes.{TableIn}
use Rattle.steady_rules.specs.Steady.{grouped_routers, steady_count}
use Rattle.call_rules.specs.Refusals.{has_list, sequence_ok, asked_checks, few_grouped, egress_list_refusal, compare_refusal, relies_refusal, router_refusal, sequence_refusal, buffers_ok, verdict_refusal, steady_refusal, hop_set_refusal, grade_refusal, table_checks, counts_ok, figures_refusal, every_list_refusal}
use Rattle.call_rules.specs.InOrder.{InOrder}
use Rattle.call_rules.proofs.InOrder.{asked-in-order, list-in-order, compare-in-order, relies-in-order, verdict-in-order, steady-in-order, hop-set-in-order, grade-in-order, figures-in-order, every-list-in-order}

pub few-routers : (plan : List ℕ) → plan_refusal plan ≡ 0 → router_count plan ≤ 64
few-routers plan h = (passed plan h).count.most

module _ (plan : List ℕ) (ok : Bool) where
  -- a call that is refused by row 8 or before has that number, whatever its other checks
  pub asked-refused : (rest asked : ℕ) → asked ≡ asked_checks plan ok 0 → (asked ≡ 0 → ⊥) → asked ≡ asked_checks plan ok rest
  asked-refused rest asked e ne = e ∙ sym ((call-cascade plan ok).refused (λ z. ne (e ∙ z)) rest)

  -- .. and one that is not has theirs
  pub asked-passed : (rest : ℕ) → asked_checks plan ok 0 ≡ 0 → rest ≡ asked_checks plan ok rest
  asked-passed rest e = sym ((call-cascade plan ok).passed e rest)

  -- one condition x of row 8 after others
  more : (x : Bool) → asked_checks plan ok (refuse x 8 0) ≡ asked_checks plan (ok && x) 0
  unfolding refuse
  more x = ap (plan_checks plan) (both ok)
    where
      both : (b : Bool) → refuse b 8 (refuse x 8 0) ≡ refuse (b && x) 8 0
      both true = refl
      both false = refl

  pub more-refused : (x : Bool) (asked : ℕ) → asked ≡ asked_checks plan ok 0 → (asked ≡ 0 → ⊥) → asked ≡ asked_checks plan (ok && x) 0
  more-refused x asked e ne = asked-refused (refuse x 8 0) asked e ne ∙ more x

  pub more-passed : {x : Bool} (b : Bool) → x ≡ b → asked_checks plan ok 0 ≡ 0 → refuse b 8 0 ≡ asked_checks plan (ok && x) 0
  more-passed {x} b h z = ap (λ y. refuse y 8 0) (sym h) ∙ asked-passed (refuse x 8 0) z ∙ more x

-- a call that is not refused passes every row
record Granted (plan : List ℕ) (ok few long : Bool) : Type 0 where
  plan_ok : plan_refusal plan ≡ 0
  call_ok : ok ≡ true
  few_ok : few ≡ true
  long_ok : long ≡ true

granted : {plan : List ℕ} {ok few long rule : Bool} {number : ℕ} → InOrder plan ok few long rule number → number ≡ 0
    → Granted plan ok few long
granted {plan} {ok} {few} {long} r z = record { plan_ok = p; call_ok = a; few_ok = f; long_ok = b }
  where
    p : plan_refusal plan ≡ 0
    p = ⊎_elim (λ e. e) (λ ne. sym (r.plan-rows ne) ∙ z) (eq-or-ne (plan_refusal plan) 0)

    a : ok ≡ true
    a = ⊎_elim (λ e. e) (λ (e : ok ≡ false). absurd (omega (arith, r.row-8 p e))) (true-or-false ok)

    f : few ≡ true
    f = ⊎_elim (λ e. e) (λ (e : few ≡ false). absurd (omega (arith, r.row-15 p a e))) (true-or-false few)

    b : long ≡ true
    b = ⊎_elim (λ e. e) (λ (e : long ≡ false). absurd (omega (arith, r.row-9 p a f e))) (true-or-false long)

pub record ListAsked (plan : List ℕ) (k : ℕ) : Type 0 where
  pub plan_ok : plan_refusal plan ≡ 0
  pub list : k < list_count plan

pub list-asked : (plan : List ℕ) (k : ℕ) → egress_list_refusal plan k ≡ 0 → ListAsked plan k
list-asked plan k h =
    let g = granted (list-in-order plan k) h in
    record { plan_ok = g.plan_ok; list = ltb-true _ _ g.call_ok }

pub record CompareAsked (plan : List ℕ) (w e f : ℕ) : Type 0 where
  pub plan_ok : plan_refusal plan ≡ 0
  pub router : w < router_count plan
  pub first : e < router_count plan
  pub second : f < router_count plan

pub compare-asked : (plan : List ℕ) (w e f : ℕ) → compare_refusal plan w e f ≡ 0 → CompareAsked plan w e f
compare-asked plan w e f h =
    let g = granted (compare-in-order plan w e f) h in
    let q : ((w < router_count plan) × (e < router_count plan)) × (f < router_count plan) = simp facts at g.call_ok in
    record { plan_ok = g.plan_ok; router = q.0.0; first = q.0.1; second = q.1 }

pub record RouterAsked (plan : List ℕ) (k w : ℕ) : Type 0 where
  pub plan_ok : plan_refusal plan ≡ 0
  pub list : k < list_count plan
  pub router : w < router_count plan

pub router-asked : (plan : List ℕ) (k w : ℕ) → router_refusal plan k w ≡ 0 → RouterAsked plan k w
router-asked plan k w h =
    let g = granted (asked-in-order plan _) h in
    let q : (k < list_count plan) × (w < router_count plan) = simp facts at g.call_ok in
    record { plan_ok = g.plan_ok; list = q.0; router = q.1 }

pub record ReliesAsked (plan : List ℕ) (k w v : ℕ) : Type 0 where
  pub plan_ok : plan_refusal plan ≡ 0
  pub list : k < list_count plan
  pub router : w < router_count plan
  pub other : v < router_count plan

pub relies-asked : (plan : List ℕ) (k w v : ℕ) → relies_refusal plan k w v ≡ 0 → ReliesAsked plan k w v
relies-asked plan k w v h =
    let g = granted (relies-in-order plan k w v) h in
    let q : ((k < list_count plan) × (w < router_count plan)) × (v < router_count plan) = simp facts at g.call_ok in
    record { plan_ok = g.plan_ok; list = q.0.0; router = q.0.1; other = q.1 }

pub record SequenceAsked (plan : List ℕ) (k : ℕ) (acts : List ℕ) : Type 0 where
  pub plan_ok : plan_refusal plan ≡ 0
  pub list : k < list_count plan
  pub routers : ActsBelow (router_count plan) acts
  pub some : 0 < router_count plan

pub sequence-asked : (plan : List ℕ) (k : ℕ) (acts : List ℕ) → sequence_refusal plan k acts ≡ 0 → SequenceAsked plan k acts
unfolding sequence_ok
sequence-asked plan k acts h =
    let g = granted (asked-in-order plan _) h in
    let q : (k < list_count plan) × (sequence_ok acts (router_count plan) ≡ true) = simp facts at g.call_ok in
    record {
      plan_ok = g.plan_ok;
      list = q.0;
      routers = λ i l. ltb-true _ _ (all-at _ _ q.1 i l);
      some = (passed plan g.plan_ok).count.some;
    }

pub record VerdictAsked (plan : List ℕ) (k : ℕ) (labels ranks table cycle : List ℕ) : Type 0 where
  pub plan_ok : plan_refusal plan ≡ 0
  pub list : k < list_count plan
  pub labels_long : router_count plan ≤ length labels
  pub ranks_long : router_count plan ≤ length ranks
  pub table_long : 2 * router_count plan ≤ length table
  pub cycle_long : router_count plan ≤ length cycle

pub verdict-asked : (plan : List ℕ) (k : ℕ) (labels ranks table cycle : List ℕ) → verdict_refusal plan k labels ranks table cycle ≡ 0
    → VerdictAsked plan k labels ranks table cycle
unfolding buffers_ok
verdict-asked plan k labels ranks table cycle h =
    let g = granted (verdict-in-order plan k labels ranks table cycle) h in
    let n = router_count plan in
    let q : (((n ≤ length labels) × (n ≤ length ranks)) × (2 * n ≤ length table)) × (n ≤ length cycle)
    = simp facts at g.long_ok in
    record {
      plan_ok = g.plan_ok;
      list = ltb-true _ _ g.call_ok;
      labels_long = q.0.0.0;
      ranks_long = q.0.0.1;
      table_long = q.0.1;
      cycle_long = q.1;
    }

pub record SteadyAsked (plan : List ℕ) (k : ℕ) (out : List ℕ) : Type 0 where
  pub plan_ok : plan_refusal plan ≡ 0
  pub list : k < list_count plan
  pub few : grouped_routers (instance_of plan k) ≤ 12
  pub long : 2 * steady_count (instance_of plan k) ≤ length out

pub steady-asked : (plan : List ℕ) (k : ℕ) (out : List ℕ) → steady_refusal plan k out ≡ 0 → SteadyAsked plan k out
steady-asked plan k out h =
    let g = granted (steady-in-order plan k out) h in
    record { plan_ok = g.plan_ok; list = ltb-true _ _ g.call_ok; few = leb-true _ _ g.few_ok; long = leb-true _ _ g.long_ok }

-- the call that names a set of routers, and the one that grades a list
pub record GroupsAsked (plan : List ℕ) (k : ℕ) : Type 0 where
  pub plan_ok : plan_refusal plan ≡ 0
  pub list : k < list_count plan
  pub few : grouped_routers (instance_of plan k) ≤ 12

groups-asked : (plan : List ℕ) (k number : ℕ)
    → InOrder plan (has_list plan k) (few_grouped (instance_of plan k)) true true number → number ≡ 0 → GroupsAsked plan k
groups-asked plan k number o h =
    let g = granted o h in
    record { plan_ok = g.plan_ok; list = ltb-true _ _ g.call_ok; few = leb-true _ _ g.few_ok }

pub hop-set-asked : (plan : List ℕ) (k : ℕ) → hop_set_refusal plan k ≡ 0 → GroupsAsked plan k
hop-set-asked plan k h = groups-asked plan k _ (hop-set-in-order plan k) h

pub grade-asked : (plan : List ℕ) (k : ℕ) → grade_refusal plan k ≡ 0 → GroupsAsked plan k
grade-asked plan k h = groups-asked plan k _ (grade-in-order plan k) h

pub record FiguresAsked (plan ranks routers : List ℕ) : Type 0 where
  pub plan_ok : plan_refusal plan ≡ 0
  pub ranks_long : router_count plan ≤ length ranks
  pub routers_long : router_count plan ≤ length routers

pub figures-asked : (plan ranks routers : List ℕ) → figures_refusal plan ranks routers ≡ 0 → FiguresAsked plan ranks routers
unfolding counts_ok
figures-asked plan ranks routers h =
    let g = granted (figures-in-order plan ranks routers) h in
    let q : (router_count plan ≤ length ranks) × (router_count plan ≤ length routers) = simp facts at g.long_ok in
    record { plan_ok = g.plan_ok; ranks_long = q.0; routers_long = q.1 }

pub record EveryListAsked (plan list : List ℕ) : Type 0 where
  pub plan_ok : plan_refusal plan ≡ 0
  pub long : router_count plan ≤ length list

pub every-list-asked : (plan list : List ℕ) → every_list_refusal plan list ≡ 0 → EveryListAsked plan list
every-list-asked plan list h =
    let g = granted (every-list-in-order plan list) h in
    record { plan_ok = g.plan_ok; long = leb-true _ _ g.long_ok }

pub table-asked : (I : Instance) (table : List ℕ) → table_checks I table ≡ 0 → TableIn I table
unfolding table_checks
table-asked I table h =
    let long = refuse-passed _ 8 _ h in
    record { long = leb-true _ _ long.0; rule = (refuse-passed _ 9 0 long.1).0 }

-- rows 9 and 10, found over the network of a plan opened with the list, are the call's
pub table-number : {plan : List ℕ} {k : ℕ} {net : Network} {rows : List ℕ} {r : ℕ} (ok : Bool) (table : List ℕ)
    → Opened plan k net rows (distances_body plan) → ((distances : List ℕ) → r ≡ table_checks (decoded net rows distances) table)
    → asked_checks plan ok 0 ≡ 0 → r ≡ asked_checks plan ok (table_checks (instance_of plan k) table)
table-number {plan} ok table o found given =
    found (distances_body plan) ∙ ap (λ I. table_checks I table) o.same ∙ asked-passed plan ok _ given
