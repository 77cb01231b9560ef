-- Every call's refusal is given exactly if the row of that number is the first that fails.
use Prim.Native.Nat.{ℕ, ◌*◌, ◌≤◌, ◌<◌}
use native.Mathlib.Omega.{arith}
use mathlib.Core.Path.{◌≡◌, refl, ◌∙◌, sym, ap}
use mathlib.Core.Bool.{Bool, true, false, ◌&&◌}
use mathlib.Core.List.{List}
use mathlib.Core.Logic.{◌⊎◌, inl, inr, ⊎_elim}
use lib.Dec.{leb}
use lib.ListN.{length}
use borrow.Author.Tests.{ltb-true, lt-ltb, leb-true, le-leb, eqb-true, eq-eqb}
use Rattle.base.proofs.Below.{all-at, all-intro}
use Rattle.base.proofs.Numbers.{facts, eq-or-ne, lt-or-le, true-or-false, both, not-both}
use Rattle.plan_contents.specs.Header.{router_count}
use Rattle.plan_rules.specs.EgressLists.{list_count}
use Rattle.plan_rules.specs.Refusal.{plan_refusal}
use Rattle.plan_rules.specs.Passed.{Passed}
use Rattle.plan_rules.proofs.Passed.{passed, accepted, refusal-numbers}
use Rattle.route_rules.specs.Instance.{Instance}
use Rattle.route_rules.specs.Rounds.{ActsBelow}
use Rattle.route_rules.specs.Activation.{entry_ok, table_ok, held}
use Rattle.net_rules.specs.FromPlan.{instance_of}
use Rattle.net_tables.specs.TableBytes.{read_route, table_of, table_rule}
use Rattle.steady_rules.specs.Steady.{grouped_routers, steady_count}
use Rattle.net_tables.proofs.TableBytes.{entry_other, entry-itself, entry-none, entry-far, entry-near, table-held}
use Rattle.call_rules.specs.Refusals.{has_list, has_router, sequence_ok, buffers_ok, few_grouped, numbers_long, counts_ok, list_long}
use Rattle.call_rules.specs.InOrder.{InOrder}
use Rattle.call_rules.specs.RowsExactly.{RowsExactly, BuffersLong, egress_at, sender_at, TableFacts, CallRows}
use Rattle.call_rules.proofs.InOrder.{list-in-order, compare-in-order, relies-in-order, verdict-in-order, steady-in-order, hop-set-in-order, grade-in-order, activate-in-order, run-in-order, figures-in-order, every-list-in-order}

-- no row of a plan's own has the number of a call's
plan-no-call : (plan : List ℕ) → 8 ≤ plan_refusal plan → (plan_refusal plan ≡ 13 → ⊥) → ⊥
plan-no-call plan a b =
    ⊎_elim (λ (h : plan_refusal plan ≤ 7). omega arith) (λ (h : plan_refusal plan ≡ 13). b h) (refusal-numbers plan)

-- a test that is passed exactly if its facts hold
pub record Tested (facts : Type 0) (test : Bool) : Type 0 where
  pub shown : test ≡ true → facts
  pub holds : facts → test ≡ true

failed : {facts : Type 0} {test : Bool} → Tested facts test → test ≡ false → facts → ⊥
failed {test = test} t h f = not-both test (t.holds f) h

fails : {facts : Type 0} {test : Bool} → Tested facts test → (facts → ⊥) → test ≡ false
fails {test = test} t h = ⊎_elim (λ (e : test ≡ true). absurd (h (t.shown e))) (λ e. e) (true-or-false test)

module _ (plan : List ℕ) (ok few long rule : Bool) (number : ℕ) (order : InOrder plan ok few long rule number) where
  -- what decided: the plan, one of the four rows, or none
  by_cases : {A : Type 0} → ((plan_refusal plan ≡ 0 → ⊥) → number ≡ plan_refusal plan → A)
      → (plan_refusal plan ≡ 0 → ok ≡ false → number ≡ 8 → A)
      → (plan_refusal plan ≡ 0 → ok ≡ true → few ≡ false → number ≡ 15 → A)
      → (plan_refusal plan ≡ 0 → ok ≡ true → few ≡ true → long ≡ false → number ≡ 9 → A)
      → (plan_refusal plan ≡ 0 → ok ≡ true → few ≡ true → long ≡ true → rule ≡ false → number ≡ 10 → A)
      → (plan_refusal plan ≡ 0 → ok ≡ true → few ≡ true → long ≡ true → rule ≡ true → number ≡ 0 → A)
      → A
  by_cases {A} plan-row row-8 row-15 row-9 row-10 none =
      ⊎_elim
      (λ (p : plan_refusal plan ≡ 0).
      ⊎_elim
      (λ (a : ok ≡ true).
      ⊎_elim
      (λ (f : few ≡ true).
      ⊎_elim
      (λ (b : long ≡ true).
      ⊎_elim (λ (c : rule ≡ true). none p a f b c (order.none p a f b c))
      (λ (c : rule ≡ false). row-10 p a f b c (order.row-10 p a f b c)) (true-or-false rule))
      (λ (b : long ≡ false). row-9 p a f b (order.row-9 p a f b))
      (true-or-false long))
      (λ (f : few ≡ false). row-15 p a f (order.row-15 p a f))
      (true-or-false few))
      (λ (a : ok ≡ false). row-8 p a (order.row-8 p a))
      (true-or-false ok))
      (λ (ne : plan_refusal plan ≡ 0 → ⊥). plan-row ne (order.plan-rows ne))
      (eq-or-ne (plan_refusal plan) 0)

  module _ {Asked Few Long Rule : Type 0} (asked : Tested Asked ok) (fewer : Tested Few few) (enough : Tested Long long)
      (obeyed : plan_refusal plan ≡ 0 → Tested Rule rule) where
    eight : number ≡ 8 → Passed plan × (Asked → ⊥)
    eight h =
        by_cases (λ ne e. absurd (plan-no-call plan (omega (arith, h, e)) (λ z. omega (arith, h, e, z)))) (λ p a e. (passed plan p, failed asked a))
        (λ p a f e. absurd (omega (arith, h, e))) (λ p a f b e. absurd (omega (arith, h, e))) (λ p a f b c e. absurd (omega (arith, h, e)))
        (λ p a f b c e. absurd (omega (arith, h, e)))

    fifteen : number ≡ 15 → Passed plan × Asked × (Few → ⊥)
    fifteen h =
        by_cases (λ ne e. absurd (plan-no-call plan (omega (arith, h, e)) (λ z. omega (arith, h, e, z)))) (λ p a e. absurd (omega (arith, h, e)))
        (λ p a f e. (passed plan p, asked.shown a, failed fewer f)) (λ p a f b e. absurd (omega (arith, h, e)))
        (λ p a f b c e. absurd (omega (arith, h, e))) (λ p a f b c e. absurd (omega (arith, h, e)))

    nine : number ≡ 9 → Passed plan × Asked × Few × (Long → ⊥)
    nine h =
        by_cases (λ ne e. absurd (plan-no-call plan (omega (arith, h, e)) (λ z. omega (arith, h, e, z)))) (λ p a e. absurd (omega (arith, h, e)))
        (λ p a f e. absurd (omega (arith, h, e))) (λ p a f b e. (passed plan p, asked.shown a, fewer.shown f, failed enough b))
        (λ p a f b c e. absurd (omega (arith, h, e))) (λ p a f b c e. absurd (omega (arith, h, e)))

    ten : number ≡ 10 → Passed plan × Asked × Few × Long × (Rule → ⊥)
    ten h =
        by_cases (λ ne e. absurd (plan-no-call plan (omega (arith, h, e)) (λ z. omega (arith, h, e, z)))) (λ p a e. absurd (omega (arith, h, e)))
        (λ p a f e. absurd (omega (arith, h, e))) (λ p a f b e. absurd (omega (arith, h, e)))
        (λ p a f b c e. (passed plan p, asked.shown a, fewer.shown f, enough.shown b, failed (obeyed p) c))
        (λ p a f b c e. absurd (omega (arith, h, e)))

    none : number ≡ 0 → Passed plan × Asked × Few × Long × Rule
    none h =
        by_cases (λ ne e. absurd (ne (sym e ∙ h))) (λ p a e. absurd (omega (arith, h, e))) (λ p a f e. absurd (omega (arith, h, e)))
        (λ p a f b e. absurd (omega (arith, h, e))) (λ p a f b c e. absurd (omega (arith, h, e)))
        (λ p a f b c e. (passed plan p, asked.shown a, fewer.shown f, enough.shown b, (obeyed p).shown c))

    exactly : RowsExactly plan Asked Few Long Rule number
    exactly =
        record {
          plan_rows = λ ne. order.plan-rows (λ z. ne (passed plan z));
          eight = (eight, λ h. order.row-8 (accepted plan h.0) (fails asked h.1));
          fifteen = (fifteen, λ h. order.row-15 (accepted plan h.0) (asked.holds h.1) (fails fewer h.2));
          nine = (nine, λ h. order.row-9 (accepted plan h.0) (asked.holds h.1) (fewer.holds h.2) (fails enough h.3));
          ten = (
            ten,
            λ h.
                let p = accepted plan h.0 in
                order.row-10 p (asked.holds h.1) (fewer.holds h.2) (enough.holds h.3) (fails (obeyed p) h.4),
          );
          none = (
            none,
            λ h.
                let p = accepted plan h.0 in
                order.none p (asked.holds h.1) (fewer.holds h.2) (enough.holds h.3) ((obeyed p).holds h.4),
          );
        }

-- a row that does not stand for a call
unasked : Tested Unit true
unasked = record { shown = λ _. tt; holds = λ _. refl }

-- the rule of a table, entry by entry, in plain facts
module _ (I : Instance) (few : I.n ≤ 64) (table : List ℕ) where
  -- the entry of v obeys its rule
  abbrev EntryOk : ℕ → Type 0
  EntryOk v = entry_ok I v (read_route (egress_at table v) (sender_at table v)) ≡ true

  module _ (v : ℕ) (below : v < I.n) where
    listed-shown : I.listed v ≡ true → EntryOk v → (egress_at table v ≡ v) × (sender_at table v ≡ v)
    listed-shown l h = go (eq-or-ne (egress_at table v) v)
      where
        go : (egress_at table v ≡ v) ⊎ (egress_at table v ≡ v → ⊥) → (egress_at table v ≡ v) × (sender_at table v ≡ v)
        go (inl e) = (e, eqb-true _ v (sym (entry-itself I v _ _ l (omega arith) e) ∙ h))
        go (inr d) = not-both _ h (entry_other I v _ _ l (omega arith) d)

    abbrev Unlisted : Type 0
    Unlisted =
        ((egress_at table v ≡ 255) × (sender_at table v ≡ 255)) ⊎ ((egress_at table v < I.n) × (I.neighbour v (sender_at table v) ≡ true))

    unlisted-shown : I.listed v ≡ false → EntryOk v → Unlisted
    unlisted-shown u h = go (eq-or-ne (egress_at table v) 255) (lt-or-le (egress_at table v) I.n)
      where
        go : (egress_at table v ≡ 255) ⊎ (egress_at table v ≡ 255 → ⊥) → (egress_at table v < I.n) ⊎ (I.n ≤ egress_at table v) → Unlisted
        go (inl e) m = inl (e, eqb-true _ 255 (sym (entry-none I v _ _ u few e) ∙ h))
        go (inr d) (inl m) = inr (m, sym (entry-near I v _ _ u d m) ∙ h)
        go (inr d) (inr m) = not-both _ h (entry-far I v _ _ u d m)

    entry-holds : TableFacts I table → EntryOk v
    entry-holds f = go (I.listed v) refl
      where
        other : I.listed v ≡ false → Unlisted → EntryOk v
        other u (inl e) = entry-none I v _ _ u few e.0 ∙ eq-eqb _ 255 e.1
        other u (inr e) = entry-near I v _ _ u (omega (arith, e.0)) e.0 ∙ e.1

        go : (b : Bool) → I.listed v ≡ b → EntryOk v
        go true l = let e = f.listed v below l in entry-itself I v _ _ l (omega arith) e.0 ∙ eq-eqb _ v e.1
        go false u = other u (f.unlisted v below u)

  held-entry : (v : ℕ) → v < I.n → held (table_of table I.n) v ≡ read_route (egress_at table v) (sender_at table v)
  held-entry v l = table-held table I.n v l

  entry_of : table_rule I table ≡ true → (v : ℕ) → v < I.n → EntryOk v
  unfolding table_ok
  entry_of h v l = sym (ap (entry_ok I v) (held-entry v l)) ∙ all-at _ I.n h v l

  pub table-tested : Tested (TableFacts I table) (table_rule I table)
  unfolding table_ok
  table-tested =
      record {
        shown = λ h.
            record { listed = λ v l a. listed-shown v l a (entry_of h v l); unlisted = λ v l a. unlisted-shown v l a (entry_of h v l) };
        holds = λ f. all-intro _ I.n (λ v l. ap (entry_ok I v) (held-entry v l) ∙ entry-holds v l f);
      }

-- what each row asks for
module _ (plan : List ℕ) where
  abbrev m : ℕ
  m = list_count plan

  abbrev n : ℕ
  n = router_count plan

  list-tested : (k : ℕ) → Tested (k < m) (has_list plan k)
  list-tested k = record { shown = ltb-true k m; holds = lt-ltb k m }

  routers-tested : (w e f : ℕ) → Tested ((w < n) × (e < n) × (f < n)) (has_router plan w && has_router plan e && has_router plan f)
  routers-tested w e f =
      record {
        shown = λ h. let q : ((w < n) × (e < n)) × (f < n) = simp facts at h in (q.0.0, q.0.1, q.1);
        holds = λ h. both _ _ (both _ _ (lt-ltb w n h.0) (lt-ltb e n h.1)) (lt-ltb f n h.2);
      }

  relies-tested : (k w v : ℕ) → Tested ((k < m) × (w < n) × (v < n)) (has_list plan k && has_router plan w && has_router plan v)
  relies-tested k w v =
      record {
        shown = λ h. let q : ((k < m) × (w < n)) × (v < n) = simp facts at h in (q.0.0, q.0.1, q.1);
        holds = λ h. both _ _ (both _ _ (lt-ltb k m h.0) (lt-ltb w n h.1)) (lt-ltb v n h.2);
      }

  router-tested : (k w : ℕ) → Tested ((k < m) × (w < n)) (has_list plan k && has_router plan w)
  router-tested k w =
      record {
        shown = λ h. let q : (k < m) × (w < n) = simp facts at h in q;
        holds = λ h. both _ _ (lt-ltb k m h.0) (lt-ltb w n h.1);
      }

  sequence-tested : (k : ℕ) (acts : List ℕ) → Tested ((k < m) × ActsBelow n acts) (has_list plan k && sequence_ok acts n)
  unfolding sequence_ok
  sequence-tested k acts =
      record {
        shown = λ h.
            let q : (k < m) × (sequence_ok acts n ≡ true) = simp facts at h in (q.0, λ i l. ltb-true _ n (all-at _ _ q.1 i l));
        holds = λ h. both _ _ (lt-ltb k m h.0) (all-intro _ _ (λ i l. lt-ltb _ n (h.1 i l)));
      }

  buffers-tested : (labels ranks table cycle : List ℕ) → Tested (BuffersLong n labels ranks table cycle) (buffers_ok n labels ranks table cycle)
  unfolding buffers_ok
  buffers-tested labels ranks table cycle =
      record {
        shown = λ h.
            let q : (((n ≤ length labels) × (n ≤ length ranks)) × (2 * n ≤ length table)) × (n ≤ length cycle) = simp facts at h in
            record { labels_long = q.0.0.0; ranks_long = q.0.0.1; table_long = q.0.1; cycle_long = q.1 };
        holds = λ h.
            both _ _
            (both _ _ (both _ _ (le-leb n _ h.labels_long) (le-leb n _ h.ranks_long)) (le-leb (2 * n) _ h.table_long))
            (le-leb n _ h.cycle_long);
      }

  few-tested : (k : ℕ) → Tested (grouped_routers (instance_of plan k) ≤ 12) (few_grouped (instance_of plan k))
  few-tested k = record { shown = leb-true _ _; holds = le-leb _ _ }

  numbers-tested : (k : ℕ) (out : List ℕ) → Tested (2 * steady_count (instance_of plan k) ≤ length out) (numbers_long (instance_of plan k) out)
  numbers-tested k out = record { shown = leb-true _ _; holds = le-leb _ _ }

  counts-tested : (ranks routers : List ℕ) → Tested ((n ≤ length ranks) × (n ≤ length routers)) (counts_ok n ranks routers)
  unfolding counts_ok
  counts-tested ranks routers =
      record {
        shown = λ h. let q : (n ≤ length ranks) × (n ≤ length routers) = simp facts at h in q;
        holds = λ h. both _ _ (le-leb n _ h.0) (le-leb n _ h.1);
      }

  list-long-tested : (list : List ℕ) → Tested (n ≤ length list) (list_long plan list)
  list-long-tested list = record { shown = leb-true _ _; holds = le-leb _ _ }

  long-tested : (table : List ℕ) → Tested (2 * n ≤ length table) (leb (2 * n) (length table))
  long-tested table = record { shown = leb-true _ _; holds = le-leb _ _ }

  rule-tested : (k : ℕ) (table : List ℕ) → plan_refusal plan ≡ 0 → Tested (TableFacts (instance_of plan k) table) (table_rule (instance_of plan k) table)
  rule-tested k table p = table-tested (instance_of plan k) (passed plan p).count.most table

  pub call_rows : CallRows plan
  call_rows =
      record {
        list = λ k. exactly plan _ _ _ _ _ (list-in-order plan k) (list-tested k) unasked unasked (λ _. unasked);
        compare = λ w e f. exactly plan _ _ _ _ _ (compare-in-order plan w e f) (routers-tested w e f) unasked unasked (λ _. unasked);
        relies = λ k w v. exactly plan _ _ _ _ _ (relies-in-order plan k w v) (relies-tested k w v) unasked unasked (λ _. unasked);
        verdict = λ k labels ranks table cycle.
            exactly plan _ _ _ _ _ (verdict-in-order plan k labels ranks table cycle) (list-tested k) unasked (buffers-tested labels ranks table cycle)
            (λ _. unasked);
        steady = λ k out.
            exactly plan _ _ _ _ _ (steady-in-order plan k out) (list-tested k) (few-tested k) (numbers-tested k out) (λ _. unasked);
        hop_set = λ k. exactly plan _ _ _ _ _ (hop-set-in-order plan k) (list-tested k) (few-tested k) unasked (λ _. unasked);
        grade = λ k. exactly plan _ _ _ _ _ (grade-in-order plan k) (list-tested k) (few-tested k) unasked (λ _. unasked);
        activate = λ k w table.
            exactly plan _ _ _ _ _ (activate-in-order plan k table w) (router-tested k w) unasked (long-tested table) (rule-tested k table);
        run = λ k acts table.
            exactly plan _ _ _ _ _ (run-in-order plan k table acts) (sequence-tested k acts) unasked (long-tested table) (rule-tested k table);
        figures = λ ranks routers.
            exactly plan _ _ _ _ _ (figures-in-order plan ranks routers) unasked unasked (counts-tested ranks routers) (λ _. unasked);
        every_list = λ list. exactly plan _ _ _ _ _ (every-list-in-order plan list) unasked unasked (list-long-tested list) (λ _. unasked);
      }
