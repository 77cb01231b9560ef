-- Demand 3: every series of calls on a table of a stable list settles; and every series can go on.
use Prim.Native.Nat.{ℕ, ◌+◌, ◌*◌, ◌≤◌, ◌<◌}
use native.Mathlib.Omega.{arith}
use mathlib.Core.Path.{◌≡◌, refl, ◌∙◌, sym, ap, ap₂}
use mathlib.Core.Bool.{Bool, true}
use mathlib.Core.List.{List, [], ◌∷◌, ◌++◌, foldl-append}
use mathlib.Core.Logic.{◌⊎◌, ⊎_elim}
use borrow.Author.Tests.{ltb-true, le-leb}
use lib.Dec.{ltb}
use lib.ListN.{length, get_or, take, drop, length-take}
use lib.Seq.{get_or-take}
use Rattle.base.proofs.Numbers.{both_right, eq-or-ne}
use Rattle.base.proofs.Below.{all-at}
use Rattle.plan_contents.specs.Header.{router_count}
use Rattle.plan_rules.specs.EgressLists.{list_count}
use Rattle.plan_rules.specs.Refusal.{refuse, plan_checks}
use Rattle.plan_rules.proofs.Cascade.{refuse-passed, refuse-true, plan-passes, plan-of-passed}
use Rattle.plan_rules.proofs.Passed.{passed}
use Rattle.route_rules.specs.Instance.{Instance, Route}
use Rattle.route_rules.specs.Activation.{table_ok, run_acts}
use Rattle.route_rules.specs.Rounds.{ActsBelow}
use Rattle.route_theorems.specs.Settled.{settled_table}
use Rattle.route_theorems.specs.Claims.{IsTable, Steady}
use Rattle.route_theorems.proofs.Existence.{steady-stays}
use Rattle.route_theorems.proofs.Settling.{settles}
use Rattle.grade_theorems.proofs.Sequences.{below_none, below_one, below-append}
use Rattle.grade_theorems.proofs.Runs.{run_ok}
use Rattle.net_rules.specs.FromPlan.{instance_of}
use Rattle.net_tables.specs.TableBytes.{table_of, table_bytes, activate_bytes, run_bytes}
use Rattle.net_tables.proofs.TableBytes.{table-length, table-front, table-bytes, run-bytes-length, run-bytes-rest, run-table}
use Rattle.plan_rules.specs.Refused.{unless_refused}
use Rattle.net_verdict.specs.Assessed.{highest_of, settled_bytes}
use Rattle.checker_theorems.specs.VerdictMeaning.{rank_in}
use Rattle.call_rules.specs.Refusals.{table_checks, activate_refusal, sequence_ok, run_refusal}
use Rattle.call_run.specs.Activate.{activate_table}
use Rattle.call_run.specs.Run.{run_table}
use Rattle.checker_theorems.specs.Series.{Call, activate_call, run_call, call_plan, call_list, call_refusal, buffer_after, call_acts, series_buffer, series_acts, ForThis, Enough, EverySeriesSettles, EverySeriesGoesOn}
use Rattle.plan_rules.proofs.Refused.{when-refused, when-given}
use Rattle.checker_theorems.proofs.VerdictMeaning.{ranked, settled-alone}

-- acts of routers below n: a part of a sequence
pub take_below : (n limit : ℕ) (acts : List ℕ) → sequence_ok acts n ≡ true → ActsBelow n (take limit acts)
unfolding sequence_ok
take_below n limit acts ok i h =
    let inside : (i < limit) × (i < length acts) = omega (arith, length-take limit acts) in
    let named : get_or acts i 0 < n = ltb-true _ _ (all-at (λ j. ltb (get_or acts j 0) n) (length acts) ok i inside.1) in
    omega (arith, get_or-take limit acts i 0 inside.0)

-- what acts, all of routers below n, make of a buffer
pub record Applied (I : Instance) (acts before after : List ℕ) : Type 0 where
  pub below : ActsBelow I.n acts
  pub is : after ≡ run_bytes I before acts

no-acts : (I : Instance) (buffer : List ℕ) → Applied I [] buffer buffer
unfolding run_bytes
no-acts I buffer = record { below = λ i h. absurd (omega arith); is = refl }

more-acts : (I : Instance) (acts more b c d : List ℕ) → Applied I acts b c → Applied I more c d → Applied I (acts ++ more) b d
unfolding run_bytes
more-acts I acts more b c d p q =
    record {
      below = below-append I.n acts more p.below q.below;
      is = q.is ∙ ap (λ x. run_bytes I x more) p.is ∙ sym (foldl-append (λ x w. activate_bytes I w x) b acts more);
    }

one-act : (I : Instance) (w : ℕ) (buffer : List ℕ) → w < I.n → Applied I (w ∷ []) buffer (activate_bytes I w buffer)
unfolding run_bytes
one-act I w buffer l = record { below = below_one I.n w [] l (below_none I.n); is = refl }

-- a call that is not refused applies its acts
row-eight : (plan : List ℕ) (ok : Bool) (rest : ℕ) → plan_checks plan (refuse ok 8 rest) ≡ 0 → ok ≡ true
row-eight plan ok rest h = (refuse-passed ok 7 rest (sym (plan-passes plan _ (plan-of-passed plan _ h)) ∙ h)).0

call-applies : (call : Call) (buffer : List ℕ) → call_refusal call buffer ≡ 0
    → Applied (instance_of (call_plan call) (call_list call)) (call_acts call) buffer (buffer_after call buffer)
unfolding activate_refusal run_refusal activate_table run_table run_bytes
call-applies (activate_call plan k w) buffer h =
    record {
      below = below_one (router_count plan) w [] (ltb-true _ _ (both_right (ltb k (list_count plan)) _ (row-eight plan _ _ h))) (below_none (router_count plan));
      is = when-given (activate_refusal plan k w buffer) _ _ h;
    }
call-applies (run_call plan k acts limit) buffer h =
    record {
      below = take_below (router_count plan) limit acts (both_right (ltb k (list_count plan)) _ (row-eight plan _ _ h));
      is = when-given (run_refusal plan k acts buffer) _ _ h;
    }

-- a call that is refused leaves every byte
call-refused : (call : Call) (buffer : List ℕ) → (call_refusal call buffer ≡ 0 → ⊥) → buffer_after call buffer ≡ buffer
unfolding activate_table run_table
call-refused (activate_call plan k w) buffer h = when-refused (activate_refusal plan k w buffer) _ _ h
call-refused (run_call plan k acts limit) buffer h = when-refused (run_refusal plan k acts buffer) _ _ h

module _ (plan : List ℕ) (k : ℕ) where
  -- a call of the series applies what it adds to the acts of the series
  call-adds : (call : Call) (buffer : List ℕ) → (call_refusal call buffer ≡ 0 → (call_plan call ≡ plan) × (call_list call ≡ k))
      → Applied (instance_of plan k) (unless_refused (call_refusal call buffer) [] (call_acts call)) buffer (buffer_after call buffer)
  call-adds call buffer this =
      ⊎_elim
      (λ (h : call_refusal call buffer ≡ 0).
      rw (when-given (call_refusal call buffer) [] (call_acts call) h, ← (this h).0, ← (this h).1) (call-applies call buffer h))
      (λ (h : call_refusal call buffer ≡ 0 → ⊥).
      rw (when-refused (call_refusal call buffer) [] (call_acts call) h, call-refused call buffer h) (no-acts (instance_of plan k) buffer))
      (eq-or-ne (call_refusal call buffer) 0)

  -- the series applies its acts, as one run would
  pub series-applies : (calls : List Call) (buffer : List ℕ) → ForThis plan k calls buffer
      → Applied (instance_of plan k) (series_acts calls buffer) buffer (series_buffer calls buffer)
  unfolding ForThis series_acts series_buffer
  series-applies [] buffer this = no-acts (instance_of plan k) buffer
  series-applies (call ∷ calls) buffer this =
      more-acts (instance_of plan k) _ (series_acts calls (buffer_after call buffer)) buffer (buffer_after call buffer) _
      (call-adds call buffer this.0)
      (series-applies calls (buffer_after call buffer) this.1)

-- two buffers with one table and the same bytes after it are the same
pub same-buffer : (n : ℕ) (a b : List ℕ) → 2 * n ≤ length a → 2 * n ≤ length b → table_of a n ≡ table_of b n → drop (2 * n) a ≡ drop (2 * n) b → a ≡ b
same-buffer n a b l m t d = table-bytes a n l ∙ ap₂ (λ x y. table_bytes x ++ y) t d ∙ sym (table-bytes b n m)

module _ (I : Instance) (small : I.n ≤ 64) (acts before after : List ℕ) (long : 2 * I.n ≤ length before) (a : Applied I acts before after) where
  pub applied-long : 2 * I.n ≤ length after
  applied-long = omega (arith, ap length a.is ∙ run-bytes-length I before acts)

  pub applied-rest : drop (2 * I.n) after ≡ drop (2 * I.n) before
  applied-rest = ap (drop (2 * I.n)) a.is ∙ run-bytes-rest I before acts a.below

  pub applied-table : table_of after I.n ≡ run_acts I (table_of before I.n) acts
  applied-table = ap (λ b. table_of b I.n) a.is ∙ run-table I before acts small a.below long

  -- a buffer whose table no act changes keeps every byte
  pub applied-stays : (t : List Route) → IsTable I t → Steady I t → table_of before I.n ≡ t → after ≡ before
  applied-stays t e steady holds =
      same-buffer I.n after before applied-long long
      (applied-table ∙ ap (λ u. run_acts I u acts) holds ∙ steady-stays I t e steady acts ∙ sym holds)
      applied-rest

pub every-series-settles : EverySeriesSettles
unfolding settled_bytes highest_of
every-series-settles plan k start s calls this =
    record {
      settled = λ enough. table-front after n long ∙ ap table_bytes (reached enough);
      steady = λ enough w l. stays enough (w ∷ []) (activate_bytes I w after) (one-act I w after l);
      kept = λ enough more that. stays enough (series_acts more after) (series_buffer more after) (series-applies plan k more after that);
      rest = applied-rest I small acts start after s.long applied;
    }
  where
    n : ℕ
    n = router_count plan

    I : Instance
    I = instance_of plan k

    small : n ≤ 64
    small = (passed plan s.plan_ok).count.most

    acts : List ℕ
    acts = series_acts calls start

    after : List ℕ
    after = series_buffer calls start

    applied : Applied I acts start after
    applied = series-applies plan k calls start this

    long : 2 * n ≤ length after
    long = applied-long I small acts start after s.long applied

    settled : List Route
    settled = settled_table I (highest_of (instance_of plan k))

    reached : Enough plan k calls start → table_of after n ≡ settled
    reached enough =
        applied-table I small acts start after s.long applied
        ∙ (settles I (rank_in plan k) (highest_of (instance_of plan k)) (ranked plan k s.stable_list) (table_of start n) (table-length start n) acts enough).reached

    stays : Enough plan k calls start → (more later : List ℕ) → Applied I more after later → later ≡ after
    stays enough more later a =
        let one = settled-alone plan k s.stable_list in
        applied-stays I small more after later long a settled one.table one.steady (reached enough)

pub every-series-goes-on : EverySeriesGoesOn
unfolding table_checks
every-series-goes-on plan k start s calls this =
    let I = instance_of plan k in
    let acts = series_acts calls start in
    let after = series_buffer calls start in
    let small = (passed plan s.plan_ok).count.most in
    let applied = series-applies plan k calls start this in
    refuse-true _ 9 _ (le-leb (2 * router_count plan) (length after) (applied-long I small acts start after s.long applied))
    ∙ refuse-true _ 10 _
    (ap (table_ok I) (applied-table I small acts start after s.long applied) ∙ run_ok I (table_of start (router_count plan)) acts s.table)
