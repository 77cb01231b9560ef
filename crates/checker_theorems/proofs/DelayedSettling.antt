-- Delayed reading over a plan's bytes: every run by the act call settles on the table that the verdict call writes.
use Prim.Native.Nat.{ℕ, zero, suc, ◌+◌, ◌*◌, ◌/◌, ◌≤◌, ◌<◌}
use native.Mathlib.Omega.{arith}
use mathlib.Core.Path.{◌≡◌, refl, ◌∙◌, sym, ap, ap₂}
use mathlib.Core.Bool.{Bool, true, false}
use mathlib.Core.List.{List, [], ◌∷◌}
use mathlib.Core.Logic.{◌⊎◌, inl, inr, ⊎_elim}
use borrow.Author.Tests.{lt-ltb, le-leb}
use lib.ListN.{length, get_or, take, drop, set, length-set}
use lib.Seq.{get_or-set_same, get_or-set_other, take_at, ext_get_or}
use Rattle.base.specs.Lent.{Lent}
use Rattle.base.proofs.Below.{all-at, all-intro}
use Rattle.base.proofs.Numbers.{both, eq-or-ne, lt-or-le}
use Rattle.base.proofs.Tab.{length-tab, get_or-tab}
use Rattle.plan_contents.specs.Header.{router_count}
use Rattle.plan_contents.specs.Contents.{sessions_body}
use Rattle.plan_rules.specs.Sessions.{in_session}
use Rattle.plan_rules.proofs.Cascade.{refuse-true}
use Rattle.plan_rules.proofs.Refused.{when-given}
use Rattle.route_rules.specs.Instance.{Instance, Route, nothing}
use Rattle.route_rules.specs.Activation.{choose, held, entry_ok, table_ok}
use Rattle.route_rules.specs.Rounds.{ActsBelow}
use Rattle.route_rules.proofs.Routes.{choose-ok}
use Rattle.route_theorems.specs.Settled.{settled_table}
use Rattle.route_theorems.specs.Claims.{Ranked}
use Rattle.route_theorems.specs.Delayed.{Moments, router_of, Allowed, read_by, DelayedRun, SettlesByMoment}
use Rattle.route_theorems.proofs.Determinacy.{neighbours-alone}
use Rattle.route_theorems.proofs.DelayedRuns.{up-to-the-act, settles-delayed}
use Rattle.net_rules.specs.FromPlan.{instance_of}
use Rattle.net_tables.specs.TableBytes.{read_route, route_at, put_route, table_of, table_bytes, TableIn}
use Rattle.net_tables.proofs.TableBytes.{Written, written_below, put-length, put-own, put_other, put_rest, table-length, table-held, table-front, choose-below, act-own}
use Rattle.net_verdict.specs.Assessed.{is_stable, highest_of, settled_bytes}
use Rattle.call_rules.specs.Refusals.{verdict_refusal, table_checks, activate_refusal}
use Rattle.call_rules.proofs.InOrder.{activate-in-order}
use Rattle.call_rules.proofs.Granted.{few-routers, table-asked, verdict-asked}
use Rattle.call_run.specs.Activate.{activate_table}
use Rattle.call_verdict.specs.declared.verdict.VerdictAnswer.TheVariants.{Stable}
use Rattle.call_verdict.specs.Verdict.{VerdictCall}
use Rattle.checker_theorems.specs.VerdictMeaning.{rank_in}
use Rattle.checker_theorems.specs.HopStep.{HasList}
use Rattle.checker_theorems.specs.Delayed.{handed_from, handed, DelayedCalls, EveryDelayedRunSettles, EveryDelayedCallMeans}
use Rattle.checker_theorems.proofs.VerdictMeaning.{ranked, settled-alone}
use Rattle.checker_theorems.proofs.Series.{same-buffer}
use Rattle.checker_theorems.proofs.StableVerdict.{StableVerdict, stable-verdict}

-- a route put into a buffer is the route put into the table that it holds
pub put-table : (buffer : List ℕ) (n w : ℕ) (x : Route) → w < n → 2 * n ≤ length buffer → Written x
    → table_of (put_route buffer w x) n ≡ set (table_of buffer n) w x
put-table buffer n w x l h written =
    ext_get_or nothing _ _
    (table-length (put_route buffer w x) n ∙ sym (length-set (table_of buffer n) w x ∙ table-length buffer n))
    (λ v m. go v (omega (arith, table-length (put_route buffer w x) n)) (eq-or-ne v w))
  where
    go : (v : ℕ) → v < n → (v ≡ w) ⊎ (v ≡ w → ⊥) → held (table_of (put_route buffer w x) n) v ≡ held (set (table_of buffer n) w x) v
    go v m (inl e) =
        table-held (put_route buffer w x) n v m
        ∙ rw e (put-own buffer w x (omega arith) written
        ∙ sym (get_or-set_same (table_of buffer n) w x nothing (omega (arith, table-length buffer n))))
    go v m (inr d) =
        table-held (put_route buffer w x) n v m
        ∙ put_other buffer w x v d
        ∙ sym (get_or-set_other (table_of buffer n) w v x nothing d ∙ table-held buffer n v m)

module _ (plan : List ℕ) (k : ℕ) (h : HasList plan k) (acts : List ℕ) (below : ActsBelow (router_count plan) acts) (moment : Moments)
    (allowed : Allowed (instance_of plan k) acts moment) where
  abbrev I : Instance
  I = instance_of plan k

  abbrev n : ℕ
  n = router_count plan

  small : n ≤ 64
  small = few-routers plan h.plan_ok

  module _ (at : ℕ → List ℕ) where
    abbrev tables : ℕ → List Route
    tables m = table_of (at m) n

    -- one act, where the buffers so far hold tables that obey their rule
    module _ (i : ℕ) (l : i < length acts) (legal : (m : ℕ) → m ≤ i → TableIn I (at m)) where
      abbrev w : ℕ
      w = router_of acts i

      abbrev given : List ℕ
      given = handed plan acts moment at i

      from_past : (v : ℕ) → v < n → handed_from plan acts moment i v ≤ i
      from_past v b = go (in_session (sessions_body plan) w v) refl
        where
          go : (near : Bool) → in_session (sessions_body plan) w v ≡ near → handed_from plan acts moment i v ≤ i
          go true near = rw near (up-to-the-act I acts moment allowed i v l b near)
          go false near = rw near (omega arith)

      handed-length : length given ≡ 2 * n
      unfolding handed
      handed-length = length-tab _ (2 * n)

      handed-byte : (v j : ℕ) → v < n → j / 2 ≡ v → get_or given j 0 ≡ get_or (at (handed_from plan acts moment i v)) j 0
      unfolding handed
      handed-byte v j b e = get_or-tab _ (2 * n) 0 j (omega arith) ∙ rw e

      handed-route : (v : ℕ) → v < n → route_at given v ≡ route_at (at (handed_from plan acts moment i v)) v
      handed-route v b = ap₂ read_route (handed-byte v (2 * v) b (omega arith)) (handed-byte v (2 * v + 1) b (omega arith))

      -- the table handed over obeys its rule
      handed-ok : TableIn I given
      unfolding table_ok
      handed-ok =
          record {
            long = omega (arith, handed-length);
            rule = all-intro _ n (λ v b.
                let past = handed_from plan acts moment i v in
                ap (entry_ok I v) (table-held given n v b ∙ handed-route v b ∙ sym (table-held (at past) n v b))
                ∙ all-at (λ v. entry_ok I v (held (tables past) v)) n (legal past (from_past v b)).rule v b);
          }

      pub act-granted : activate_refusal plan k w given ≡ 0
      act-granted =
          (activate-in-order plan k given w).none h.plan_ok (both _ _ (lt-ltb k _ h.list_ok) (lt-ltb w n (below i l))) refl
          (le-leb (2 * n) (length given) handed-ok.long) handed-ok.rule

      -- what the call leaves its router is what that chooses of what it reads
      pub act-leaves : route_at (activate_table plan k w given) w ≡ choose I w (read_by tables moment i)
      unfolding activate_table
      act-leaves =
          ap (λ b. route_at b w) (when-given (activate_refusal plan k w given) _ _ act-granted)
          ∙ act-own I w given small (below i l) handed-ok.long
          ∙ neighbours-alone I w _ _ (λ v b near.
          table-held given n v b ∙ handed-route v b ∙ rw near (sym (table-held (at (moment i v)) n v b)))

    module _ (run : DelayedCalls plan k acts moment at) where
      -- an act puts in its router's entry what that chooses of what it reads
      module _ (i : ℕ) (l : i < length acts) (legal : (m : ℕ) → m ≤ i → TableIn I (at m)) where
        abbrev chosen : Route
        chosen = choose I (router_of acts i) (read_by tables moment i)

        act-puts : at (suc i) ≡ put_route (at i) (router_of acts i) chosen
        act-puts = run.act i l ∙ ap (put_route (at i) (router_of acts i)) (act-leaves i l legal)

        act-table : tables (suc i) ≡ set (tables i) (router_of acts i) chosen
        act-table =
            ap (λ b. table_of b n) act-puts
            ∙ put-table (at i) n (router_of acts i) chosen (below i l) (legal i (omega arith)).long
            (written_below n chosen small (choose-below I (router_of acts i) (read_by tables moment i) (below i l)))

        act-ok : TableIn I (at (suc i))
        unfolding table_ok
        act-ok =
            record {
              long = omega (arith, ap length act-puts ∙ put-length (at i) (router_of acts i) chosen, (legal i (omega arith)).long);
              rule = all-intro _ n (λ v b. go v b (eq-or-ne v (router_of acts i)));
            }
          where
            go : (v : ℕ) → v < n → (v ≡ router_of acts i) ⊎ (v ≡ router_of acts i → ⊥) → entry_ok I v (held (tables (suc i)) v) ≡ true
            go v b (inl e) =
                rw (act-table, e)
                (ap (entry_ok I (router_of acts i))
                (get_or-set_same (tables i) (router_of acts i) chosen nothing (omega (arith, table-length (at i) n, below i l)))
                ∙ choose-ok I (router_of acts i) (read_by tables moment i))
            go v b (inr d) =
                rw act-table
                (ap (entry_ok I v) (get_or-set_other (tables i) (router_of acts i) v chosen nothing d)
                ∙ all-at (λ v. entry_ok I v (held (tables i) v)) n (legal i (omega arith)).rule v b)

      pub legal-upto : (j : ℕ) → j ≤ length acts → (m : ℕ) → m ≤ j → TableIn I (at m)
      legal-upto zero l m h = let z : m ≡ 0 = omega arith in rw z (table-asked I (at 0) run.start)
      legal-upto (suc j) l m h =
          ⊎_elim (λ (g : m < suc j). legal-upto j (omega arith) m (omega arith))
          (λ (g : suc j ≤ m). let z : m ≡ suc j = omega arith in rw z (act-ok j l (legal-upto j (omega arith))))
          (lt-or-le m (suc j))

      before : (i : ℕ) → i < length acts → (m : ℕ) → m ≤ i → TableIn I (at m)
      before i l = legal-upto i (omega arith)

      -- the tables of the run are one over the plan's network
      pub run-tables : DelayedRun I acts moment tables
      run-tables = record { start = table-length (at 0) n; act = λ i l. act-table i l (before i l) }

      pub run-rest : (m : ℕ) → m ≤ length acts → drop (2 * n) (at m) ≡ drop (2 * n) (at 0)
      run-rest zero l = refl
      run-rest (suc m) l =
          ap (drop (2 * n)) (act-puts m l (before m l)) ∙ put_rest (at m) (router_of acts m) (chosen m l (before m l)) n (below m l) ∙ run-rest m (omega arith)

pub bytes-length : (t : List Route) → length (table_bytes t) ≡ 2 * length t
unfolding table_bytes
bytes-length [] = refl
bytes-length (x ∷ t) = omega (arith, bytes-length t)

-- a verdict call that answers stable was not refused, and answered the list's highest rank
module _ (plan : List ℕ) (k R : ℕ) (labels ranks table shown : Lent (List ℕ)) (call : VerdictCall plan k (Stable R) labels ranks table shown) where
  not-refused : verdict_refusal plan k labels.before ranks.before table.before shown.before ≡ 0
  not-refused = sym call.numbered

  has-list : HasList plan k
  has-list =
      let asked = verdict-asked plan k labels.before ranks.before table.before shown.before not-refused in
      record { plan_ok = asked.plan_ok; list_ok = asked.list }

  is-stable : is_stable (instance_of plan k) ≡ true
  is-stable = sym (call.stable ∙ when-given _ false (is_stable (instance_of plan k)) not-refused)

  written : StableVerdict plan k (Stable R) labels ranks table shown
  written = stable-verdict plan k (Stable R) labels ranks table shown call not-refused is-stable

  highest-answered : R ≡ highest_of (instance_of plan k)
  highest-answered = let a = written.answer in cc

  table-written : take (2 * router_count plan) table.after ≡ table_bytes (settled_table (instance_of plan k) R)
  unfolding settled_bytes
  table-written =
      ap (take (2 * router_count plan)) written.settled
      ∙ take_at (settled_bytes (instance_of plan k)) _ (2 * router_count plan)
      (bytes-length _ ∙ ap (λ j. 2 * j) (settled-alone plan k is-stable).table)
      ∙ ap (λ r. table_bytes (settled_table (instance_of plan k) r)) (sym highest-answered)

pub every-delayed-run-settles : EveryDelayedRunSettles
every-delayed-run-settles plan k R labels ranks table shown call acts below moment allowed at run =
    record {
      reached = λ m l enough. table-front (at m) n (long m l) ∙ ap table_bytes (settles.reached m l enough) ∙ sym written-bytes;
      kept = λ m later l b enough.
          same-buffer n (at later) (at m) (long later b) (long m (omega arith))
          (settles.kept m later l b enough ∙ sym (settles.reached m (omega arith) enough)) (rest later b ∙ sym (rest m (omega arith)));
      rest = rest;
    }
  where
    n : ℕ
    n = router_count plan

    h : HasList plan k
    h = has-list plan k R labels ranks table shown call

    written-bytes : take (2 * n) table.after ≡ table_bytes (settled_table (instance_of plan k) R)
    written-bytes = table-written plan k R labels ranks table shown call

    long : (m : ℕ) → m ≤ length acts → 2 * n ≤ length (at m)
    long m l = (legal-upto plan k h acts below moment allowed at run (length acts) (omega arith) m l).long

    rest : (m : ℕ) → m ≤ length acts → drop (2 * n) (at m) ≡ drop (2 * n) (at 0)
    rest = run-rest plan k h acts below moment allowed at run

    ranks-fall : Ranked (instance_of plan k) (rank_in plan k) R
    ranks-fall = rw (highest-answered plan k R labels ranks table shown call) (ranked plan k (is-stable plan k R labels ranks table shown call))

    settles : SettlesByMoment (instance_of plan k) R acts (λ m. table_of (at m) n)
    settles =
        settles-delayed (instance_of plan k) (rank_in plan k) R ranks-fall acts moment allowed _
        (run-tables plan k h acts below moment allowed at run)

table-given : (I : Instance) (buffer : List ℕ) → TableIn I buffer → table_checks I buffer ≡ 0
unfolding table_checks
table-given I buffer t = refuse-true _ 9 _ (le-leb (2 * I.n) (length buffer) t.long) ∙ refuse-true _ 10 0 t.rule

pub delayed-calls-mean : EveryDelayedCallMeans
delayed-calls-mean plan k h acts below moment allowed at run =
    record {
      calls = λ i l. act-granted plan k h acts below moment allowed at i l (before plan k h acts below moment allowed at run i l);
      buffers =
          λ m l.
          table-given (instance_of plan k) (at m) (legal-upto plan k h acts below moment allowed at run (length acts) (omega arith) m l);
      tables = run-tables plan k h acts below moment allowed at run;
    }
