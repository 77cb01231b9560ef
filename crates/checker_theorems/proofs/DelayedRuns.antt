-- Delayed reading over a plan's bytes: every choice of moments makes one run, and that which reads the present is the run call's.
use Prim.Native.Nat.{ℕ, zero, suc, ◌+◌, ◌*◌, ◌≤◌, ◌<◌}
use native.Mathlib.Omega.{arith}
use mathlib.Core.Path.{◌≡◌, refl, ◌∙◌, sym, ap, ap₂}
use mathlib.Core.Bool.{true}
use mathlib.Core.List.{List, [], ◌∷◌, ◌++◌}
use mathlib.Core.Logic.{⊎_elim}
use borrow.Author.Tests.{lt-ltb, le-leb}
use lib.ListN.{length, get_or, take, drop, set, length-append}
use lib.Seq.{drop_at, take-suc, ext_get_or}
use Rattle.base.proofs.Below.{all-intro}
use Rattle.base.proofs.Numbers.{both, eq-or-ne}
use Rattle.plan_contents.specs.Header.{router_count}
use Rattle.plan_rules.proofs.Refused.{when-given}
use Rattle.route_rules.specs.Instance.{Instance, Route, nothing}
use Rattle.route_rules.specs.Activation.{choose, held, table_ok, run_acts}
use Rattle.route_rules.specs.Rounds.{ActsBelow}
use Rattle.route_theorems.specs.Delayed.{Moments, router_of, Allowed, read_by, OneRun, present, ReadingThePresent}
use Rattle.route_theorems.proofs.Determinacy.{neighbours-alone}
use Rattle.route_theorems.proofs.Settling.{table_at, acting, untouched}
use Rattle.route_theorems.proofs.DelayedRuns.{up-to-the-act, every-choice-runs, reading-the-present, same-act-rule}
use Rattle.net_rules.specs.FromPlan.{instance_of}
use Rattle.net_tables.specs.TableBytes.{read_route, egress_byte, sender_byte, route_at, put_route, table_of, table_bytes, TableIn, activate_bytes, run_bytes}
use Rattle.net_tables.proofs.TableBytes.{read-bytes, Written, written_below, put-length, put_rest, table-length, table-held, table-bytes, choose-below, choose-same, run-bytes-length, run-bytes-append, run-table}
use Rattle.call_rules.specs.Refusals.{sequence_ok, table_checks, run_refusal}
use Rattle.call_rules.proofs.InOrder.{run-in-order}
use Rattle.call_rules.proofs.Granted.{few-routers, table-asked}
use Rattle.call_run.specs.Activate.{activate_table}
use Rattle.call_run.specs.Run.{run_table}
use Rattle.checker_theorems.specs.HopStep.{HasList}
use Rattle.checker_theorems.specs.Delayed.{handed, left_by, DelayedCalls, EveryDelayedChoiceRuns, RunCallReadsThePresent}
use Rattle.checker_theorems.proofs.Series.{take_below, same-buffer}
use Rattle.checker_theorems.proofs.DelayedSettling.{put-table, bytes-length, act-leaves, legal-upto, run-tables, run-rest}

-- the bytes of a table, read back
bytes-at : (t : List Route) (rest : List ℕ) (v : ℕ) → v < length t
    → (get_or (table_bytes t ++ rest) (2 * v) 0 ≡ egress_byte (held t v)) × (get_or (table_bytes t ++ rest) (2 * v + 1) 0 ≡ sender_byte (held t v))
unfolding table_bytes
bytes-at [] rest v l = absurd (omega arith)
bytes-at (x ∷ t) rest zero l = (refl, refl)
bytes-at (x ∷ t) rest (suc v) l =
    let e : 2 * suc v ≡ suc (suc (2 * v)) = omega arith in
    let f : 2 * suc v + 1 ≡ suc (suc (2 * v + 1)) = omega arith in
    let q = bytes-at t rest v (omega arith) in
    (rw e q.0, rw f q.1)

table-back : (n : ℕ) (t : List Route) (rest : List ℕ) → length t ≡ n → ((v : ℕ) → v < n → Written (held t v))
    → table_of (table_bytes t ++ rest) n ≡ t
table-back n t rest e written =
    ext_get_or nothing _ t (table-length (table_bytes t ++ rest) n ∙ sym e)
    (λ v l.
    let b : v < n = omega (arith, table-length (table_bytes t ++ rest) n) in
    let q = bytes-at t rest v (omega arith) in
    table-held (table_bytes t ++ rest) n v b ∙ ap₂ read_route q.0 q.1 ∙ written v b)

-- what a buffer holds is written by its bytes
route-written : (buffer : List ℕ) (v : ℕ) → Written (route_at buffer v)
route-written buffer v = let q = read-bytes (get_or buffer (2 * v) 0) (get_or buffer (2 * v + 1) 0) in ap₂ read_route q.0 q.1

module _ (plan : List ℕ) (k : ℕ) (h : HasList plan k) (acts : List ℕ) (below : ActsBelow (router_count plan) acts) (start : List ℕ)
    (given : table_checks (instance_of plan k) start ≡ 0) where
  abbrev I : Instance
  I = instance_of plan k

  abbrev n : ℕ
  n = router_count plan

  first : TableIn I start
  first = table-asked I start given

  module _ (moment : Moments) (allowed : Allowed I acts moment) where
    one : OneRun I acts moment (table_of start n)
    one = every-choice-runs I acts moment allowed (table_of start n) (table-length start n)

    is-table : (m : ℕ) → m ≤ length acts → length (one.at m) ≡ n
    is-table = table_at I acts moment one.at one.run

    entries-written : (m : ℕ) → m ≤ length acts → (v : ℕ) → v < n → Written (held (one.at m) v)
    entries-written zero l v b = rw (one.start, table-held start n v b) (route-written start v)
    entries-written (suc m) l v b =
        ⊎_elim
        (λ (e : router_of acts m ≡ v).
        rw (← e, acting I acts moment one.at one.run m l (below m l))
        (written_below n _ (few-routers plan h.plan_ok) (choose-below I (router_of acts m) _ (below m l))))
        (λ (d : router_of acts m ≡ v → ⊥). rw (untouched I acts moment one.at one.run m l v d) (entries-written m (omega arith) v b))
        (eq-or-ne (router_of acts m) v)

    -- its tables in bytes
    abbrev buffers : ℕ → List ℕ
    buffers m = table_bytes (one.at m) ++ drop (2 * n) start

    buffers-start : buffers 0 ≡ start
    buffers-start = ap (λ t. table_bytes t ++ drop (2 * n) start) one.start ∙ sym (table-bytes start n first.long)

    buffers-table : (m : ℕ) → m ≤ length acts → table_of (buffers m) n ≡ one.at m
    buffers-table m l = table-back n (one.at m) _ (is-table m l) (entries-written m l)

    table-size : (m : ℕ) → m ≤ length acts → length (table_bytes (one.at m)) ≡ 2 * n
    table-size m l = bytes-length (one.at m) ∙ ap (λ j. 2 * j) (is-table m l)

    buffers-rest : (m : ℕ) → m ≤ length acts → drop (2 * n) (buffers m) ≡ drop (2 * n) start
    buffers-rest m l = drop_at (table_bytes (one.at m)) _ (2 * n) (table-size m l)

    buffers-ok : (m : ℕ) → m ≤ length acts → TableIn I (buffers m)
    buffers-ok m l =
        record {
          long = omega (arith, length-append (table_bytes (one.at m)) (drop (2 * n) start), table-size m l);
          rule =
              ap (table_ok I) (buffers-table m l)
              ∙ (same-act-rule I acts moment one.at one.run).legal (ap (table_ok I) one.start ∙ first.rule) m l;
        }

    buffers-act : (i : ℕ) → i < length acts → buffers (suc i) ≡ left_by plan k acts moment buffers i
    buffers-act i l =
        same-buffer n _ (put_route (buffers i) w x) (buffers-ok (suc i) l).long (omega (arith, put-length (buffers i) w x, now.long))
        (buffers-table (suc i) l
        ∙ one.run.act i l
        ∙ ap₂ (λ t r. set t w r) (sym (buffers-table i (omega arith))) chosen-alike
        ∙ sym (put-table (buffers i) n w x (below i l) now.long (rw leaves chosen-written)))
        (buffers-rest (suc i) l ∙ sym (put_rest (buffers i) w x n (below i l) ∙ buffers-rest i (omega arith)))
      where
        w : ℕ
        w = router_of acts i

        -- what the act call leaves its router
        x : Route
        x = route_at (activate_table plan k w (handed plan acts moment buffers i)) w

        now : TableIn I (buffers i)
        now = buffers-ok i (omega arith)

        late : ℕ → Route
        late = read_by (λ m. table_of (buffers m) n) moment i

        leaves : x ≡ choose I w late
        leaves = act-leaves plan k h acts below moment allowed buffers i l (λ m b. buffers-ok m (omega arith))

        chosen-written : Written (choose I w late)
        chosen-written = written_below n _ (few-routers plan h.plan_ok) (choose-below I w late (below i l))

        chosen-alike : choose I w (read_by one.at moment i) ≡ x
        chosen-alike =
            neighbours-alone I w _ _ (λ v b near.
            ap (λ t. held t v) (sym (buffers-table (moment i v) (omega (arith, up-to-the-act I acts moment allowed i v l b near)))))
            ∙ sym leaves

    buffers-run : DelayedCalls plan k acts moment buffers
    buffers-run = record { start = ap (table_checks I) buffers-start ∙ given; act = buffers-act }

    buffers-only : (other : ℕ → List ℕ) → other 0 ≡ start → DelayedCalls plan k acts moment other → (m : ℕ) → m ≤ length acts
        → other m ≡ buffers m
    buffers-only other begins run m l =
        same-buffer n _ _ (legal-upto plan k h acts below moment allowed other run m l m (omega arith)).long (buffers-ok m l).long
        (one.only _ (ap (λ b. table_of b n) begins) (run-tables plan k h acts below moment allowed other run) m l ∙ sym (buffers-table m l))
        (run-rest plan k h acts below moment allowed other run m l ∙ ap (drop (2 * n)) begins ∙ sym (buffers-rest m l))

  -- the run call, by its limit
  abbrev left : ℕ → List ℕ
  left m = run_table plan k acts m start

  in-sequence : sequence_ok acts n ≡ true
  unfolding sequence_ok
  in-sequence = all-intro _ (length acts) (λ i l. lt-ltb _ n (below i l))

  left_is : (m : ℕ) → left m ≡ run_bytes I start (take m acts)
  unfolding run_table
  left_is m =
      when-given (run_refusal plan k acts start) _ _
      ((run-in-order plan k start acts).none h.plan_ok (both _ _ (lt-ltb k _ h.list_ok) in-sequence) refl
      (le-leb (2 * n) (length start) first.long) first.rule)

  the-present : ReadingThePresent I acts (table_of start n)
  the-present = reading-the-present I acts (table_of start n) (table-length start n)

  left-ok : (m : ℕ) → m ≤ length acts → TableIn I (left m)
  unfolding run_acts
  left-ok m l =
      rw (left_is m)
      (record {
        long = omega (arith, run-bytes-length I start (take m acts), first.long);
        rule =
            ap (table_ok I) (run-table I start (take m acts) (few-routers plan h.plan_ok) (take_below n m acts in-sequence) first.long)
            ∙ (same-act-rule I acts present _ the-present.run).legal first.rule m l;
      })

  left-act : (i : ℕ) → i < length acts → left (suc i) ≡ activate_bytes I (router_of acts i) (left i)
  unfolding run_bytes
  left-act i l =
      left_is (suc i)
      ∙ ap (run_bytes I start) (take-suc acts i 0 l)
      ∙ run-bytes-append I start (take i acts) (router_of acts i ∷ [])
      ∙ ap (activate_bytes I (router_of acts i)) (sym (left_is i))

  left-run : DelayedCalls plan k acts present left
  unfolding activate_bytes run_bytes
  left-run =
      record {
        start = ap (table_checks I) (left_is 0) ∙ given;
        act = λ i l.
            left-act i l
            ∙ ap (put_route (left i) (router_of acts i))
            (choose-same I (router_of acts i) (route_at (left i)) _ (λ v b. sym (table-held (left i) n v b))
            ∙ sym (act-leaves plan k h acts below present the-present.allowed left i l (λ m b. left-ok m (omega arith))));
      }

pub every-delayed-choice-runs : EveryDelayedChoiceRuns
every-delayed-choice-runs plan k h acts below moment allowed start given =
    record {
      at = buffers plan k h acts below start given moment allowed;
      begins = buffers-start plan k h acts below start given moment allowed;
      run = buffers-run plan k h acts below start given moment allowed;
      only = buffers-only plan k h acts below start given moment allowed;
    }

pub run-call-reads-the-present : RunCallReadsThePresent
run-call-reads-the-present plan k h acts below start given = (
  (the-present plan k h acts below start given).allowed,
  left-run plan k h acts below start given,
)
