-- What a list's grade means of tables in bytes.
use Prim.Native.Nat.{ℕ, ◌+◌, ◌*◌, ◌≤◌, ◌<◌}
use native.Mathlib.Omega.{arith}
use mathlib.Core.Path.{◌≡◌, refl, ◌∙◌, sym, ap, subst}
use mathlib.Core.Bool.{true}
use mathlib.Core.List.{List, [], ◌++◌}
use mathlib.Core.Logic.{⊎_elim, ◌↔◌}
use lib.ListN.{length, take}
use lib.Seq.{take-length}
use borrow.Author.Tests.{eq-eqb, ne_eqb}
use Rattle.base.specs.Lent.{Lent}
use Rattle.base.proofs.Numbers.{lt-or-le}
use Rattle.plan_contents.specs.Header.{router_count}
use Rattle.plan_rules.proofs.Passed.{passed}
use Rattle.plan_rules.proofs.Refused.{when-given}
use Rattle.graph_groups.specs.Groups.{stable}
use Rattle.route_rules.specs.Instance.{Instance, Route}
use Rattle.route_rules.specs.Activation.{table_ok, run_acts}
use Rattle.route_rules.specs.Rounds.{ActsBelow, rounds}
use Rattle.route_theorems.specs.Claims.{IsTable, Steady}
use Rattle.steady_rules.proofs.SteadyTables.{steady-tables}
use Rattle.grade_rules.specs.Grade.{grade, rest_rounds, grade_rounds}
use Rattle.grade_theorems.specs.GradeMeans.{GradeMeans}
use Rattle.grade_theorems.specs.GradeMeans as graded
use Rattle.grade_theorems.proofs.Sequences.{below-take}
use Rattle.grade_theorems.proofs.GradeMeans.{grade-means}
use Rattle.net_rules.specs.FromPlan.{instance_of}
use Rattle.net_tables.specs.TableBytes.{table_of, table_bytes}
use Rattle.net_verdict.specs.Assessed.{is_stable, highest_of}
use Rattle.call_rules.specs.Refusals.{run_refusal, grade_refusal}
use Rattle.call_rules.specs.RowsExactly.{TableFacts}
use Rattle.call_rules.proofs.Granted.{grade-asked}
use Rattle.call_rules.proofs.RowsExactly.{table-tested, call_rows}
use Rattle.call_run.specs.Run.{run_table}
use Rattle.call_verdict.specs.Verdict.{verdict_size}
use Rattle.call_steady.specs.declared.steady.SteadyAnswer.{SteadyAnswer}
use Rattle.call_steady.specs.Steady.{refusal_of, count_of, SteadyCall}
use Rattle.checker_theorems.specs.Series.{Call, ForThis, series_acts, series_buffer}
use Rattle.checker_theorems.specs.Nobody.{rounds_in}
use Rattle.checker_theorems.specs.HopStep.{HasList}
use Rattle.checker_theorems.specs.SteadyListed.{NoActChanges}
use Rattle.checker_theorems.specs.Grades.{HeldTable, AtRest, run_whole, RunToRest, NoRunToRest, RunComesBack, SomeRunComesBack, GradeMeaning, EveryGradeMeans}
use Rattle.checker_theorems.proofs.Series.{Applied, series-applies, same-buffer, applied-long, applied-rest, applied-table}
use Rattle.checker_theorems.proofs.StableVerdict.{stable-verdict}
use Rattle.checker_theorems.proofs.HopSets.{says, not-refused}
use Rattle.checker_theorems.proofs.SteadyListed.{small, is-table, steady-of, unchanged-of, stays, laid_table, laid-length, every-steady-listed}

module _ (plan : List ℕ) (k : ℕ) (h : HasList plan k) where
  abbrev I : Instance
  I = instance_of plan k

  abbrev n : ℕ
  n = router_count plan

  -- a buffer that holds a table of the rule
  module _ (table : List ℕ) (held : HeldTable plan k table) where
    abbrev t : List Route
    t = table_of table n

    obeys : table_ok I t ≡ true
    obeys = (table-tested I (small plan k h) table).holds held.rule

    -- a run applies its acts up to the limit
    module _ (acts : List ℕ) (below : ActsBelow n acts) where
      run-applies : (limit : ℕ) → Applied I (take limit acts) table (run_table plan k acts limit table)
      unfolding run_table
      run-applies limit =
          let given : run_refusal plan k acts table ≡ 0
          = ((call_rows plan).run k acts table).none.1 (passed plan h.plan_ok, (h.list_ok, below), tt, held.long, held.rule) in
          record { below = below-take n limit acts below; is = when-given (run_refusal plan k acts table) _ _ given }

      run_long : (limit : ℕ) → 2 * n ≤ length (run_table plan k acts limit table)
      run_long limit = applied-long I (small plan k h) (take limit acts) table _ held.long (run-applies limit)

      run_is : (limit : ℕ) → table_of (run_table plan k acts limit table) n ≡ run_acts I t (take limit acts)
      run_is limit = applied-table I (small plan k h) (take limit acts) table _ held.long (run-applies limit)

      whole_is : table_of (run_whole plan k acts table) n ≡ run_acts I t acts
      whole_is = run_is (length acts) ∙ ap (run_acts I t) (take-length acts)

      -- it leaves the buffer as it was exactly if it leaves the table
      run-same : (limit : ℕ) → (run_table plan k acts limit table ≡ table) ↔ (run_acts I t (take limit acts) ≡ t)
      run-same limit = (
        λ e. sym (run_is limit) ∙ ap (λ b. table_of b n) e,
        λ e.
            same-buffer n (run_table plan k acts limit table) table (run_long limit) held.long (run_is limit ∙ e)
            (applied-rest I (small plan k h) (take limit acts) table _ held.long (run-applies limit)),
      )

      whole_same : (run_whole plan k acts table ≡ table) ↔ (run_acts I t acts ≡ t)
      whole_same =
          let e = ap (run_acts I t) (take-length acts) in
          (λ p. sym e ∙ (run-same (length acts)).0 p, λ p. (run-same (length acts)).1 (e ∙ p))

      -- and leads to rest exactly if it does so in the table
      whole-steady : Steady I (run_acts I t acts) → NoActChanges plan k (run_whole plan k acts table)
      whole-steady s = unchanged-of plan k h (run_whole plan k acts table) (run_long (length acts)) (rw whole_is s)

      steady-whole : NoActChanges plan k (run_whole plan k acts table) → Steady I (run_acts I t acts)
      steady-whole u = rw whole_is at (steady-of plan k h (run_whole plan k acts table) u)

    can-rest : graded.CanRest I t → RunToRest plan k table
    can-rest r = record { acts = r.acts; below = r.below; steady = whole-steady r.acts r.below r.steady }

    can-rest-back : RunToRest plan k table → graded.CanRest I t
    can-rest-back r = record { acts = r.acts; below = r.below; steady = steady-whole r.acts r.below r.steady }

    comes-back : (acts : List ℕ) → graded.ComesBack I t acts → RunComesBack plan k table acts
    comes-back acts c =
        record {
          below = c.below;
          back = (whole_same acts c.below).1 c.back;
          first = c.first;
          changed = λ e. c.changed ((run-same acts c.below c.first).0 e);
        }

    comes-back-of : (acts : List ℕ) → RunComesBack plan k table acts → graded.ComesBack I t acts
    comes-back-of acts c =
        record {
          below = c.below;
          back = (whole_same acts c.below).0 c.back;
          first = c.first;
          changed = λ e. c.changed ((run-same acts c.below c.first).1 e);
        }

  -- a table of the rule in 2n bytes
  module _ (t : List Route) (is_table : IsTable I t) (legal : table_ok I t ≡ true) where
    abbrev laid : List ℕ
    laid = table_bytes t ++ []

    laid-is : table_of laid n ≡ t
    laid-is = laid_table plan k h t is_table legal []

    laid-size : length laid ≡ 2 * n
    laid-size = laid-length plan k h t is_table legal [] ∙ omega arith

    laid-rule : TableFacts I laid
    laid-rule = (table-tested I (small plan k h) laid).shown (ap (table_ok I) laid-is ∙ legal)

    laid-held : HeldTable plan k laid
    laid-held = record { long = omega (arith, laid-size); rule = laid-rule }

  -- the promises over tables, of buffers
  module _ (m : GradeMeans I) where
    series-rest : grade I ≡ 1 → (start : List ℕ) → HeldTable plan k start → (calls : List Call) → ForThis plan k calls start
        → grade_rounds I ≤ rounds_in plan start calls → AtRest plan k (series_buffer calls start)
    series-rest g start held calls this enough =
        let after = series_buffer calls start in
        let acts = series_acts calls start in
        let a = series-applies plan k calls start this in
        let long : 2 * n ≤ length after = applied-long I (small plan k h) acts start after held.long a in
        let s : Steady I (table_of after n)
        = rw (applied-table I (small plan k h) acts start after held.long a)
        (m.rests g (table_of start n) (is-table plan k h start) acts a.below enough).steady in
        record { unchanged = unchanged-of plan k h after long s; stays = stays plan k h after long s }

    cannot-rest : graded.CannotRest I → NoRunToRest plan k
    cannot-rest c =
        let laid = table_bytes c.table ++ [] in
        record {
          table = laid;
          size = laid-size c.table c.is_table c.legal;
          rule = laid-rule c.table c.is_table c.legal;
          never = λ r.
              c.never
              (subst (graded.CanRest I) (laid-is c.table c.is_table c.legal)
              (can-rest-back laid (laid-held c.table c.is_table c.legal) r));
        }

    cannot-rest-of : NoRunToRest plan k → graded.CannotRest I
    cannot-rest-of c =
        let held : HeldTable plan k c.table = record { long = omega (arith, c.size); rule = c.rule } in
        record {
          table = table_of c.table n;
          is_table = is-table plan k h c.table;
          legal = obeys c.table held;
          never = λ r. c.never (can-rest c.table held r);
        }

    some-comes-back : graded.SomeComesBack I → SomeRunComesBack plan k
    some-comes-back c =
        let laid = table_bytes c.table ++ [] in
        record {
          table = laid;
          size = laid-size c.table c.is_table c.legal;
          rule = laid-rule c.table c.is_table c.legal;
          acts = c.acts;
          comes_back =
              comes-back laid (laid-held c.table c.is_table c.legal) c.acts
              (subst (λ t. graded.ComesBack I t c.acts) (sym (laid-is c.table c.is_table c.legal)) c.comes_back);
        }

    no-rounds : 2 ≤ grade I → grade_rounds I ≡ 0
    unfolding grade_rounds
    no-rounds g = rw (ne_eqb (grade I) 1 (omega arith))

    stable-rounds : is_stable I ≡ true → grade_rounds I ≡ highest_of I + 2
    unfolding grade_rounds rest_rounds is_stable highest_of
    stable-rounds s = rw (eq-eqb (grade I) 1 (m.stable_list s), s)

    stable-grade : is_stable I ≡ true → grade I ≡ 1
    unfolding is_stable
    stable-grade s = m.stable_list s

    none-steady : ((table : List ℕ) → NoActChanges plan k table → ⊥) ↔ ((t : List Route) → IsTable I t → Steady I t → ⊥)
    none-steady = (
      λ never t is_table s.
          let legal = (steady-tables I).legal t is_table s in
          never (table_bytes t ++ [])
          (unchanged-of plan k h (table_bytes t ++ []) (omega (arith, laid-size t is_table legal)) (rw (laid-is t is_table legal) s)),
      λ never table u. never (table_of table n) (is-table plan k h table) (steady-of plan k h table u),
    )

    none-counted : (s : SteadyAnswer) (out : Lent (List ℕ)) → SteadyCall plan k s out → refusal_of s ≡ 0
        → ((table : List ℕ) → NoActChanges plan k table → ⊥) ↔ (count_of s ≡ 0)
    none-counted s out call ok =
        let l = every-steady-listed plan k s out call ok in (
          λ never.
              ⊎_elim
              (λ (p : 0 < count_of s).
              let x = (l.listed _).0 (record { at = 0; within = p; is = refl }) in
              absurd (never x.table x.unchanged))
              (λ (p : count_of s ≤ 0). omega arith)
              (lt-or-le 0 (count_of s)),
          λ e table u. omega (arith, (l.every table u).within),
        )

    grade-meaning : GradeMeaning plan k (grade I) (grade_rounds I)
    grade-meaning =
        record {
          least = m.least;
          most = m.most;
          rests = series-rest;
          others = no-rounds;
          can_rest = (
            λ g table held. can-rest table held (m.can_rest.0 g (table_of table n) (is-table plan k h table) (obeys table held)),
            λ all. m.can_rest.1 (λ t is_table legal.
                subst (graded.CanRest I) (laid-is t is_table legal)
                (can-rest-back (table_bytes t ++ []) (laid-held t is_table legal) (all (table_bytes t ++ []) (laid-held t is_table legal)))),
          );
          cannot_rest = (λ g. cannot-rest (m.cannot_rest.0 g), λ c. m.cannot_rest.1 (cannot-rest-of c));
          no_steady = (λ g. none-steady.1 (m.no_steady.0 g), λ never. m.no_steady.1 (none-steady.0 never));
          none_listed = λ s out call ok. (
            λ g. (none-counted s out call ok).0 (none-steady.1 (m.no_steady.0 g)),
            λ e. m.no_steady.1 (none-steady.0 ((none-counted s out call ok).1 e)),
          );
          comes_back = λ g. some-comes-back (m.comes_back g);
          moving = λ table acts held c r.
              m.moving (table_of table n) (is-table plan k h table) acts (comes-back-of table held acts c) r;
          stable = λ v labels ranks table shown call s.
              let z = not-refused plan k v labels ranks table shown call s in
              let is-stable : is_stable I ≡ true = sym (says plan k v labels ranks table shown call z) ∙ s in
              let a = (stable-verdict plan k v labels ranks table shown call (sym call.numbered ∙ z) is-stable).answer in
              (stable-grade is-stable, stable-rounds is-stable ∙ ap (λ x. x + 2) (sym (ap verdict_size a)));
        }

pub every-grade-means : EveryGradeMeans
every-grade-means plan k r call ok =
    let given : grade_refusal plan k ≡ 0 = sym call.numbered ∙ ok in
    let asked = grade-asked plan k given in
    let h : HasList plan k = record { plan_ok = asked.plan_ok; list_ok = asked.list } in
    rw (call.graded ∙ when-given _ _ _ given, call.rounds ∙ when-given _ _ _ given)
    (grade-meaning plan k h (grade-means (instance_of plan k)))
