-- Two plans of one network, list by list: the calls answer alike on both.
use Prim.Native.Nat.{ℕ, zero, suc, ◌*◌, ◌<◌, min}
use mathlib.Core.Path.{◌≡◌, refl, ◌∙◌, sym, ap, ap₂}
use mathlib.Core.Bool.{Bool, true, false, cond, ◌&&◌}
use mathlib.Core.List.{List, ◌++◌}
use mathlib.Core.Logic.{inl, inr}
use lib.Dec.{leb, ltb}
use lib.ListN.{length, take, drop}
use lib.Seq.{take_at}
use borrow.Author.Tests.{ltb-true}
use Rattle.base.specs.Tab.{tab}
use Rattle.base.proofs.Numbers.{both_left}
use Rattle.base.proofs.Tab.{tab-cong}
use Rattle.plan_contents.specs.Header.{router_count}
use Rattle.plan_rules.specs.Distances.{TwoOrFour}
use Rattle.plan_rules.specs.Lists.{list_count_in}
use Rattle.plan_rules.specs.EgressLists.{list_count, list_numbers}
use Rattle.plan_rules.specs.Refusal.{refuse, plan_refusal}
use Rattle.plan_rules.specs.Refused.{unless_refused, field, flag_field}
use Rattle.plan_rules.specs.Converted.{converted, distances_fit, widen_refusal, narrow_refusal}
use Rattle.plan_rules.proofs.Cascade.{plan-passes, refuse-passed}
use Rattle.plan_rules.proofs.Refused.{when-given}
use Rattle.plan_rules.proofs.Passed.{passed, accepted}
use Rattle.plan_rules.proofs.Converted.{fit-four, converted-facts, narrow-after-widen, widen-after-narrow}
use Rattle.plan_rules.proofs.ConverterRows.{near-holds, widen-exactly, narrow-exactly}
use Rattle.route_rules.specs.Instance.{Instance}
use Rattle.route_rules.specs.Preference.{margin_of}
use Rattle.route_rules.specs.Reliance.{relies}
use Rattle.route_rules.specs.Rounds.{rounds}
use Rattle.route_explain_rules.specs.Explained.{explained}
use Rattle.route_explain_rules.specs.declared.explanation.Explanation.TheVariants as explanations
use Rattle.steady_rules.specs.Steady.{steady_numbers, steady_count}
use Rattle.net_rules.specs.FromPlan.{instance_of}
use Rattle.net_rules.proofs.FromConverted.{converted-instance}
use Rattle.net_tables.specs.TableBytes.{activate_bytes, run_bytes}
use Rattle.net_verdict.specs.Assessed.{found, labels_left, ranks_left, table_left, cycle_left}
use Rattle.call_rules.specs.Refusals.{sequence_ok, asked_checks, egress_list_refusal, compare_refusal, relies_refusal, verdict_refusal, buffers_ok, steady_checks, steady_refusal, few_grouped, hop_set_refusal, grade_refusal, table_checks, activate_refusal, run_refusal, counts_ok, figures_refusal, every_list_refusal}
use Rattle.call_rules.proofs.Granted.{list-asked, relies-asked, verdict-asked, steady-asked, hop-set-asked, grade-asked}
use Rattle.call_query.specs.declared.size.SizeAnswer.{SizeAnswer}
use Rattle.call_query.specs.declared.relies.ReliesAnswer.TheVariants as reliances
use Rattle.call_query.specs.declared.relies.ReliesAnswer.TheVariants.{Yes, No}
use Rattle.call_query.specs.Size.{size_routers, size_lists, Sizes}
use Rattle.call_query.specs.Relies.{relied}
use Rattle.call_compare.specs.declared.compare.CompareAnswer.TheVariants as comparisons
use Rattle.call_compare.specs.declared.compare.CompareAnswer.TheVariants.{Compared}
use Rattle.call_compare.specs.Compare.{compared, preferred_of, margin_case}
use Rattle.call_convert.specs.declared.convert.ConvertAnswer.{ConvertAnswer}
use Rattle.call_convert.specs.Convert.{convert_length, convert_buffer, Converts, Widens, Narrows}
use Rattle.call_verdict.specs.declared.verdict.VerdictAnswer.{VerdictAnswer}
use Rattle.call_verdict.specs.declared.verdict.VerdictAnswer.TheVariants as verdicts
use Rattle.call_verdict.specs.Verdict.{answer_of, verdict_answer, labels_after, ranks_after, table_after, cycle_after, VerdictCall}
use Rattle.call_steady.specs.declared.steady.SteadyAnswer.{SteadyAnswer}
use Rattle.call_steady.specs.declared.steady.SteadyAnswer.TheVariants as steadies
use Rattle.call_hopset.specs.declared.hop_set.HopSetAnswer.TheVariants as sets
use Rattle.call_hopset.specs.HopSet.{hop_set_answer}
use Rattle.hopset_rules.specs.HopSet.{hop_set}
use Rattle.grade_rules.specs.Grade.{grade, grade_rounds}
use Rattle.net_grade.specs.Grades.{grade_named}
use Rattle.call_grade.specs.declared.grade.GradeAnswer.TheVariants as gradings
use Rattle.call_grade.specs.Grade.{grade_answer}
use Rattle.call_steady.specs.Steady.{number_bytes, steady_answer, numbers_after, SteadyCall}
use Rattle.everylist_rules.specs.EveryList.{with_list, every_list, suspect_list}
use Rattle.figures_rules.specs.Figures.{stable_with, grouped_lists, figures_of}
use Rattle.figures_rules.proofs.SameLists.{figures-same, ranks-same, routers-same}
use Rattle.call_everylist.specs.declared.every_list.EveryListAnswer.{EveryListAnswer}
use Rattle.call_everylist.specs.declared.every_list.EveryListAnswer.TheVariants as everies
use Rattle.call_everylist.specs.EveryList as asked
use Rattle.call_everylist.specs.EveryList.{every_list_answer, list_after, EveryListCall}
use Rattle.call_figures.specs.declared.figures.FiguresAnswer.{FiguresAnswer}
use Rattle.call_figures.specs.declared.figures.FiguresAnswer.TheVariants as figures
use Rattle.call_figures.specs.Figures.{plan_figures, rank_counts, router_counts, rank_counts_left, router_counts_left, figures_answer, rank_counts_after, router_counts_after, FiguresCall}
use Rattle.call_run.specs.declared.run.RunAnswer.{RunAnswer}
use Rattle.call_run.specs.Activate.{activate_table}
use Rattle.call_run.specs.Run.{run_applied, run_rounds, run_exhausted, run_table, Runs}
use Rattle.checker_theorems.specs.Conversions.{left, SameCalls, wrote, Alike, AnswersAlike, Back, GoesBack, Conversions}

-- what stands beside a refusal number counts only if nothing is refused
unless-same : {A : Type 0} (number : ℕ) (refused x y : A) → (number ≡ 0 → x ≡ y) → unless_refused number refused x ≡ unless_refused number refused y
unless-same zero refused x y h = h refl
unless-same (suc number) refused x y h = refl

refuse-same : (ok : Bool) (number rest rest' : ℕ) → (ok ≡ true → rest ≡ rest') → refuse ok number rest ≡ refuse ok number rest'
unfolding refuse
refuse-same true number rest rest' h = h refl
refuse-same false number rest rest' h = refl

module _ (plan result : List ℕ) (ok : plan_refusal plan ≡ 0) (ok' : plan_refusal result ≡ 0)
    (count : router_count result ≡ router_count plan) (lists : list_count result ≡ list_count plan)
    (network : (k : ℕ) → k < list_count plan → instance_of result k ≡ instance_of plan k)
    (numbers : (k : ℕ) → k < list_count plan → list_numbers result k ≡ list_numbers plan k) where
  -- the rows of a call, its own conditions being functions of n and m
  asked-same : (test : ℕ → ℕ → Bool) (rest rest' : ℕ) → (test (router_count plan) (list_count plan) ≡ true → rest' ≡ rest)
      → asked_checks result (test (router_count result) (list_count result)) rest' ≡ asked_checks plan (test (router_count plan) (list_count plan)) rest
  asked-same test rest rest' h =
      plan-passes result _ ok'
      ∙ ap₂ (λ n m. refuse (test n m) 8 rest') count lists
      ∙ refuse-same (test (router_count plan) (list_count plan)) 8 rest' rest h
      ∙ sym (plan-passes plan _ ok)

  -- a call that is not refused meets its conditions of row 8
  asked-ok : (test : Bool) (rest : ℕ) → asked_checks plan test rest ≡ 0 → test ≡ true
  asked-ok test rest z = (refuse-passed test 7 rest (sym (plan-passes plan _ ok) ∙ z)).0

  some-list : 0 < list_count plan
  some-list = (passed plan ok).lists.some

  list-refusal : (k : ℕ) → egress_list_refusal result k ≡ egress_list_refusal plan k
  unfolding egress_list_refusal
  list-refusal k = asked-same (λ n m. ltb k m) 0 0 (λ h. refl)

  compare-refusal : (w e f : ℕ) → compare_refusal result w e f ≡ compare_refusal plan w e f
  unfolding compare_refusal
  compare-refusal w e f = asked-same (λ n m. ltb w n && ltb e n && ltb f n) 0 0 (λ h. refl)

  relies-refusal : (k w v : ℕ) → relies_refusal result k w v ≡ relies_refusal plan k w v
  unfolding relies_refusal
  relies-refusal k w v = asked-same (λ n m. ltb k m && ltb w n && ltb v n) 0 0 (λ h. refl)

  verdict-refusal : (k : ℕ) (a b c d : List ℕ) → verdict_refusal result k a b c d ≡ verdict_refusal plan k a b c d
  unfolding verdict_refusal
  verdict-refusal k a b c d = asked-same (λ n m. ltb k m) _ _ (λ h. ap (λ n. refuse (buffers_ok n a b c d) 9 0) count)

  steady-refusal : (k : ℕ) (out : List ℕ) → steady_refusal result k out ≡ steady_refusal plan k out
  unfolding steady_refusal
  steady-refusal k out = asked-same (λ n m. ltb k m) _ _ (λ h. ap (λ I. steady_checks I out) (network k (ltb-true k _ h)))

  hop-set-refusal : (k : ℕ) → hop_set_refusal result k ≡ hop_set_refusal plan k
  unfolding hop_set_refusal
  hop-set-refusal k = asked-same (λ n m. ltb k m) _ _ (λ h. ap (λ I. refuse (few_grouped I) 15 0) (network k (ltb-true k _ h)))

  grade-refusal : (k : ℕ) → grade_refusal result k ≡ grade_refusal plan k
  unfolding grade_refusal
  grade-refusal k = asked-same (λ n m. ltb k m) _ _ (λ h. ap (λ I. refuse (few_grouped I) 15 0) (network k (ltb-true k _ h)))

  activate-refusal : (k w : ℕ) (table : List ℕ) → activate_refusal result k w table ≡ activate_refusal plan k w table
  unfolding activate_refusal
  activate-refusal k w table =
      asked-same (λ n m. ltb k m && ltb w n) _ _
      (λ h. ap (λ I. table_checks I table) (network k (ltb-true k _ (both_left _ _ h))))

  run-refusal : (k : ℕ) (acts table : List ℕ) → run_refusal result k acts table ≡ run_refusal plan k acts table
  unfolding run_refusal
  run-refusal k acts table =
      asked-same (λ n m. ltb k m && sequence_ok acts n) _ _
      (λ h. ap (λ I. table_checks I table) (network k (ltb-true k _ (both_left _ _ h))))

  -- an answer of the plan's network with list k, beside a refusal number that is not given where there is no such list
  by-network : {A : Type 0} (k number number' : ℕ) (refused : ℕ → A) (value : Instance → A) → number' ≡ number → (number ≡ 0 → k < list_count plan)
      → unless_refused number' (refused number') (value (instance_of result k)) ≡ unless_refused number (refused number) (value (instance_of plan k))
  by-network k number number' refused value same asked =
      ap (λ x. unless_refused x (refused x) (value (instance_of result k))) same ∙ unless-same number _ _ _ (λ z. ap value (network k (asked z)))

  -- list k is there where a call is not refused
  relies-list : (k w v : ℕ) → relies_refusal plan k w v ≡ 0 → k < list_count plan
  relies-list k w v z = (relies-asked plan k w v z).list

  activate-list : (k w : ℕ) (table : List ℕ) → activate_refusal plan k w table ≡ 0 → k < list_count plan
  unfolding activate_refusal
  activate-list k w table z = ltb-true k _ (both_left _ _ (asked-ok _ _ z))

  run-list : (k : ℕ) (acts table : List ℕ) → run_refusal plan k acts table ≡ 0 → k < list_count plan
  unfolding run_refusal
  run-list k acts table z = ltb-true k _ (both_left _ _ (asked-ok _ _ z))

  same_size : (r r' : SizeAnswer) → Sizes plan r → Sizes result r' → r' ≡ r
  unfolding size_routers size_lists
  same_size r r' s s' =
      let number : r'.refused ≡ r.refused = s'.number ∙ ok' ∙ sym (s.number ∙ ok) in
      let routers : r'.routers ≡ r.routers = s'.routers ∙ ap₂ field (ok' ∙ sym ok) count ∙ sym s.routers in
      let m : r'.lists ≡ r.lists = s'.lists ∙ ap₂ field (ok' ∙ sym ok) lists ∙ sym s.lists in
      λ i. record { refused = number i; routers = routers i; lists = m i }

  same-run : (k : ℕ) (acts : List ℕ) (limit : ℕ) (table : List ℕ) (r r' : RunAnswer) (after after' : List ℕ)
      → Runs plan k acts limit table r after → Runs result k acts limit table r' after' → (r' ≡ r) × (after' ≡ after)
  unfolding run_applied run_rounds run_exhausted run_table
  same-run k acts limit table r r' after after' s s' =
      let same = run-refusal k acts table in
      let number : r'.refused ≡ r.refused = s'.number ∙ same ∙ sym s.number in
      let applied : r'.applied ≡ r.applied = s'.applied ∙ ap (λ x. field x (min limit (length acts))) same ∙ sym s.applied in
      let whole : r'.rounds ≡ r.rounds = s'.whole ∙ ap₂ (λ x n. field x (rounds n (take limit acts))) same count ∙ sym s.whole in
      let exhausted : r'.exhausted ≡ r.exhausted = s'.exhausted ∙ ap (λ x. flag_field x (ltb limit (length acts))) same ∙ sym s.exhausted in (
        λ i. record { refused = number i; applied = applied i; rounds = whole i; exhausted = exhausted i },
        s'.bytes ∙ by-network k _ _ (λ x. table) (λ I. run_bytes I table (take limit acts)) same (run-list k acts table) ∙ sym s.bytes,
      )

  same-verdict : (k : ℕ) (labels ranks table shown : List ℕ) (r r' : VerdictAnswer) (a b c d a' b' c' d' : List ℕ)
      → VerdictCall plan k r (left labels a) (left ranks b) (left table c) (left shown d)
      → VerdictCall result k r' (left labels a') (left ranks b') (left table c') (left shown d')
      → (r' ≡ r) × (a' ≡ a) × (b' ≡ b) × (c' ≡ c) × (d' ≡ d)
  unfolding verdict_answer labels_after ranks_after table_after cycle_after
  same-verdict k labels ranks table shown r r' a b c d a' b' c' d' s s' =
      let same = verdict-refusal k labels ranks table shown in
      let list : verdict_refusal plan k labels ranks table shown ≡ 0 → k < list_count plan = λ z. (verdict-asked plan k labels ranks table shown z).list in (
        s'.answer ∙ by-network k _ _ verdicts.Refused (λ I. answer_of (found I)) same list ∙ sym s.answer,
        s'.labelled ∙ by-network k _ _ (λ x. labels) (λ I. labels_left I labels) same list ∙ sym s.labelled,
        s'.ranked ∙ by-network k _ _ (λ x. ranks) (λ I. ranks_left I ranks) same list ∙ sym s.ranked,
        s'.settled ∙ by-network k _ _ (λ x. table) (λ I. table_left I table) same list ∙ sym s.settled,
        s'.cycled ∙ by-network k _ _ (λ x. shown) (λ I. cycle_left I shown) same list ∙ sym s.cycled,
      )

  same-steady : (k : ℕ) (out : List ℕ) (r r' : SteadyAnswer) (after after' : List ℕ) → SteadyCall plan k r (left out after)
      → SteadyCall result k r' (left out after') → (r' ≡ r) × (after' ≡ after)
  unfolding steady_answer numbers_after
  same-steady k out r r' after after' s s' =
      let same = steady-refusal k out in
      let list : steady_refusal plan k out ≡ 0 → k < list_count plan = λ z. (steady-asked plan k out z).list in (
        s'.answer ∙ by-network k _ _ steadies.Refused (λ I. steadies.Listed (steady_count I)) same list ∙ sym s.answer,
        s'.written
            ∙ by-network k _ _ (λ x. out) (λ I. number_bytes (steady_numbers I) ++ drop (2 * steady_count I) out) same list
            ∙ sym s.written,
      )

  -- the figures, of the same networks list by list
  figures-refusal : (a b : List ℕ) → figures_refusal result a b ≡ figures_refusal plan a b
  unfolding figures_refusal
  figures-refusal a b =
      plan-passes result _ ok' ∙ ap (λ n. refuse (counts_ok n a b) 9 0) count ∙ sym (plan-passes plan _ ok)

  figures-counted : plan_figures result ≡ plan_figures plan
  figures-counted = ap (figures_of (instance_of result)) lists ∙ figures-same (instance_of result) (instance_of plan) (list_count plan) network

  ranks-counted : (a : List ℕ) → rank_counts_left result a ≡ rank_counts_left plan a
  unfolding rank_counts_left rank_counts
  ranks-counted a =
      ap₂ (λ n m. tab (stable_with (instance_of result) m) n ++ drop n a) count lists
      ∙ ap (λ t. t ++ drop (router_count plan) a)
      (tab-cong _ _ (router_count plan) (λ r l. ranks-same (instance_of result) (instance_of plan) (list_count plan) network r))

  routers-counted : (b : List ℕ) → router_counts_left result b ≡ router_counts_left plan b
  unfolding router_counts_left router_counts
  routers-counted b =
      ap₂ (λ n m. tab (grouped_lists (instance_of result) m) n ++ drop n b) count lists
      ∙ ap (λ t. t ++ drop (router_count plan) b)
      (tab-cong _ _ (router_count plan) (λ w l. routers-same (instance_of result) (instance_of plan) (list_count plan) network w))

  same-figures : (ranks routers : List ℕ) (r r' : FiguresAnswer) (a b a' b' : List ℕ) → FiguresCall plan r (left ranks a) (left routers b)
      → FiguresCall result r' (left ranks a') (left routers b') → (r' ≡ r) × (a' ≡ a) × (b' ≡ b)
  unfolding figures_answer rank_counts_after router_counts_after
  same-figures ranks routers r r' a b a' b' s s' =
      let same = figures-refusal ranks routers in (
        s'.answer ∙ ap₂ (λ x f. unless_refused x (figures.Refused x) (figures.Counted f)) same figures-counted ∙ sym s.answer,
        s'.by_rank ∙ ap₂ (λ x l. unless_refused x ranks l) same (ranks-counted ranks) ∙ sym s.by_rank,
        s'.by_router ∙ ap₂ (λ x l. unless_refused x routers l) same (routers-counted routers) ∙ sym s.by_router,
      )

  -- whether every list is stable, of the same network
  every-list-refusal : (list : List ℕ) → every_list_refusal result list ≡ every_list_refusal plan list
  unfolding every_list_refusal
  every-list-refusal list =
      plan-passes result _ ok' ∙ ap (λ n. refuse (leb n (length list)) 9 0) count ∙ sym (plan-passes plan _ ok)

  same-every-list : (list : List ℕ) (r r' : EveryListAnswer) (after after' : List ℕ) → EveryListCall plan r (left list after)
      → EveryListCall result r' (left list after') → (r' ≡ r) × (after' ≡ after)
  unfolding every_list_answer list_after
  same-every-list list r r' after after' s s' =
      let same = every-list-refusal list in (
        s'.answer
            ∙ by-network 0 _ _ everies.Refused
            (λ I. asked.answer_of (every_list (with_list I (λ v. false))) (length (suspect_list (with_list I (λ v. false))))) same (λ z. some-list)
            ∙ sym s.answer,
        s'.written
            ∙ by-network 0 _ _ (λ x. list)
            (λ I. suspect_list (with_list I (λ v. false)) ++ drop (length (suspect_list (with_list I (λ v. false)))) list) same (λ z. some-list)
            ∙ sym s.written,
      )

  pub same-calls : SameCalls plan result
  unfolding relied compared hop_set_answer grade_answer activate_table
  same-calls =
      record {
        check = ok' ∙ sym ok;
        size = same_size;
        list_refusal = list-refusal;
        list = λ k z. numbers k (list-asked plan k z).list;
        compare =
            λ w e d f d' r r' s s'.
            s'.answer
            ∙ by-network 0 _ _ comparisons.Refused (λ I. Compared (preferred_of I w e d f d') (margin_case (margin_of I w e f))) (compare-refusal w e f) (λ z. some-list)
            ∙ sym s.answer;
        relies =
            λ k w v r r' s s'.
            s'.answer
            ∙ by-network k _ _ reliances.Refused (λ I. cond (relies I w v) Yes No) (relies-refusal k w v) (relies-list k w v)
            ∙ sym s.answer;
        explain =
            λ k w v r r' s s'.
            s'.answer
            ∙ by-network k _ _ explanations.Refused (λ I. explained I w v) (relies-refusal k w v) (relies-list k w v)
            ∙ sym s.answer;
        verdict = same-verdict;
        steady = same-steady;
        grade =
            λ k r r' s s'.
            s'.answer
            ∙ by-network k _ _ gradings.Refused (λ I. gradings.Graded (grade_named (grade I)) (grade_rounds I)) (grade-refusal k)
            (λ z. (grade-asked plan k z).list)
            ∙ sym s.answer;
        hop_set =
            λ k r r' s s'.
            s'.answer
            ∙ by-network k _ _ sets.Refused (λ I. sets.Named (hop_set I)) (hop-set-refusal k) (λ z. (hop-set-asked plan k z).list)
            ∙ sym s.answer;
        figures = same-figures;
        every_list = same-every-list;
        activate =
            λ k w table r r' after after' s s'. (
              s'.number ∙ activate-refusal k w table ∙ sym s.number,
              s'.bytes
                  ∙ by-network k _ _ (λ x. table) (λ I. activate_bytes I w table) (activate-refusal k w table) (activate-list k w table)
                  ∙ sym s.bytes,
            );
        run = same-run;
      }

-- what a conversion that is not refused writes
module _ (to : ℕ) (plan : List ℕ) (number : ℕ) (out : List ℕ) (r : ConvertAnswer) (after : List ℕ)
    (call : Converts to plan number out r after) (given : r.refused ≡ 0) where
  number_is : number ≡ 0
  number_is = sym call.numbered ∙ given

  long-is : r.length ≡ length (converted to plan)
  unfolding convert_length
  long-is = call.long ∙ when-given number _ _ number_is

  written_is : wrote r after ≡ converted to plan
  unfolding convert_buffer
  written_is =
      ap₂ take long-is (call.bytes ∙ when-given number _ _ number_is)
      ∙ take_at (converted to plan) (drop (length (converted to plan)) out) (length (converted to plan)) refl

-- .. is the same network, list by list
converted-alike : (to : ℕ) → TwoOrFour to → (plan : List ℕ) → plan_refusal plan ≡ 0 → distances_fit to plan ≡ true → Alike to plan (converted to plan)
converted-alike to t plan ok fit =
    let f = converted-facts to t plan ok fit in
    record {
      bodies = f;
      calls = same-calls plan (converted to plan) ok f.passes f.count (ap list_count_in f.lists) (converted-instance to t plan ok fit) f.numbers;
    }

widened : AnswersAlike 4 Widens
widened plan out after r b call given =
    let h = (widen-exactly plan (length out)).none.0 (number_is 4 plan _ out r after call given) in
    rw (written_is 4 plan _ out r after call given) (converted-alike 4 (inr refl) plan (accepted plan h.1) (fit-four plan b))

narrowed : AnswersAlike 2 Narrows
narrowed plan out after r b call given =
    let h = (narrow-exactly plan (length out)).none.0 (number_is 2 plan _ out r after call given) in
    rw (written_is 2 plan _ out r after call given) (converted-alike 2 (inl refl) plan (accepted plan h.1) (near-holds plan h.2))

-- a conversion that is not refused, of bytes that are converted to the plan
back_to : (to : ℕ) (plan result : List ℕ) (number : ℕ) (out : List ℕ) (r : ConvertAnswer) (after : List ℕ)
    → Converts to result number out r after → number ≡ 0 → converted to result ≡ plan → Back plan r after
back_to to plan result number out r after call z same =
    let given = call.numbered ∙ z in
    record {
      taken = given;
      long = long-is to result number out r after call given ∙ ap length same;
      identical = written_is to result number out r after call given ∙ same;
    }

narrow_back : GoesBack Widens Narrows
narrow_back plan out after out' after' r r' b there given back room =
    let f = narrow-after-widen plan b (length out) (number_is 4 plan _ out r after there given) in
    let w = written_is 4 plan _ out r after there given in
    back_to 2 plan _ _ out' r' after' back (ap (λ p. narrow_refusal p (length out')) w ∙ f.accepted (length out') room) (ap (converted 2) w ∙ f.bytes)

widen-back : GoesBack Narrows Widens
widen-back plan out after out' after' r r' b there given back room =
    let f = widen-after-narrow plan b (length out) (number_is 2 plan _ out r after there given) in
    let w = written_is 2 plan _ out r after there given in
    back_to 4 plan _ _ out' r' after' back (ap (λ p. widen_refusal p (length out')) w ∙ f.accepted (length out') room) (ap (converted 4) w ∙ f.bytes)

pub conversions : Conversions
conversions =
    record { widened = widened; narrowed = narrowed; narrow_after_widen = narrow_back; widen_after_narrow = widen-back }
