-- Document 01, "Small plans": the cases M1 to M9 as entries of one list, in literal bytes and numbers. Crate plan_examples has the plans.
use Rattle.std.specs.Prelude.{ℕ, false, List, [], ◌∷◌}
use Rattle.plan_examples.specs.Plans.{small_plan, small_lists, m3_plan}
use Rattle.call_verdict.specs.declared.verdict.VerdictAnswer.TheVariants.{Stable, Suspect}
use Rattle.checker_examples.specs.Questions.{Question, verdict_asked, run_asked, Answer, verdict_is, run_is, Example, example, Hold}

-- the verdict of list k, with as many bytes lent as the call needs, all 255
abbrev pub verdict_on : (k : ℕ) → Question
verdict_on k =
    verdict_asked k (255 ∷ 255 ∷ 255 ∷ 255 ∷ []) (255 ∷ 255 ∷ 255 ∷ 255 ∷ [])
    (255 ∷ 255 ∷ 255 ∷ 255 ∷ 255 ∷ 255 ∷ 255 ∷ 255 ∷ [])
    (255 ∷ 255 ∷ 255 ∷ 255 ∷ [])

-- a stable verdict: each router is its own group, and the cycle's bytes are as they were
abbrev pub stable_is : (highest : ℕ) (ranks settled : List ℕ) → Answer
stable_is highest ranks settled = verdict_is (Stable highest) (0 ∷ 1 ∷ 2 ∷ 3 ∷ []) ranks settled (255 ∷ 255 ∷ 255 ∷ 255 ∷ [])

-- "suspect, labels 0 0 2 3, ring 0 1": the bytes of ranks and table, and those after the cycle (the paper's ring), are as they were
abbrev pub suspect_is : Answer
suspect_is =
    verdict_is (Suspect 2) (0 ∷ 0 ∷ 2 ∷ 3 ∷ []) (255 ∷ 255 ∷ 255 ∷ 255 ∷ [])
    (255 ∷ 255 ∷ 255 ∷ 255 ∷ 255 ∷ 255 ∷ 255 ∷ 255 ∷ [])
    (0 ∷ 1 ∷ 255 ∷ 255 ∷ [])

-- a run of all of four acts for "list 2,3, unlisted hold nothing"; one round, and the table they leave
abbrev pub run_of : (acts : List ℕ) → Question
run_of acts = run_asked 0 acts 4 (255 ∷ 255 ∷ 255 ∷ 255 ∷ 2 ∷ 2 ∷ 3 ∷ 3 ∷ [])

abbrev pub one_round : (table : List ℕ) → Answer
one_round table = run_is 0 4 1 false table

-- "M1 (M1 to M5 have list 2,3): p = q = 14: stable, ranks 1 1 0 0, each holds the near client."
unfoldable pub M1 : Example
M1 = example (small_plan 14 14 small_lists) (verdict_on 0) (stable_is 1 (1 ∷ 1 ∷ 0 ∷ 0 ∷ []) (2 ∷ 2 ∷ 3 ∷ 3 ∷ 2 ∷ 2 ∷ 3 ∷ 3 ∷ []))

-- "M2: p = 6, q = 14: ranks 2 1 0 0; router 0 holds 3 from 1."
unfoldable pub M2 : Example
M2 = example (small_plan 6 14 small_lists) (verdict_on 0) (stable_is 2 (2 ∷ 1 ∷ 0 ∷ 0 ∷ []) (3 ∷ 1 ∷ 3 ∷ 3 ∷ 2 ∷ 2 ∷ 3 ∷ 3 ∷ []))

-- "M3: p = q = 6: suspect, labels 0 0 2 3, ring 0 1."
unfoldable pub M3 : Example
M3 = example m3_plan (verdict_on 0) suspect_is

-- "M4: p = q = 10: ranks 1 2 0 0; router 1 holds 2 from 0."
unfoldable pub M4 : Example
M4 = example (small_plan 10 10 small_lists) (verdict_on 0) (stable_is 2 (1 ∷ 2 ∷ 0 ∷ 0 ∷ []) (2 ∷ 2 ∷ 2 ∷ 0 ∷ 2 ∷ 2 ∷ 3 ∷ 3 ∷ []))

-- "M5: p = 9, q = 10: suspect, ring 0 1."
unfoldable pub M5 : Example
M5 = example (small_plan 9 10 small_lists) (verdict_on 0) suspect_is

-- "M6: M3's distances, list 3: ranks 2 1 3 0; router 2 holds 3 from 0."
unfoldable pub M6 : Example
M6 = example m3_plan (verdict_on 1) (stable_is 3 (2 ∷ 1 ∷ 3 ∷ 0 ∷ []) (3 ∷ 1 ∷ 3 ∷ 3 ∷ 3 ∷ 0 ∷ 3 ∷ 3 ∷ []))

-- "M7: M3's distances, list 0: ranks 0 1 1 2; router 3 holds 0 from 1."
unfoldable pub M7 : Example
M7 = example m3_plan (verdict_on 2) (stable_is 2 (0 ∷ 1 ∷ 1 ∷ 2 ∷ []) (0 ∷ 0 ∷ 0 ∷ 0 ∷ 0 ∷ 0 ∷ 0 ∷ 1 ∷ []))

-- "M8: M3's plan, list 2,3, unlisted hold nothing, acts 0 1 2 3: router 0 holds 2 from 2, 1 holds 2 from 0; one round."
unfoldable pub M8 : Example
M8 = example m3_plan (run_of (0 ∷ 1 ∷ 2 ∷ 3 ∷ [])) (one_round (2 ∷ 2 ∷ 2 ∷ 0 ∷ 2 ∷ 2 ∷ 3 ∷ 3 ∷ []))

-- "M9: the same, acts 1 0 2 3: 1 holds 3 from 3, 0 holds 3 from 1."
unfoldable pub M9 : Example
M9 = example m3_plan (run_of (1 ∷ 0 ∷ 2 ∷ 3 ∷ [])) (one_round (3 ∷ 1 ∷ 3 ∷ 3 ∷ 2 ∷ 2 ∷ 3 ∷ 3 ∷ []))

unfoldable pub small_plans : List Example
small_plans = M1 ∷ M2 ∷ M3 ∷ M4 ∷ M5 ∷ M6 ∷ M7 ∷ M8 ∷ M9 ∷ []

-- The calls give each entry's answer.
abbrev pub SmallPlansHold : Type 0
SmallPlansHold = Hold small_plans
