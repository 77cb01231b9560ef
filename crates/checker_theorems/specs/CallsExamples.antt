-- An example of a series of calls, in literal bytes and numbers, that tells its rules from a misreading of them. After "Misread" stands
-- what a misreading gives. List 1 of M3's plan names router 3 alone, and is stable.
use Rattle.std.specs.Prelude.{ℕ, ◌≡◌, List, [], ◌∷◌}
use Rattle.route_rules.specs.Rounds.{rounds}
use Rattle.call_run.specs.Run.{run_rounds}
use Rattle.plan_examples.specs.Plans.{m3_plan}
use Rattle.checker_theorems.specs.Series.{Call, activate_call, run_call, call_refusal, series_buffer, series_acts, ForThis, Start, Enough}

-- a table with a left-over route, 2 from 2 at router 0, and one byte after it
unfoldable pub start : List ℕ
start = 2 ∷ 2 ∷ 255 ∷ 255 ∷ 255 ∷ 255 ∷ 3 ∷ 3 ∷ 9 ∷ []

-- an act, a run that its limit cuts short, two calls that are refused, and a run
unfoldable pub calls : List Call
calls =
    activate_call m3_plan 1 0
    ∷ run_call m3_plan 1 (1 ∷ 2 ∷ 3 ∷ 0 ∷ []) 3
    ∷ activate_call m3_plan 1 4
    ∷ run_call [] 7 (5 ∷ []) 1
    ∷ run_call m3_plan 1 (0 ∷ 1 ∷ 2 ∷ 3 ∷ []) 9
    ∷ []

-- a run of so many rounds, each of the acts 3 2 1 0
unfoldable pub rounds_of : (acts : List ℕ) → List Call
rounds_of acts = run_call m3_plan 1 acts 99 ∷ []

abbrev pub four_rounds : List Call
four_rounds = rounds_of (3 ∷ 2 ∷ 1 ∷ 0 ∷ 3 ∷ 2 ∷ 1 ∷ 0 ∷ 3 ∷ 2 ∷ 1 ∷ 0 ∷ 3 ∷ 2 ∷ 1 ∷ 0 ∷ [])

abbrev pub five_rounds : List Call
five_rounds = rounds_of (3 ∷ 2 ∷ 1 ∷ 0 ∷ 3 ∷ 2 ∷ 1 ∷ 0 ∷ 3 ∷ 2 ∷ 1 ∷ 0 ∷ 3 ∷ 2 ∷ 1 ∷ 0 ∷ 3 ∷ 2 ∷ 1 ∷ 0 ∷ [])

abbrev pub one_act_each : List Call
one_act_each = activate_call m3_plan 1 0 ∷ activate_call m3_plan 1 1 ∷ activate_call m3_plan 1 2 ∷ activate_call m3_plan 1 3 ∷ []

pub record SeriesExamples : Type 0 where
  -- "Fix a plan and one of its lists whose verdict is stable. .. It starts from a lent buffer whose first 2n bytes are any held-route
  -- table for that plan and list."
  pub starts : Start m3_plan 1 start
  -- "A call that is not refused is for this plan and list; a refused one may be handed anything beside the buffer."
  pub for_this : ForThis m3_plan 1 calls start
  pub refused_at_n : call_refusal (activate_call m3_plan 1 4) start ≡ 8
  pub refused_plan : call_refusal (run_call [] 7 (5 ∷ []) 1) start ≡ 1
  -- "The acts of the series, in order, are the router of each act call and the sequence of each run up to its limit; a refused call adds
  -- none." Misread past the limit: 0 1 2 3 0 0 1 2 3. With those of refused calls: 0 1 2 3 4 5 0 1 2 3.
  pub acts : series_acts calls start ≡ 0 ∷ 1 ∷ 2 ∷ 3 ∷ 0 ∷ 1 ∷ 2 ∷ 3 ∷ []
  -- "The rounds of the series are counted over all these acts as one sequence, .. so a round may begin in one call and end in another."
  -- Misread call by call: 1.
  pub rounds_of_all : rounds 4 (series_acts calls start) ≡ 2
  -- "What a run returns still counts its own acts alone": the first run. Misread with the act before it: 1.
  pub rounds_of_a_run : run_rounds 0 m3_plan (1 ∷ 2 ∷ 3 ∷ 0 ∷ []) 3 ≡ 0
  -- "Each call is lent this buffer as the call before left it". Misread as the start for each: 255 255 3 3 255 255 3 3 9.
  pub buffer : series_buffer calls start ≡ 3 ∷ 1 ∷ 3 ∷ 3 ∷ 3 ∷ 0 ∷ 3 ∷ 3 ∷ 9 ∷ []
  -- "at least the highest rank plus two": the highest rank is 3. Misread as plus one: four are enough. As plus three: five are not.
  pub four_are_not_enough : Enough m3_plan 1 four_rounds start → ⊥
  pub five_are_enough : Enough m3_plan 1 five_rounds start
  -- "the first 2n bytes then equal .. the settled table .., and no later act or call of the series alters a byte": after five rounds, and
  -- after calls of one more act each.
  pub settled : series_buffer five_rounds start ≡ 3 ∷ 1 ∷ 3 ∷ 3 ∷ 3 ∷ 0 ∷ 3 ∷ 3 ∷ 9 ∷ []
  pub later : series_buffer one_act_each (series_buffer five_rounds start) ≡ 3 ∷ 1 ∷ 3 ∷ 3 ∷ 3 ∷ 0 ∷ 3 ∷ 3 ∷ 9 ∷ []
