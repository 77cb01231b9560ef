-- Examples of a list of nobody, in literal bytes and numbers, that tell its rules from a misreading of them. After "Misread" stands what a
-- misreading gives.
use Rattle.std.specs.Prelude.{ℕ, ◌≡◌, List, [], ◌∷◌}
use Rattle.net_rules.specs.FromPlan.{instance_of}
use Rattle.net_verdict.specs.Assessed.{ranks_of, settled_bytes}
use Rattle.call_rules.specs.Refusals.{table_checks}
use Rattle.plan_examples.specs.Plans.{small_plan, nobody_between}
use Rattle.checker_theorems.specs.Series.{Call, run_call, series_buffer, ForThis}
use Rattle.checker_theorems.specs.Nobody.{ListsNobody, LeftOver, LeftOf, rounds_in}

-- M3's plan with other lists: list 0 names router 3, list 1 nobody. 0 and 1 are reflectors, 2 is a client of 0, and 3 one of 1.
unfoldable pub gone_plan : List ℕ
gone_plan = small_plan 6 6 (2 ∷ 1 ∷ 3 ∷ 0 ∷ [])

-- list 0's settled table
abbrev pub old : List ℕ
old = 3 ∷ 1 ∷ 3 ∷ 3 ∷ 3 ∷ 0 ∷ 3 ∷ 3 ∷ []

-- what is left of it once router 3 has lost its own route, and one byte after it
unfoldable pub left : List ℕ
left = 3 ∷ 1 ∷ 3 ∷ 3 ∷ 3 ∷ 0 ∷ 255 ∷ 255 ∷ 9 ∷ []

-- In the first round 0 and 2 act before 1 lets its route go, and in the second 2 acts before 0 does.
unfoldable pub rounds_of : (acts : List ℕ) → List Call
rounds_of acts = run_call gone_plan 1 (0 ∷ 2 ∷ 1 ∷ 3 ∷ 2 ∷ 0 ∷ 1 ∷ 3 ∷ acts) 99 ∷ []

abbrev pub two_rounds : List Call
two_rounds = rounds_of []

abbrev pub three_rounds : List Call
three_rounds = rounds_of (2 ∷ 0 ∷ 1 ∷ 3 ∷ [])

pub record NobodyExamples : Type 0 where
  -- "A list with count 0 is now legal"
  pub legal : ListsNobody gone_plan 1
  -- "reflectors have rank 0, an unlisted client with a parent has rank 1", and one without 0: router 2 has a session with client 1 alone.
  -- Misread with any neighbour as a parent, or as every client: 0 1 1.
  pub ranks : ranks_of (instance_of nobody_between 1) ≡ 0 ∷ 1 ∷ 0 ∷ []
  -- "any left-over table": router 1 may go on holding 3 from 3, which is listed no longer
  pub settled : settled_bytes (instance_of gone_plan 0) ≡ old
  pub left_of : LeftOf gone_plan 0 old left
  pub starts : LeftOver gone_plan left
  -- .. but router 3 not its own route, as it is no neighbour of itself. Misread as any egress and sender below n: 0.
  pub own_route : table_checks (instance_of gone_plan 1) old ≡ 10
  -- "old routes are flushed within the promised rounds": three, as some client has a parent. Router 2 still holds 3 from 0 after two.
  -- Misread as two rounds always: nothing after two.
  pub for_this : ForThis gone_plan 1 three_rounds left
  pub two : rounds_in gone_plan left two_rounds ≡ 2
  pub after_two : series_buffer two_rounds left ≡ 255 ∷ 255 ∷ 255 ∷ 255 ∷ 3 ∷ 0 ∷ 255 ∷ 255 ∷ 9 ∷ []
  pub three : rounds_in gone_plan left three_rounds ≡ 3
  pub after_three : series_buffer three_rounds left ≡ 255 ∷ 255 ∷ 255 ∷ 255 ∷ 255 ∷ 255 ∷ 255 ∷ 255 ∷ 9 ∷ []
