-- The grades of a list: what the grade that the call gives says of tables in bytes, which a caller may hand to `activate` and `run`. A grade
-- is of the whole list, where a group moves once the groups that it relies on are at rest. The classes good, asymptotically good, naughty
-- and bad of source document 003 are of one group by itself, or with the bits that it relies on fixed.
use Rattle.std.specs.Prelude.{ℕ, ◌+◌, ◌*◌, ◌≤◌, ◌≡◌, true, List, ◌↔◌, length}
use Rattle.base.specs.Lent.{Lent}
use Rattle.plan_contents.specs.Header.{router_count}
use Rattle.route_rules.specs.Rounds.{ActsBelow, rounds}
use Rattle.net_rules.specs.FromPlan.{instance_of}
use Rattle.call_rules.specs.RowsExactly.{TableFacts}
use Rattle.call_run.specs.Run.{run_table}
use Rattle.call_verdict.specs.declared.verdict.VerdictAnswer.{VerdictAnswer}
use Rattle.call_verdict.specs.Verdict.{verdict_is_stable, verdict_size, VerdictCall}
use Rattle.call_steady.specs.declared.steady.SteadyAnswer.{SteadyAnswer}
use Rattle.call_steady.specs.Steady.{refusal_of, count_of, SteadyCall}
use Rattle.call_grade.specs.declared.grade.GradeAnswer.{GradeAnswer}
use Rattle.call_grade.specs.Grade.{refusal_of as grade_refused, grade_of, rounds_of, GradeCall}
use Rattle.checker_theorems.specs.Series.{Call, ForThis, series_buffer}
use Rattle.checker_theorems.specs.Nobody.{rounds_in}
use Rattle.checker_theorems.specs.SteadyListed.{NoActChanges, StaysAsItIs}

-- any held-route table for the plan and the list, in the first 2n bytes of a buffer
pub record HeldTable (plan : List ℕ) (k : ℕ) (table : List ℕ) : Type 0 where
  pub long : 2 * router_count plan ≤ length table
  pub rule : TableFacts (instance_of plan k) table

-- one that has come to rest: no act changes it, and neither does any call
pub record AtRest (plan : List ℕ) (k : ℕ) (table : List ℕ) : Type 0 where
  pub unchanged : NoActChanges plan k table
  pub stays : StaysAsItIs plan k table

-- what a run of all the acts leaves of it
abbrev pub run_whole : List ℕ → ℕ → List ℕ → List ℕ → List ℕ
run_whole plan k acts table = run_table plan k acts (length acts) table

-- some run leads to a table that no act changes
pub record RunToRest (plan : List ℕ) (k : ℕ) (table : List ℕ) : Type 0 where
  pub acts : List ℕ
  pub below : ActsBelow (router_count plan) acts
  pub steady : NoActChanges plan k (run_whole plan k acts table)

-- a table of 2n bytes from which none does
pub record NoRunToRest (plan : List ℕ) (k : ℕ) : Type 0 where
  pub table : List ℕ
  pub size : length table ≡ 2 * router_count plan
  pub rule : TableFacts (instance_of plan k) table
  pub never : RunToRest plan k table → ⊥

-- a table that is as before after a run of these acts, and is another after the first so many of them
pub record RunComesBack (plan : List ℕ) (k : ℕ) (table acts : List ℕ) : Type 0 where
  pub below : ActsBelow (router_count plan) acts
  pub back : run_whole plan k acts table ≡ table
  pub first : ℕ
  pub changed : run_table plan k acts first table ≡ table → ⊥

pub record SomeRunComesBack (plan : List ℕ) (k : ℕ) : Type 0 where
  pub table : List ℕ
  pub size : length table ≡ 2 * router_count plan
  pub rule : TableFacts (instance_of plan k) table
  pub acts : List ℕ
  pub comes_back : RunComesBack plan k table acts

-- What a call says that is not refused: it answers with the grade and a number of rounds.
pub record GradeMeaning (plan : List ℕ) (k grade within : ℕ) : Type 0 where
  pub least : 1 ≤ grade
  pub most : grade ≤ 4
  -- 1, always comes to rest: from any held-route table, whatever calls are made, once their acts make so many rounds
  pub rests : grade ≡ 1 → (start : List ℕ) → HeldTable plan k start → (calls : List Call) → ForThis plan k calls start
      → within ≤ rounds_in plan start calls → AtRest plan k (series_buffer calls start)
  -- of the other grades no number is said
  pub others : 2 ≤ grade → within ≡ 0
  -- 1 or 2, can always come to rest: exactly if from every held-route table some run leads to rest
  pub can_rest : (grade ≤ 2) ↔ ((table : List ℕ) → HeldTable plan k table → RunToRest plan k table)
  -- 3 or 4: exactly if from some table none does
  pub cannot_rest : (3 ≤ grade) ↔ NoRunToRest plan k
  -- 4: exactly if no table stays as it is, and the call that lists such tables lists none
  pub no_steady : (grade ≡ 4) ↔ ((table : List ℕ) → NoActChanges plan k table → ⊥)
  pub none_listed : (s : SteadyAnswer) (out : Lent (List ℕ)) → SteadyCall plan k s out → refusal_of s ≡ 0 → (grade ≡ 4) ↔ (count_of s ≡ 0)
  -- 2 or more: some table comes back after acts that change it
  pub comes_back : 2 ≤ grade → SomeRunComesBack plan k
  -- .. and so it is if one comes back with a whole round between
  pub moving : (table acts : List ℕ) → HeldTable plan k table → RunComesBack plan k table acts → 1 ≤ rounds (router_count plan) acts
      → 2 ≤ grade
  -- a list that the verdict call says is stable has grade 1, and the rounds are "the highest rank plus two"
  pub stable : (v : VerdictAnswer) (labels ranks table shown : Lent (List ℕ)) → VerdictCall plan k v labels ranks table shown
      → verdict_is_stable v ≡ true → (grade ≡ 1) × (within ≡ verdict_size v + 2)

abbrev pub EveryGradeMeans : Type 0
EveryGradeMeans =
    (plan : List ℕ) (k : ℕ) (r : GradeAnswer) → GradeCall plan k r → grade_refused r ≡ 0 → GradeMeaning plan k (grade_of r) (rounds_of r)
