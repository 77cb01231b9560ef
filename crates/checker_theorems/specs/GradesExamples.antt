-- Examples of grades, and of tables that come to rest and that come back, in literal bytes and numbers. After "Misread" stands what a
-- misreading gives.
use Rattle.std.specs.Prelude.{ℕ, ◌≡◌, List, [], ◌∷◌, ◌++◌, replicate}
use Rattle.plan_examples.specs.Plans.{m3_plan, m3_with_roles}
use Rattle.route_rules.specs.Rounds.{rounds}
use Rattle.net_grade.specs.declared.grades.Grade.TheVariants as grades
use Rattle.call_grade.specs.declared.grade.GradeAnswer.TheVariants.{Graded}
use Rattle.call_grade.specs.Grade.{GradeCall}
use Rattle.steady_examples.specs.SteadyCallExamples.{three_in_turn}
use Rattle.checker_theorems.specs.SteadyListedExamples.{own_at_both}
use Rattle.checker_theorems.specs.Grades.{HeldTable, RunToRest, RunComesBack}

-- Reflectors 0 to 3, in sessions with one another, and a client of each, 4 to 7, at 10 from it. 0 is nearer to 5, at 6, and to 7, at 7; 1 is
-- to 6, 2 to 4 and 3 to 4, at 6. The list is 4,5,6,7.
unfoldable pub four_that_may_loop : List ℕ
four_that_may_loop =
    (82 ∷ 82 ∷ 80 ∷ 49 ∷ 8 ∷ 4  -- the letters RRP1, n, the number of contents entries
    ∷ 1 ∷ 26 ∷ 0 ∷ 40 ∷ 0  -- contents: kind, offset, length of the routers
    ∷ 2 ∷ 66 ∷ 0 ∷ 20 ∷ 0  -- .. of the sessions
    ∷ 3 ∷ 86 ∷ 0 ∷ 128 ∷ 0  -- .. of the distances
    ∷ 4 ∷ 214 ∷ 0 ∷ 6 ∷ 0  -- .. of the lists
    ∷ 1 ∷ 10 ∷ 0 ∷ 0 ∷ 0 ∷ 1 ∷ 20 ∷ 0 ∷ 0 ∷ 0 ∷ 1 ∷ 30 ∷ 0 ∷ 0 ∷ 0 ∷ 1 ∷ 40 ∷ 0 ∷ 0 ∷ 0  -- routers: role, identifier
    ∷ 2 ∷ 50 ∷ 0 ∷ 0 ∷ 0 ∷ 2 ∷ 60 ∷ 0 ∷ 0 ∷ 0 ∷ 2 ∷ 70 ∷ 0 ∷ 0 ∷ 0 ∷ 2 ∷ 80 ∷ 0 ∷ 0 ∷ 0
    ∷ 0 ∷ 1 ∷ 0 ∷ 2 ∷ 0 ∷ 3 ∷ 0 ∷ 4 ∷ 1 ∷ 2 ∷ 1 ∷ 3 ∷ 1 ∷ 5 ∷ 2 ∷ 3 ∷ 2 ∷ 6 ∷ 3 ∷ 7  -- sessions
    ∷ 0 ∷ 0 ∷ 30 ∷ 0 ∷ 30 ∷ 0 ∷ 30 ∷ 0 ∷ 10 ∷ 0 ∷ 6 ∷ 0 ∷ 30 ∷ 0 ∷ 7 ∷ 0  -- distances from 0
    ∷ 30 ∷ 0 ∷ 0 ∷ 0 ∷ 30 ∷ 0 ∷ 30 ∷ 0 ∷ 30 ∷ 0 ∷ 10 ∷ 0 ∷ 6 ∷ 0 ∷ 30 ∷ 0
    ∷ 30 ∷ 0 ∷ 30 ∷ 0 ∷ 0 ∷ 0 ∷ 30 ∷ 0 ∷ 6 ∷ 0 ∷ 30 ∷ 0 ∷ 10 ∷ 0 ∷ 30 ∷ 0
    ∷ 30 ∷ 0 ∷ 30 ∷ 0 ∷ 30 ∷ 0 ∷ 0 ∷ 0 ∷ 6 ∷ 0 ∷ 30 ∷ 0 ∷ 30 ∷ 0 ∷ 10 ∷ 0
    ∷ [])
    ++ replicate 64 0  -- .. from the clients
    ++ (1 ∷ 4 ∷ 4 ∷ 5 ∷ 6 ∷ 7 ∷ [])  -- m; count and numbers of the list

-- .. where 0 is nearer to 5, 6 and 7 than to its own client, 1 to 4 and 6, 2 to 4 and 7, 3 to 4 and 5
unfoldable pub four_that_may_be_caught : List ℕ
four_that_may_be_caught =
    (82 ∷ 82 ∷ 80 ∷ 49 ∷ 8 ∷ 4
    ∷ 1 ∷ 26 ∷ 0 ∷ 40 ∷ 0
    ∷ 2 ∷ 66 ∷ 0 ∷ 20 ∷ 0
    ∷ 3 ∷ 86 ∷ 0 ∷ 128 ∷ 0
    ∷ 4 ∷ 214 ∷ 0 ∷ 6 ∷ 0
    ∷ 1 ∷ 10 ∷ 0 ∷ 0 ∷ 0 ∷ 1 ∷ 20 ∷ 0 ∷ 0 ∷ 0 ∷ 1 ∷ 30 ∷ 0 ∷ 0 ∷ 0 ∷ 1 ∷ 40 ∷ 0 ∷ 0 ∷ 0
    ∷ 2 ∷ 50 ∷ 0 ∷ 0 ∷ 0 ∷ 2 ∷ 60 ∷ 0 ∷ 0 ∷ 0 ∷ 2 ∷ 70 ∷ 0 ∷ 0 ∷ 0 ∷ 2 ∷ 80 ∷ 0 ∷ 0 ∷ 0
    ∷ 0 ∷ 1 ∷ 0 ∷ 2 ∷ 0 ∷ 3 ∷ 0 ∷ 4 ∷ 1 ∷ 2 ∷ 1 ∷ 3 ∷ 1 ∷ 5 ∷ 2 ∷ 3 ∷ 2 ∷ 6 ∷ 3 ∷ 7  -- sessions
    ∷ 0 ∷ 0 ∷ 30 ∷ 0 ∷ 30 ∷ 0 ∷ 30 ∷ 0 ∷ 10 ∷ 0 ∷ 6 ∷ 0 ∷ 7 ∷ 0 ∷ 8 ∷ 0  -- distances from 0
    ∷ 30 ∷ 0 ∷ 0 ∷ 0 ∷ 30 ∷ 0 ∷ 30 ∷ 0 ∷ 6 ∷ 0 ∷ 10 ∷ 0 ∷ 7 ∷ 0 ∷ 30 ∷ 0
    ∷ 30 ∷ 0 ∷ 30 ∷ 0 ∷ 0 ∷ 0 ∷ 30 ∷ 0 ∷ 6 ∷ 0 ∷ 30 ∷ 0 ∷ 10 ∷ 0 ∷ 7 ∷ 0
    ∷ 30 ∷ 0 ∷ 30 ∷ 0 ∷ 30 ∷ 0 ∷ 0 ∷ 0 ∷ 6 ∷ 0 ∷ 7 ∷ 0 ∷ 30 ∷ 0 ∷ 10 ∷ 0
    ∷ [])
    ++ replicate 64 0
    ++ (1 ∷ 4 ∷ 4 ∷ 5 ∷ 6 ∷ 7 ∷ [])

-- a table for the list of `three_in_turn`: 0 holds its own client's route, 1 has 5 from 2, and 2 has 3 from 0; and acts of all routers, then
-- of the reflectors once more
abbrev pub in_turn : List ℕ
in_turn = 3 ∷ 3 ∷ 5 ∷ 2 ∷ 3 ∷ 0 ∷ 3 ∷ 3 ∷ 4 ∷ 4 ∷ 5 ∷ 5 ∷ []

abbrev pub twice_around : List ℕ
twice_around = 3 ∷ 4 ∷ 5 ∷ 1 ∷ 0 ∷ 2 ∷ 1 ∷ 0 ∷ 2 ∷ []

pub record GradesExamples : Type 0 where
  -- 1: M3's list is suspect and has two steady tables. Misread as "one steady table": another grade; as one move fewer: 3 rounds.
  pub always : GradeCall m3_plan 0 (Graded grades.AlwaysRests 4)
  -- .. and so has a stable list, with "the highest rank plus two". Misread as for a suspect one: 5 rounds.
  pub stable : GradeCall (m3_with_roles 4 1) 0 (Graded grades.AlwaysRests 4)
  -- 2: it may move for ever, and can always come to rest. Misread with a loop taken for stuck: 3.
  pub can : GradeCall four_that_may_loop 0 (Graded grades.CanRest 0)
  -- 3: there is a steady table, and some tables do not lead to it. Misread as 1 or 2 wherever there is one: 2.
  pub caught : GradeCall four_that_may_be_caught 0 (Graded grades.MayNeverRest 0)
  -- 4: "each the next of three"
  pub none : GradeCall three_in_turn 0 (Graded grades.NoSteadyTable 0)
  -- a held-route table, from which one act leads to rest
  pub held : HeldTable m3_plan 0 own_at_both
  pub ends : RunToRest m3_plan 0 own_at_both
  -- a table that comes back with a whole round between
  pub back : RunComesBack three_in_turn 0 in_turn twice_around
  pub between : rounds 6 twice_around ≡ 1
