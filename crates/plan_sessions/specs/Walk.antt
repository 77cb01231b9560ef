-- What the code tells of the sessions, which it reads router by router.
-- `routers` is the body of kind 1, `s` that of kind 2.
use Rattle.std.specs.Prelude.{ℕ, ◌≤◌, ◌<◌, ◌≡◌, Bool, true, ◌&&◌, List, ltb, eqb}
use Rattle.base.specs.Below.{all_below}
use Rattle.plan_rules.specs.Sessions.{session_count, session_first, session_second, session_ok, sessions_ok}
use Rattle.plan_rules.specs.Parents.{parents_ok}
use Rattle.plan_parents.specs.Counts.{Counted}

-- every session before j is in order and of a router before v, and session j is not, if it is in order
pub record Reached (s : List ℕ) (n v j : ℕ) : Type 0 where
  pub upto : j ≤ session_count s
  pub held : all_below (session_ok s n) j ≡ true
  pub before : (i : ℕ) → i < j → session_first s i < v
  pub next : j < session_count s → session_ok s n j ≡ true → v ≤ session_first s j

-- session j is one more of v's, after that with router `last`
abbrev pub goes_on : List ℕ → ℕ → ℕ → ℕ → ℕ → Bool
goes_on s n v last j = eqb (session_first s j) v && ltb last (session_second s j) && ltb (session_second s j) n

-- what a walk over all sessions tells and leaves; where they are in order, every first router is before `past`
pub record Walked (routers s : List ℕ) (n : ℕ) (ordered : Bool) (past : ℕ) (counts : List ℕ) : Type 0 where
  pub row5 : ordered ≡ sessions_ok s n
  pub below : past ≤ n
  pub reached : ordered ≡ true → Reached s n past (session_count s)
  pub counted : ordered ≡ true → Counted routers s n past (session_count s) counts

-- what the code answers of rows 5 and 13; the second answer stands only beside a yes to the first
pub record Answers (routers s : List ℕ) (n : ℕ) (ordered few : Bool) : Type 0 where
  pub row5 : ordered ≡ sessions_ok s n
  pub row13 : ordered ≡ true → few ≡ parents_ok routers s n
