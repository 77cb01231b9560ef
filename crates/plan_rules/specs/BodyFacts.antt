-- What the four bodies of a plan that is not refused are, in plain facts: document 01, "The plan's bytes", and of rows 4, 13 and 6
-- document 02.
-- `..-facts` and `..-holds` say that the check of a row passes exactly if its facts hold.
use Rattle.std.specs.Prelude.{ℕ, ◌+◌, ◌≤◌, ◌<◌, true, List, ◌≡◌, length}
use Rattle.plan_rules.specs.Rising.{PairBefore}
use Rattle.plan_rules.specs.Routers.{role, identifier}
use Rattle.plan_rules.specs.Sessions.{session_count, session_first, session_second, in_session}
use Rattle.plan_rules.specs.Parents.{parent_count}
use Rattle.plan_rules.specs.Distances.{distance_in}
use Rattle.plan_rules.specs.Lists.{list_count_in, list_place, member_count, member}

-- row 4: every role 1 to 5, identifiers strictly rising
pub record Routers (s : List ℕ) (n : ℕ) : Type 0 where
  pub role_least : (v : ℕ) → v < n → 1 ≤ role s v
  pub role_most : (v : ℕ) → v < n → role s v ≤ 5
  pub rising : (u v : ℕ) → u < v → v < n → identifier s u < identifier s v

-- row 5: each session's numbers are `first < second < n`, sessions strictly rising
pub record Sessions (s : List ℕ) (n : ℕ) : Type 0 where
  pub below : (j : ℕ) → j < session_count s → session_second s j < n
  pub ordered : (j : ℕ) → j < session_count s → session_first s j < session_second s j
  pub rising : (i j : ℕ) → i < j → j < session_count s → PairBefore (session_first s) (session_second s) i j

-- row 13: every client has at most four neighbouring reflectors
pub record Parents (routers sessions : List ℕ) (n : ℕ) : Type 0 where
  pub few : (v : ℕ) → v < n → role routers v ≡ 2 → parent_count routers sessions n v ≤ 4

-- What that count means: some client has five different neighbouring reflectors, `parent 0` to `parent 4`.
-- The theorem `five-parents` says that row 13 fails exactly if there are these.
pub record FiveParents (routers sessions : List ℕ) (n : ℕ) : Type 0 where
  pub client : ℕ
  pub below : client < n
  pub is_client : role routers client ≡ 2
  pub parent : (k : ℕ) → k < 5 → ℕ
  pub parent_below : (k : ℕ) (l : k < 5) → parent k l < n
  pub different : (i j : ℕ) (p : i < 5) (q : j < 5) → i < j → parent i p < parent j q
  pub no_client : (k : ℕ) (l : k < 5) → role routers (parent k l) ≡ 2 → ⊥
  pub neighbour : (k : ℕ) (l : k < 5) → in_session sessions client (parent k l) ≡ true

-- row 6: the distance of every router to itself is 0, in bytes as many as the plan's distances have
pub record Distances (width : ℕ) (s : List ℕ) (n : ℕ) : Type 0 where
  pub diagonal : (u : ℕ) → u < n → distance_in width s n u u ≡ 0

-- one list, its count byte at `place`: at most n numbers, or none, below n, strictly rising, within the body
pub record ListAt (s : List ℕ) (n place : ℕ) : Type 0 where
  pub starts : place < length s
  pub most : member_count s place ≤ n
  pub within : place + 1 + member_count s place ≤ length s
  pub below : (j : ℕ) → j < member_count s place → member s place j < n
  pub rising : (i j : ℕ) → i < j → j < member_count s place → member s place i < member s place j

-- row 7: 1 to 64 lists, which fill the body to its end
pub record Lists (s : List ℕ) (n : ℕ) : Type 0 where
  pub held : 1 ≤ length s
  pub some : 1 ≤ list_count_in s
  pub most : list_count_in s ≤ 64
  pub lists : (k : ℕ) → k < list_count_in s → ListAt s n (list_place s k)
  pub filled : list_place s (list_count_in s) ≡ length s
