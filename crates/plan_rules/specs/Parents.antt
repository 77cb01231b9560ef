-- Document 02, "No more than four parents": "The largest count of neighbouring reflectors that a client has anywhere in the library is
-- four". `routers` is the body of kind 1, `sessions` that of kind 2.
use Rattle.std.specs.Prelude.{ℕ, List, Bool, ◌&&◌, ◌||◌, leb}
use Rattle.base.specs.Below.{all_below}
use Rattle.base.specs.Seek.{flag, count}
use Rattle.plan_rules.specs.Routers.{reflector_in}
use Rattle.plan_rules.specs.Sessions.{in_session}

-- p is one of v's "neighbouring reflectors", of whatever role: a parent, if v is a client
abbrev pub parent_in : List ℕ → List ℕ → ℕ → ℕ → ℕ → Bool
parent_in routers sessions n v p = reflector_in routers n p && in_session sessions v p

-- how many of the n routers are
unfoldable pub parent_count : List ℕ → List ℕ → ℕ → ℕ → ℕ
parent_count routers sessions n v = count (λ p. flag (parent_in routers sessions n v p)) n

-- v is a reflector, or a client with at most four
unfoldable pub few_parents : List ℕ → List ℕ → ℕ → ℕ → Bool
few_parents routers sessions n v = reflector_in routers n v || leb (parent_count routers sessions n v) 4

-- Row 13: "It refuses with 13 if a client has five or more".
unfoldable pub parents_ok : List ℕ → List ℕ → ℕ → Bool
parents_ok routers sessions n = all_below (few_parents routers sessions n) n
