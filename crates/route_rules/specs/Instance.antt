-- The network and its egress list, as functions: the rules and theorems never see bytes.
use Rattle.std.specs.Prelude.{ℕ, ◌<◌, Bool, false, eqb}
use Rattle.std.proofs.Math.Option.{Option, none, some}

-- "An egress list names the routers whose outside routes are equal": a plan with one of its lists. Routers are numbered from 0.
pub record Instance : Type 0 where
  -- the number of routers
  pub n : ℕ
  -- its role is that of a reflector; every other router is a client
  pub reflector : ℕ → Bool
  -- "Role 3 is such a reflector": it skips its own clients. Asked of reflectors alone.
  pub skips : ℕ → Bool
  -- "Roles 4 and 5 are roles 1 and 3 with that step": it puts fewest hops before distance. Asked of reflectors alone.
  pub hop : ℕ → Bool
  -- "Two routers of a pair are neighbours."
  pub neighbour : ℕ → ℕ → Bool
  -- the distance from the first to the second; "it need not equal the distance back"
  pub dist : ℕ → ℕ → ℕ
  -- "some pairs have no path": the first has a way to the second; a distance counts only where there is one
  pub way : ℕ → ℕ → Bool
  -- it is an egress router of the list
  pub listed : ℕ → Bool

-- What a router holds. "A held-route table has two bytes a router, egress and sender; 255 255 is nothing."
-- "A route is known by its egress router."
pub data Route : Type 0 where
  nothing : Route
  via : (egress sender : ℕ) → Route
  deriving Discrete as Route-discrete

-- there is a router, and it is v
abbrev pub is_router : ℕ → Option ℕ → Bool
is_router v none = false
is_router v (some e) = eqb e v

-- there is none, or it is below n
abbrev pub RouterBelow : ℕ → Option ℕ → Type 0
RouterBelow n none = Unit
RouterBelow n (some e) = e < n
