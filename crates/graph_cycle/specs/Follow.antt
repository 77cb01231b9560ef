-- What following the walk asks, and what it finds.
use Rattle.std.specs.Prelude.{ℕ, ◌≤◌, ◌<◌, ◌≡◌, List, ◌↔◌, length, get_or}
use Rattle.graph_groups.specs.Closure.{Relation, Within}
use Rattle.graph_groups.specs.Groups.{grouped}
use Rattle.graph_cycle.specs.Cycle.{trail, met_first_at, met_again_at}

-- the walk stays among the routers below n
abbrev pub Stays : Relation → Relation → ℕ → Type 0
Stays R C n = (k : ℕ) → trail R C n k < n

-- a router is in a group of two or more exactly if it reaches itself
abbrev pub LoopsGrouped : Relation → ℕ → Type 0
LoopsGrouped C n = (i : ℕ) → i < n → (1 ≤ C i i) ↔ (1 ≤ grouped C n i)

-- what following the walk of R in the groups of C asks
pub record FollowAsked (R C : Relation) (n : ℕ) (path : List ℕ) : Type 0 where
  pub small : n ≤ 64
  pub long : length path ≡ 64
  pub stays : Stays R C n
  pub within : Within R n
  pub loops : LoopsGrouped C n

-- what following the walk f finds: where what is repeated starts and ends, and the routers up to there, in order
pub record Followed (f : ℕ → ℕ) (n : ℕ) (path : List ℕ) (from upto : ℕ) : Type 0 where
  pub starts : from ≡ met_first_at f n
  pub ends : upto ≡ met_again_at f n
  pub kept : (i : ℕ) → i < upto → get_or path i 0 ≡ f i
