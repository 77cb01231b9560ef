-- What a search for a rank asks of its caller, and what it leaves.
use Rattle.std.specs.Prelude.{ℕ, ◌≤◌, ◌<◌, ◌≡◌, List, ◌⊎◌, length, drop}
use Rattle.base.specs.Seek.{count}
use Rattle.graph_groups.specs.Closure.{Relation, closure, Within, Acyclic}
use Rattle.graph_ranks.specs.Rank.{entry, rank}

-- how many routers below n lie on the chains from w: it falls along a chain
unfoldable pub reached : Relation → ℕ → ℕ → ℕ
reached R n w = count (closure R n w) n

-- a buffer of ranks found so far: a byte below n is 255 or the router's rank
abbrev pub Known : Relation → ℕ → List ℕ → Type 0
Known R n l = (v : ℕ) → v < n → (entry l v ≡ 255) ⊎ (entry l v ≡ rank R n v)

-- what a search for the rank of w asks: fewer than `left` routers lie on the chains from w
pub record RankAsked (R : Relation) (n w left : ℕ) (l : List ℕ) : Type 0 where
  pub small : n ≤ 64
  pub long : n ≤ length l
  pub below : w < n
  pub acyclic : Acyclic R n
  pub within : Within R n
  pub few : reached R n w < left
  pub known : Known R n l

-- what it leaves: a byte below n is as it was or the router's rank, and the others are as they were
pub record Filled (R : Relation) (n : ℕ) (l₀ l : List ℕ) : Type 0 where
  pub each : (v : ℕ) → v < n → (entry l v ≡ entry l₀ v) ⊎ (entry l v ≡ rank R n v)
  pub rest : drop n l ≡ drop n l₀

pub record RankFound (R : Relation) (n w : ℕ) (l₀ l : List ℕ) (r : ℕ) : Type 0 where
  pub is : r ≡ rank R n w
  pub low : r < n
  pub stored : entry l w ≡ rank R n w
  pub filled : Filled R n l₀ l
