-- Ranks, of a relation in which no router reaches itself.
use Rattle.std.specs.Prelude.{ℕ, zero, suc, ◌≤◌, ◌<◌, ◌≡◌, List, get_or}
use Rattle.base.specs.Tab.{tab}
use Rattle.base.specs.Seek.{highest}
use Rattle.graph_groups.specs.Closure.{Relation}

-- what a router of rank r adds to the rank of one whose relation to it is x: one more than r if they are related
abbrev pub rank_above : ℕ → ℕ → ℕ
rank_above x r = elim x [ zero ↦ 0 | suc y ↦ suc r ]

-- "A router's rank is 0 if it relies on none, else one more than the highest rank it relies on.": the rank of w if the others' are rk
unfoldable pub rank_over : Relation → ℕ → (ℕ → ℕ) → ℕ → ℕ
rank_over R n rk w = highest (λ v. rank_above (R w v) (rk v)) n

-- what stands at a place of a list
abbrev pub entry : List ℕ → ℕ → ℕ
entry l v = get_or l v 0

-- the ranks that chains of at most k steps give
unfoldable pub ranks_by_chains : Relation → ℕ → ℕ → List ℕ
ranks_by_chains R n zero = tab (λ w. 0) n
ranks_by_chains R n (suc k) = tab (rank_over R n (entry (ranks_by_chains R n k))) n

-- the rank: n steps are enough for every chain of such a relation
unfoldable pub rank : Relation → ℕ → ℕ → ℕ
rank R n w = entry (ranks_by_chains R n n) w

-- The same in plain words: "A router's rank is 0 if it relies on none, else one more than the highest rank it relies on."
-- The theorem `rank-means` says that these hold of the rank, and `rank-unique` that they hold of no other numbers.
pub record OneMore (R : Relation) (n : ℕ) (rk : ℕ → ℕ) (w : ℕ) : Type 0 where
  pub at : ℕ
  pub below : at < n
  pub related : 1 ≤ R w at
  pub is : rk w ≡ suc (rk at)
  pub highest : (v : ℕ) → v < n → 1 ≤ R w v → rk v ≤ rk at

pub record RankMeans (R : Relation) (n : ℕ) (rk : ℕ → ℕ) : Type 0 where
  pub on_none : (w : ℕ) → w < n → ((v : ℕ) → v < n → R w v ≡ 0) → rk w ≡ 0
  pub on_some : (w v : ℕ) → w < n → v < n → 1 ≤ R w v → OneMore R n rk w

abbrev pub highest_rank : Relation → ℕ → ℕ
highest_rank R n = highest (rank R n) n
