-- Examples that tell the rule from a misreading of it, over two relations given by literal tables: row w has 1 in
-- column v where w relies on v. After "Misread" stands the value that a misreading gives.
use Rattle.std.specs.Prelude.{ℕ, ◌≡◌, List, [], ◌∷◌}
use Rattle.base.specs.Tab.{tab}
use Rattle.base.specs.Elimination.{cell}
use Rattle.graph_ranks.specs.Rank.{rank, highest_rank}

-- 0 relies on 1, 2 and 3, 2 on 4, 4 on 1, 1 on 3
unfoldable pub deep : List (List ℕ)
deep =
    (0 ∷ 1 ∷ 1 ∷ 1 ∷ 0 ∷ [])
    ∷ (0 ∷ 0 ∷ 0 ∷ 1 ∷ 0 ∷ [])
    ∷ (0 ∷ 0 ∷ 0 ∷ 0 ∷ 1 ∷ [])
    ∷ (0 ∷ 0 ∷ 0 ∷ 0 ∷ 0 ∷ [])
    ∷ (0 ∷ 1 ∷ 0 ∷ 0 ∷ 0 ∷ [])
    ∷ []

-- 1 relies on 0 and 2, 2 on 3
unfoldable pub flat : List (List ℕ)
flat =
    (0 ∷ 0 ∷ 0 ∷ 0 ∷ [])
    ∷ (1 ∷ 0 ∷ 1 ∷ 0 ∷ [])
    ∷ (0 ∷ 0 ∷ 0 ∷ 1 ∷ [])
    ∷ (0 ∷ 0 ∷ 0 ∷ 0 ∷ [])
    ∷ []

pub record RankExamples : Type 0 where
  -- "A router's rank is 0 if it relies on none, else one more than the highest rank it relies on." Router 0 relies on
  -- ranks 1, 3 and 0. Misread as one more than the first: 2. Than the lowest, or the last: 1. As the number of routers
  -- relied on: 3. As the highest rank relied on: 0. As 1 where none is relied on: 5.
  pub ranks : tab (rank (cell 0 deep) 5) 5 ≡ 4 ∷ 1 ∷ 3 ∷ 0 ∷ 2 ∷ []
  -- the highest of all ranks, which are 0 2 1 0. Misread as that of router 0, or of the last: 0.
  pub highest_of_all : highest_rank (cell 0 flat) 4 ≡ 2
