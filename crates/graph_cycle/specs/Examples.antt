-- Examples that tell each rule of the walk from a misreading of it, over two relations given by literal tables: row w
-- has 1 in column v where w relies on v. After "Misread" stands the value that a misreading gives.
use Rattle.std.specs.Prelude.{ℕ, ◌≡◌, List, [], ◌∷◌}
use Rattle.base.specs.Tab.{tab}
use Rattle.base.specs.Elimination.{cell}
use Rattle.graph_groups.specs.Closure.{Relation, closure}
use Rattle.graph_cycle.specs.Cycle.{start, trail, cycle}

-- 0 relies on 5; 1 on 0, 3 and 4; 2 on 3 and 4; 3 on 0, 2 and 4; 4 on 1; 5 on 6; 6 on 5.
-- So 1, 2, 3 and 4 share a group, 5 and 6 share one, and 0 is alone.
unfoldable pub grouping : List (List ℕ)
grouping =
    (0 ∷ 0 ∷ 0 ∷ 0 ∷ 0 ∷ 1 ∷ 0 ∷ [])
    ∷ (1 ∷ 0 ∷ 0 ∷ 1 ∷ 1 ∷ 0 ∷ 0 ∷ [])
    ∷ (0 ∷ 0 ∷ 0 ∷ 1 ∷ 1 ∷ 0 ∷ 0 ∷ [])
    ∷ (1 ∷ 0 ∷ 1 ∷ 0 ∷ 1 ∷ 0 ∷ 0 ∷ [])
    ∷ (0 ∷ 1 ∷ 0 ∷ 0 ∷ 0 ∷ 0 ∷ 0 ∷ [])
    ∷ (0 ∷ 0 ∷ 0 ∷ 0 ∷ 0 ∷ 0 ∷ 1 ∷ [])
    ∷ (0 ∷ 0 ∷ 0 ∷ 0 ∷ 0 ∷ 1 ∷ 0 ∷ [])
    ∷ []

-- 0 relies on 2, 2 on 1, 1 on 0
unfoldable pub turning : List (List ℕ)
turning = (0 ∷ 0 ∷ 1 ∷ []) ∷ (1 ∷ 0 ∷ 0 ∷ []) ∷ (0 ∷ 1 ∷ 0 ∷ []) ∷ []

abbrev pub reaching : Relation
reaching = closure (cell 0 grouping) 7

pub record CycleExamples : Type 0 where
  -- "the ring is found from the lowest router in a group of two or more". Misread as the lowest of all: 0. As the
  -- highest: 6.
  pub starts_in_a_group : start reaching 7 ≡ 1
  -- "going always to the lowest router relied on in that group". Misread as the highest: 1 4 1 4 1. Without "in that
  -- group": 1 0 5 6 5.
  pub walk : tab (trail (cell 0 grouping) reaching 7) 5 ≡ 1 ∷ 3 ∷ 2 ∷ 3 ∷ 2 ∷ []
  -- "it is the walk from the first router met twice up to before its second meeting". Misread from the walk's start:
  -- 1 3 2. Up to the second meeting: 3 2 3. By the highest routers: 1 4. Out of the group: 5 6. From router 2: 2 3. From
  -- router 6: 6 5.
  pub from_the_first_met_twice : cycle (cell 0 grouping) 7 ≡ 3 ∷ 2 ∷ []
  -- .. and it may be the whole walk. Misread in the order of the numbers: 0 1 2.
  pub whole_walk : cycle (cell 0 turning) 3 ≡ 0 ∷ 2 ∷ 1 ∷ []
