-- Examples that tell each rule from a misreading of it, over two relations given by literal tables: row i has 1 in
-- column j where i relies on j. After "Misread" stands the value that a misreading gives.
use Rattle.std.specs.Prelude.{ℕ, ◌≡◌, true, false, List, [], ◌∷◌}
use Rattle.base.specs.Tab.{tab}
use Rattle.base.specs.Elimination.{table, cell}
use Rattle.graph_groups.specs.Closure.{Relation, closure}
use Rattle.graph_groups.specs.Groups.{together, label, stable, grouped}

-- 0 relies on 3, 3 on 1, 1 on 0; 2 relies on 0, and none relies on 2
unfoldable pub looped : List (List ℕ)
looped =
    (0 ∷ 0 ∷ 0 ∷ 1 ∷ [])
    ∷ (1 ∷ 0 ∷ 0 ∷ 0 ∷ [])
    ∷ (1 ∷ 0 ∷ 0 ∷ 0 ∷ [])
    ∷ (0 ∷ 1 ∷ 0 ∷ 0 ∷ [])
    ∷ []

-- 2 relies on 1, 1 on 0
unfoldable pub chained : List (List ℕ)
chained = (0 ∷ 0 ∷ 0 ∷ []) ∷ (1 ∷ 0 ∷ 0 ∷ []) ∷ (0 ∷ 1 ∷ 0 ∷ []) ∷ []

-- who reaches whom
abbrev pub in_loop : Relation
in_loop = closure (cell 0 looped) 4

abbrev pub in_chain : Relation
in_chain = closure (cell 0 chained) 3

pub record GroupExamples : Type 0 where
  -- "reaches .. by reliances": by one or more, through any router. Misread without the last router: 0 from 0 to 1. With
  -- each router reaching itself: 1 from 2 to 2. By one reliance: the relation itself.
  pub reached :
      table in_loop 4
      ≡ (1 ∷ 1 ∷ 0 ∷ 1 ∷ [])
      ∷ (1 ∷ 1 ∷ 0 ∷ 1 ∷ [])
      ∷ (1 ∷ 1 ∷ 0 ∷ 1 ∷ [])
      ∷ (1 ∷ 1 ∷ 0 ∷ 1 ∷ [])
      ∷ []
  -- "Two routers share a group exactly if they are one or each reaches the other by reliances." Misread if one reaches
  -- the other: 1 of 2 and 0. Without "they are one": 0 of 2 and 2.
  pub shared :
      table (together in_loop) 4
      ≡ (1 ∷ 1 ∷ 0 ∷ 1 ∷ [])
      ∷ (1 ∷ 1 ∷ 0 ∷ 1 ∷ [])
      ∷ (0 ∷ 0 ∷ 1 ∷ 0 ∷ [])
      ∷ (1 ∷ 1 ∷ 0 ∷ 1 ∷ [])
      ∷ []
  -- "A group's label is its lowest number.": the router itself counts. Misread as the lowest of the others: 1 at 0. As
  -- the lowest router reached: 0 at 2. As the router's own number: 1 at 1. As the highest: 3 at 0.
  pub labels : tab (label in_loop) 4 ≡ 0 ∷ 0 ∷ 2 ∷ 0 ∷ []
  -- "Stable: every group has one router." Misread as some group: true. As no group: false.
  pub not_every_group : stable in_loop 4 ≡ false
  pub every_group : stable in_chain 3 ≡ true
  -- "in a group of two or more". Misread as one or more: 1 at 2.
  pub in_groups : tab (grouped in_loop 4) 4 ≡ 1 ∷ 1 ∷ 0 ∷ 1 ∷ []
