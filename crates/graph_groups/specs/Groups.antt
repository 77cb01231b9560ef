-- Groups of a closed relation C: C i j says that i reaches j.
use Rattle.std.specs.Prelude.{ℕ, min, max, Bool, not, eqb}
use Rattle.base.specs.Below.{all_below}
use Rattle.base.specs.Seek.{flag, seek, highest}
use Rattle.graph_groups.specs.Closure.{Relation}

-- "Two routers share a group exactly if they are one or each reaches the other by reliances."
unfoldable pub together : Relation → Relation
together C i j = max (flag (eqb i j)) (min (C i j) (C j i))

-- "A group's label is its lowest number.": the lowest router that shares the group of i
unfoldable pub label : Relation → ℕ → ℕ
label C i = seek (together C i) i

-- "Stable: every group has one router.": every router is the lowest of its group
unfoldable pub stable : Relation → ℕ → Bool
stable C n = all_below (λ i. eqb (label C i) i) n

-- i is "in a group of two or more": another router shares it
unfoldable pub grouped : Relation → ℕ → ℕ → ℕ
grouped C n i = highest (λ j. min (flag (not (eqb i j))) (together C i j)) n
