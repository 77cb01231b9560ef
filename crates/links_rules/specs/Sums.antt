-- The least sums as they are computed. The theorem `least-sums` says that they are the least sums over all walks.
use Rattle.std.specs.Prelude.{ℕ, zero, suc, ◌+◌, min, cond, ◌&&◌, List, eqb}
use Rattle.std.proofs.Math.Option.{Option, none, some}
use Rattle.base.specs.Elimination.{PathAlgebra, cell, eliminated}
use Rattle.links_rules.specs.Sheet.{link_count, link_from, link_to, link_weight}

-- a sum from each router to each; none where there is no walk
abbrev pub Sums : Type 0
Sums = ℕ → ℕ → Option ℕ

abbrev pub lesser : Option ℕ → Option ℕ → Option ℕ
lesser none y = y
lesser (some a) none = some a
lesser (some a) (some b) = some (min a b)

abbrev pub plus : Option ℕ → Option ℕ → Option ℕ
plus none y = none
plus (some a) none = none
plus (some a) (some b) = some (a + b)

-- no walk at all
abbrev pub nowhere : Sums
nowhere i j = none

-- the walk of no link
abbrev pub staying : Sums
staying i j = cond (eqb i j) (some 0) none

-- D, and a link from f to g of weight w
abbrev pub linked : Sums → ℕ → ℕ → ℕ → Sums
linked D f g w i j = lesser (D i j) (cond (eqb f i && eqb g j) (some w) none)

-- over the walks of no link, and of one link below m
unfoldable pub direct : List ℕ → ℕ → Sums
direct s zero = staying
direct s (suc m) = linked (direct s m) (link_from s m) (link_to s m) (link_weight s m)

-- the sum of no walk, the lesser of one walk's and another's, and the sum of one walk's and another's onward
abbrev pub least_of : PathAlgebra (Option ℕ)
least_of = record { none = none; either = lesser; onward = plus }

-- over the walks whose inner routers are below k, as a table
unfoldable pub summing : List ℕ → ℕ → ℕ → List (List (Option ℕ))
summing s n k = eliminated least_of (direct s (link_count s)) n k

-- over all walks
abbrev pub least_sums : List ℕ → ℕ → Sums
least_sums s n = cell none (summing s n n)
