-- Relations between routers, and their closure. R w v is 0 if w is not related to v; any other number says that it is.
use Rattle.std.specs.Prelude.{ℕ, ◌≤◌, ◌<◌, min, max, ◌≡◌, List}
use Rattle.base.specs.Bits.{bit_n, bits}
use Rattle.base.specs.Elimination.{PathAlgebra, cell, eliminated}

abbrev pub Relation : Type 0
Relation = ℕ → ℕ → ℕ

-- reaching by no chain, by one chain or another, and by one chain and another onward
abbrev pub reaches : PathAlgebra ℕ
reaches = record { none = 0; either = max; onward = min }

-- who reaches whom by chains whose inner routers are below k, as a table
unfoldable pub closing : Relation → ℕ → ℕ → List (List ℕ)
closing R n k = eliminated reaches R n k

-- "reaches .. by reliances": who reaches whom below n
abbrev pub closure : Relation → ℕ → Relation
closure R n = cell 0 (closing R n n)

-- the plain meaning of it: a chain of one or more related steps whose inner routers are below n
pub data Chain (R : Relation) (n : ℕ) : ℕ → ℕ → Type 0 where
  step : {i j : ℕ} → 1 ≤ R i j → Chain R n i j
  more : {i k j : ℕ} → k < n → 1 ≤ R i k → Chain R n k j → Chain R n i j

-- no router below n is related to one from n on
abbrev pub Within : Relation → ℕ → Type 0
Within R n = (i j : ℕ) → i < n → 1 ≤ R i j → j < n

-- a word has a bit for every router below n that one of them is related to
abbrev pub Spans : List ℕ → ℕ → ℕ → Type 0
Spans rows word n = (i j : ℕ) → i < n → j < n → bits rows i j ≤ bit_n word j

-- i is related to itself if it is related to a router below n that is related to it, as in every closure
abbrev pub Returns : Relation → ℕ → ℕ → Type 0
Returns C n i = (j : ℕ) → j < n → 1 ≤ C i j → 1 ≤ C j i → 1 ≤ C i i

abbrev pub AllReturn : Relation → ℕ → Type 0
AllReturn C n = (i : ℕ) → i < n → Returns C n i

-- no router below n is related to itself
abbrev pub Irreflexive : Relation → ℕ → Type 0
Irreflexive R n = (i : ℕ) → i < n → R i i ≡ 0

-- no router below n reaches itself
abbrev pub Acyclic : Relation → ℕ → Type 0
Acyclic R n = (i : ℕ) → i < n → closure R n i i ≡ 0
