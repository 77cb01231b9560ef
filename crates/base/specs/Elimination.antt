-- Paths between the numbers below n, found by elimination, number by number, over any path algebra: Warshall's closure is one
-- instance, Floyd's least sums are another.
use Rattle.std.specs.Prelude.{ℕ, zero, suc, ◌<◌, ◌≡◌, List, [], get_or}
use Rattle.base.specs.Tab.{tab}

-- a path algebra: the value of no path, that of one path or another, and that of one path and another onward from its end
pub record PathAlgebra (A : Type 0) : Type 0 where
  pub none : A
  pub either : A → A → A
  pub onward : A → A → A

-- the values below n as a table, a row a number; and the values that such a table states, z past its end
abbrev pub table : {A : Type 0} → (ℕ → ℕ → A) → ℕ → List (List A)
table D n = tab (λ i. tab (D i) n) n

abbrev pub cell : {A : Type 0} → A → List (List A) → ℕ → ℕ → A
cell z t i j = get_or (get_or t i []) j z

-- from i to j as in D, or to k and from there to j
abbrev pub through : {A : Type 0} → PathAlgebra A → (ℕ → ℕ → A) → ℕ → ℕ → ℕ → A
through P D k i j = P.either (D i j) (P.onward (D i k) (D k j))

-- over the paths whose inner numbers are below k, where D has those of no inner number
abbrev pub eliminated : {A : Type 0} → PathAlgebra A → (ℕ → ℕ → A) → ℕ → ℕ → List (List A)
eliminated P D n zero = table D n
eliminated P D n (suc k) = table (through P (cell P.none (eliminated P D n k)) k) n

-- two agree below n
abbrev pub Agree : {A : Type 0} → (ℕ → ℕ → A) → (ℕ → ℕ → A) → ℕ → Type 0
Agree D E n = (i j : ℕ) → i < n → j < n → D i j ≡ E i j
