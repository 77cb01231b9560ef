-- The cycle that a relation shows where it is not stable (the paper's word is ring). C is the closure of R.
use Rattle.std.specs.Prelude.{ℕ, zero, suc, ◌+◌, ◌-◌, ◌≤◌, ◌<◌, min, ◌≡◌, false, List, eqb, length, get_or}
use Rattle.base.specs.Tab.{tab}
use Rattle.base.specs.Seek.{flag, seek, highest}
use Rattle.base.specs.Elimination.{cell, Agree}
use Rattle.graph_groups.specs.Closure.{Relation, closing, closure, Within, Irreflexive}
use Rattle.graph_groups.specs.Groups.{together, grouped, stable}

-- "the ring is found from the lowest router in a group of two or more"
unfoldable pub start : Relation → ℕ → ℕ
start C n = seek (grouped C n) n

-- "going always to the lowest router relied on in that group"
unfoldable pub next : Relation → Relation → ℕ → ℕ → ℕ
next R C n w = seek (λ v. min (R w v) (together C w v)) n

-- the router after k steps
unfoldable pub walk : (ℕ → ℕ) → ℕ → ℕ → ℕ
walk go s zero = s
walk go s (suc k) = go (walk go s k)

-- the walk of R in the groups of C
abbrev pub trail : Relation → Relation → ℕ → ℕ → ℕ
trail R C n = walk (next R C n) (start C n)

-- whether the walk f is at place i where it is at place k
abbrev pub same_router : (ℕ → ℕ) → ℕ → ℕ → ℕ
same_router f k i = flag (eqb (f i) (f k))

-- "the first router met twice": the first place at which f is where it was before
unfoldable pub met_again_at : (ℕ → ℕ) → ℕ → ℕ
met_again_at f n = seek (λ k. highest (same_router f k) k) (suc n)

-- its place where f was there first
unfoldable pub met_first_at : (ℕ → ℕ) → ℕ → ℕ
met_first_at f n = seek (same_router f (met_again_at f n)) (met_again_at f n)

-- "it is the walk from the first router met twice up to before its second meeting"
unfoldable pub repeated_part : (ℕ → ℕ) → ℕ → List ℕ
repeated_part f n = tab (λ d. f (met_first_at f n + d)) (met_again_at f n - met_first_at f n)

-- the cycle, by a closed relation C; and by the closure of R
unfoldable pub cycle_in : Relation → Relation → ℕ → List ℕ
cycle_in R C n = repeated_part (trail R C n) n

unfoldable pub cycle : Relation → ℕ → List ℕ
cycle R n = let t : List (List ℕ) = closing R n n in cycle_in R (cell 0 t) n

-- what the cycle l shows
pub record IsCycle (R C : Relation) (n : ℕ) (l : List ℕ) : Type 0 where
  pub some : 1 ≤ length l
  pub short : length l ≤ n
  pub below : (k : ℕ) → k < length l → get_or l k 0 < n
  pub distinct : (i k : ℕ) → i < k → k < length l → get_or l i 0 ≡ get_or l k 0 → ⊥
  pub onwards : (k : ℕ) → k + 1 < length l → 1 ≤ R (get_or l k 0) (get_or l (k + 1) 0)
  pub closes : 1 ≤ R (get_or l (length l - 1) 0) (get_or l 0 0)
  pub group : (i k : ℕ) → i < length l → k < length l → 1 ≤ together C (get_or l i 0) (get_or l k 0)

-- what writing the cycle asks: R relates no router to itself, D is its closure, and it is not stable
pub record CycleAsked (R D : Relation) (n : ℕ) (out : List ℕ) : Type 0 where
  pub small : n ≤ 64
  pub long : n ≤ length out
  pub within : Within R n
  pub irreflexive : Irreflexive R n
  pub closed : Agree D (closure R n) n
  pub suspect : stable (closure R n) n ≡ false
