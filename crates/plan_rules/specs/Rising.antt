-- "rise strictly", "rising strictly": identifiers, sessions and a list's numbers, each by its own order.
use Rattle.std.specs.Prelude.{ℕ, ◌-◌, ◌<◌, ◌≡◌, Bool, ◌&&◌, ◌||◌, ◌⊎◌, ltb, eqb}

-- item i stands after the item before it, where there is one; `before i j` is the order of items i and j
abbrev pub rises_at : (ℕ → ℕ → Bool) → ℕ → Bool
rises_at before i = eqb i 0 || before (i - 1) i

-- pairs in order by their first numbers, f, and then by their second ones, g
abbrev pub pair_before : (ℕ → ℕ) → (ℕ → ℕ) → ℕ → ℕ → Bool
pair_before f g i j = ltb (f i) (f j) || (eqb (f i) (f j) && ltb (g i) (g j))

-- the plain fact of it
abbrev pub PairBefore : (ℕ → ℕ) → (ℕ → ℕ) → ℕ → ℕ → Type 0
PairBefore f g i j = (f i < f j) ⊎ ((f i ≡ f j) × (g i < g j))
