-- A table of words, 64 a router, and what its words come down to.
use Rattle.std.specs.Prelude.{ℕ, ◌+◌, ◌*◌, ◌≤◌, ◌<◌, min, ◌≡◌, List, length, get_or}

-- the word of a number: 65,535 for that and for all above
abbrev pub capped : ℕ → ℕ
capped x = min x 65535

-- row i, column j of a table of words
abbrev pub word_at : List ℕ → ℕ → ℕ → ℕ
word_at t i j = get_or t (64 * i + j) 0

-- in columns below m, row i has come down to `first` and what `beyond` adds to it; all other words are as before
pub record RowLowered (first : ℕ) (beyond before : List ℕ) (i m : ℕ) (after : List ℕ) : Type 0 where
  pub long : length after ≡ length before
  pub row : (j : ℕ) → j < m → word_at after i j ≡ min (word_at before i j) (capped (first + get_or beyond j 0))
  pub earlier : (p : ℕ) → p < 64 * i → get_or after p 0 ≡ get_or before p 0
  pub later : (p : ℕ) → 64 * i + m ≤ p → get_or after p 0 ≡ get_or before p 0

-- so have all rows below m, to what goes through k; all other rows are as before
pub record RowsLowered (n k : ℕ) (before : List ℕ) (m : ℕ) (after : List ℕ) : Type 0 where
  pub long : length after ≡ length before
  pub rows : (i j : ℕ) → i < m → j < n → word_at after i j ≡ min (word_at before i j) (capped (word_at before i k + word_at before k j))
  pub others : (i j : ℕ) → m ≤ i → j < n → word_at after i j ≡ word_at before i j
