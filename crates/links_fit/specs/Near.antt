-- Which words are near, that is, those of a sum that a distance of two bytes can be.
use Rattle.std.specs.Prelude.{ℕ, Bool, not, ◌||◌, List, leb, eqb, get_or}
use Rattle.base.specs.Below.{all_below}
use Rattle.base.specs.Bits.{bit_n, marked}
use Rattle.links_rules.specs.Sheet.{link_count, link_from, link_to}
use Rattle.links_words.specs.Lowered.{word_at}

-- the word from u to e is one of a sum that a distance of two bytes can be
abbrev pub near : List ℕ → ℕ → ℕ → Bool
near t u e = leb (word_at t u e) 65534

-- so is every word of row u, and of all rows
unfoldable pub row_fits : List ℕ → ℕ → ℕ → Bool
row_fits t n u = all_below (near t u) n

unfoldable pub words_fit : List ℕ → ℕ → Bool
words_fit t n = all_below (row_fits t n) n

-- the routers that are near to e
abbrev pub near_to : List ℕ → ℕ → ℕ → ℕ
near_to t n e = marked (λ u. near t u e) n

-- every bit of a is set in b
unfoldable pub within : ℕ → ℕ → Bool
within a b = all_below (λ u. not (eqb (bit_n a u) 1) || eqb (bit_n b u) 1) 64

-- `words` has a word a router: what is set where a link starts is set where it ends
unfoldable pub links_within : List ℕ → List ℕ → Bool
links_within s words = all_below (λ k. within (get_or words (link_from s k) 0) (get_or words (link_to s k) 0)) (link_count s)
