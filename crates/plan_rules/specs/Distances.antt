-- Document 01, "Kind 3, distances", and document 02, "Cut-off routers" and "Wider distances". `s` is the body of kind 3, of n rows of n
-- distances, each of `width` bytes, low byte first: 2 in an RRP1 plan, 4 in an RRP2 plan.
use Rattle.std.specs.Prelude.{ℕ, ◌+◌, ◌*◌, ◌-◌, ◌^◌, ◌≤◌, ◌<◌, List, Bool, true, cond, not, ◌⊎◌, ◌≡◌, eqb, length}
use Rattle.base.specs.Below.{all_below}
use Rattle.base.specs.Bytes.{little_endian, bytes_of}
use Rattle.base.specs.Tab.{joined}

-- what stands for no way, one number for both widths: more than any distance
abbrev pub no_way : ℕ
no_way = 4294967295

-- the highest number that `width` bytes hold: 65,535 or 4,294,967,295
abbrev pub highest : ℕ → ℕ
highest width = 256 ^ width - 1

-- "The distance 65,535 off the diagonal now means 'no way'"; of 4-byte distances "4,294,967,295 is no way"
abbrev pub as_distance : ℕ → ℕ → ℕ
as_distance width number = cond (eqb number (highest width)) no_way number

-- the number, and the distance that it stands for, at place i of the body
abbrev pub number_at : ℕ → List ℕ → ℕ → ℕ
number_at width s i = little_endian width s (width * i)

abbrev pub placed : ℕ → List ℕ → ℕ → ℕ
placed width s i = as_distance width (number_at width s i)

-- "row u, column e is the distance from u to e", rows one after the other
abbrev pub distance_in : ℕ → List ℕ → ℕ → ℕ → ℕ → ℕ
distance_in width s n u e = placed width s (u * n + e)

abbrev pub is_way : ℕ → Bool
is_way distance = not (eqb distance no_way)

-- u has a way to e
abbrev pub way_in : ℕ → List ℕ → ℕ → ℕ → ℕ → Bool
way_in width s n u e = is_way (distance_in width s n u e)

-- "The diagonal is 0."
abbrev pub diagonal_ok : ℕ → List ℕ → ℕ → ℕ → Bool
diagonal_ok width s n u = eqb (distance_in width s n u u) 0

-- Row 6 refuses "a distance breaks kind 3": "refusal 6 covers 65,535 on the diagonal only", and every other number there but 0.
-- Off the diagonal any bytes are a distance or no way.
unfoldable pub distances_ok : ℕ → List ℕ → ℕ → Bool
distances_ok width s n = all_below (diagonal_ok width s n) n

-- a body of kind 3: n rows of n numbers, each in `width` bytes, low byte first
unfoldable pub row_of : ℕ → (ℕ → ℕ) → ℕ → List ℕ
row_of width number n = joined (λ e. bytes_of width (number e)) n

unfoldable pub body_of : ℕ → (ℕ → ℕ → ℕ) → ℕ → List ℕ
body_of width number n = joined (λ u. row_of width (number u) n) n

-- what a reader of distances relies on: each has 2 or 4 bytes, and there is one for every pair of n routers
abbrev pub TwoOrFour : ℕ → Type 0
TwoOrFour width = (width ≡ 2) ⊎ (width ≡ 4)

pub record DistanceTable (width : ℕ) (s : List ℕ) (n : ℕ) : Type 0 where
  pub bytes : TwoOrFour width
  pub pairs : width * (n * n) ≤ length s

-- .. and what it learns: a distance has four bytes at most, and of a way it is less than what stands for no way in `width` bytes
pub record Bounded (width distance : ℕ) : Type 0 where
  pub most : distance < 4294967296
  pub way : is_way distance ≡ true → distance < highest width
