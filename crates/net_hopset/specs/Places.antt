-- The routers in groups of two or more by their places, lowest first, as the search for a smallest set holds them. Place i is bit i of a
-- set's number.
use Rattle.std.specs.Prelude.{ℕ, ◌^◌, ◌≤◌, ◌<◌, ◌≡◌, Bool, true, false, ◌&&◌, List, eqb, get_or}
use Rattle.std.specs.Int.Bits.{bit_and}
use Rattle.base.specs.Bits.{bit_n}
use Rattle.base.specs.Seek.{count}
use Rattle.route_rules.specs.Instance.{Instance}
use Rattle.route_rules.specs.Reliance.{relies}
use Rattle.steady_rules.specs.Numbers.{bit_at, number_of}
use Rattle.steady_rules.specs.Steady.{grouped_in, grouped_routers, bit_of}
use Rattle.net_steady.specs.Building.{in_set}
use Rattle.hopset_rules.specs.HopSet.{serves, set_of, reflectors_in}

-- the bits of `row` at the routers of `word`, by places
abbrev pub placed : ℕ → ℕ → ℕ
placed word row = number_of (bit_n word) 64 (bit_at row)

-- the row of each place
abbrev pub PlaceRows : List ℕ → ℕ → List ℕ → Type 0
PlaceRows relied word rows =
    (w : ℕ) → w < 64 → bit_n word w ≡ 1 → get_or rows (count (bit_n word) w) 0 ≡ placed word (get_or relied w 0)

-- place i is left, and its row has none of those left
abbrev pub is_free : ℕ → ℕ → ℕ → Bool
is_free row left i = bit_at left i && eqb (bit_and row left) 0

-- k places: each row has whom its router relies on, and `all` has every place
pub record Places (I : Instance) (rows : List ℕ) (k all : ℕ) : Type 0 where
  pub counted : k ≡ grouped_routers I
  pub relied : (w v : ℕ) → w < I.n → v < I.n → 1 ≤ grouped_in I w → 1 ≤ grouped_in I v
      → bit_at (get_or rows (bit_of I w) 0) (bit_of I v) ≡ relies I w v
  pub low : (i : ℕ) → i < k → get_or rows i 0 < 2 ^ k
  pub every : (i : ℕ) → i < k → bit_at all i ≡ true
  pub fits : all < 2 ^ k

-- the set has the numbers from x on that serve, and no lower one
pub record Tried (I : Instance) (k : ℕ) (served : List ℕ) (x : ℕ) : Type 0 where
  pub from : (y : ℕ) → x ≤ y → y < 2 ^ k → in_set served y ≡ serves I (set_of I y)
  pub before : (y : ℕ) → y < x → in_set served y ≡ false

-- `best` serves, and among the numbers from x on that serve none has a smaller set, and none of its size is lower
pub record Best (I : Instance) (k best x : ℕ) : Type 0 where
  pub below : best < 2 ^ k
  pub serving : serves I (set_of I best) ≡ true
  pub least : (y : ℕ) → x ≤ y → y < 2 ^ k → serves I (set_of I y) ≡ true → reflectors_in I (set_of I best) ≤ reflectors_in I (set_of I y)
  pub lowest : (y : ℕ) → x ≤ y → y < 2 ^ k → serves I (set_of I y) ≡ true
      → reflectors_in I (set_of I y) ≡ reflectors_in I (set_of I best) → best ≤ y
