-- Numbers in decimal, and fields one after another (document 01, "Small plans"; with a sign: document 02, "The margin with its sign").
use Rattle.std.specs.Prelude.{ℕ, zero, suc, ◌+◌, ◌/◌, ◌%◌, cond, List, [], ◌∷◌, ◌++◌, map, ltb, ℤ, pos, negsuc}

-- the byte of a digit
abbrev pub digit : ℕ → ℕ
digit d = 48 + d

-- a number in decimal digits, without leading zeros, if it has at most k of them
unfoldable pub digits : ℕ → ℕ → List ℕ
digits zero x = []
digits (suc k) x = cond (ltb x 10) (digit x ∷ []) (digits k (x / 10) ++ (digit (x % 10) ∷ []))

-- a number of at most 20 digits, as any of 64 bits is
unfoldable pub decimal : ℕ → List ℕ
decimal x = digits 20 x

-- "minus four as -4": 45 is the sign of a number below 0, and no other number has one
abbrev pub signed_decimal : ℤ → List ℕ
signed_decimal (pos x) = decimal x
signed_decimal (negsuc x) = 45 ∷ decimal (suc x)

-- fields after another: "One space parts two fields." 32 is the space
unfoldable pub spaced : List (List ℕ) → List ℕ
spaced [] = []
spaced (field ∷ fields) = (32 ∷ field) ++ spaced fields

-- numbers as fields after another
abbrev pub number_fields : List ℕ → List ℕ
number_fields numbers = spaced (map decimal numbers)
