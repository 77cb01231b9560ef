-- Rows of bits: a word a row, bit j of row i for the pair i, j.
use Rattle.std.specs.Prelude.{ℕ, zero, suc, ◌/◌, ◌%◌, ◌^◌, Bool, cond, List, get_or, set}
use Rattle.std.specs.Int.Bits.{bit_or}

-- bit j of x
abbrev pub bit_n : ℕ → ℕ → ℕ
bit_n x j = x / 2 ^ j % 2

-- the numbers below m at which p holds, a bit each
unfoldable pub marked : (ℕ → Bool) → ℕ → ℕ
marked p zero = 0
marked p (suc m) = cond (p m) (bit_or (marked p m) (2 ^ m)) (marked p m)

-- the relation that rows of bits state
abbrev pub bits : List ℕ → ℕ → ℕ → ℕ
bits rows i j = bit_n (get_or rows i 0) j

-- the rows with bit j of row i set
abbrev pub with_bit : List ℕ → ℕ → ℕ → List ℕ
with_bit rows i j = set rows i (bit_or (get_or rows i 0) (2 ^ j))
