-- The set bits of a word, lowest first.
use Rattle.std.specs.Prelude.{ℕ, ◌/◌, ◌*◌, ◌^◌, ◌≤◌, ◌≡◌}
use Rattle.base.specs.Bits.{bit_n}

-- x without its bits below p
unfoldable pub from_bit : ℕ → ℕ → ℕ
from_bit x p = x / 2 ^ p * 2 ^ p

-- bit v of x is set, and none below it
pub record LowestBit (x v : ℕ) : Type 0 where
  pub set : bit_n x v ≡ 1
  pub low : from_bit x v ≡ x

-- A loop over the set bits of x, all below n: m holds those not visited yet, and P, the loop's claim after all numbers below a
-- bound, has come as far as `at`.
pub record BitWalk (P : ℕ → Type 0) (x n m : ℕ) : Type 0 where
  pub at : ℕ
  pub upto : at ≤ n
  pub left : m ≡ from_bit x at
  pub holds : P at
