use Prim.Native.Nat.{◌-◌}
use native.Mathlib.Omega.{arith}
use borrow.Author.Rules.{rules}
use lib.Bits.{and_le_r}
use Rattle.base.proofs.BitWalk.{without_is}
use Rattle.base.proofs.bits.without_lowest.Statement.{statement}
use Rattle.base.proofs.bits.without_lowest.Tie as tie

returns : tie.Need-returns
returns c = let x = c.args.x in (omega (arith, and_le_r x (x - 1)), without_is x)

pub without_lowest_spec : {M : Type 1} → statement M
without_lowest_spec = tie.close (tie.spec (λ c. search rules) returns)
