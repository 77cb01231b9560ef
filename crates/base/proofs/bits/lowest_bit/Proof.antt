use native.Mathlib.Omega.{arith}
use lib.Count.{trailing_le}
use Rattle.base.proofs.BitWalk.{lowest-is}
use Rattle.base.proofs.bits.lowest_bit.Statement.{statement}
use Rattle.base.proofs.bits.lowest_bit.Tie as tie

cast-result : tie.Need-overflow_cast-result
cast-result c = record { fits = omega (arith, trailing_le 64 c.args.x) }

returns : tie.Need-returns
returns c = lowest-is 64 c.args.x c.requires (omega arith)

pub lowest_bit_spec : {M : Type 1} → statement M
lowest_bit_spec = tie.close (tie.spec cast-result returns)
