-- A one that is shifted by less than the width is a power of two.
use native.Mathlib.Nat.{one-mul}
use native.Mathlib.Omega.{arith}
use mathlib.Core.Path.{◌∙◌, ap}
use borrow.Author.Rules.{rules}
use lib.Bits.{bit_or}
use lib.Dec.{lit<}
use lib.Pow.{shl_exact}
use Rattle.base.proofs.bits.with_bit.Statement.{statement}
use Rattle.base.proofs.bits.with_bit.Tie as tie

returns : tie.Need-returns
returns c = let j = c.args.j in ap (bit_or c.args.x) (shl_exact 1 j 64 (lit< tt) (omega arith) ∙ one-mul _)

pub with_bit_spec : {M : Type 1} → statement M
with_bit_spec = tie.close (tie.spec (λ c. search rules) returns)
