use mathlib.Core.Path.{◌∙◌}
use borrow.Author.Rules.{rules}
use Rattle.base.proofs.bits.with_bit_if.Statement.{statement}
use Rattle.base.proofs.bits.with_bit_if.Tie as tie

returns : tie.Need-returns-then-asked
returns c = c.with_bit.ensures ∙ rw c.before.if-asked.true

pub with_bit_if_spec : {M : Type 1} → statement M
with_bit_if_spec = tie.close (tie.spec (λ c κs. search rules) returns (λ c. search rules))
