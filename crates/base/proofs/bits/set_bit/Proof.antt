use mathlib.Core.Path.{ap}
use borrow.Author.Rules.{rules}
use lib.ListN.{set}
use Rattle.base.proofs.bits.set_bit.Statement.{statement}
use Rattle.base.proofs.bits.set_bit.Tie as tie

returns : tie.Need-returns
returns c = let a = c.before.before.args in ap (set a.rows.now a.i) c.with_bit.ensures

pub set_bit_spec : {M : Type 1} → statement M
set_bit_spec =
    tie.close
    (tie.spec
    (λ c. search rules)
    (λ c. search rules)
    (λ c κs. search rules)
    (λ c. search rules)
    (λ c. search rules)
    returns)
