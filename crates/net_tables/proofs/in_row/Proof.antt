use native.Mathlib.Omega.{arith}
use mathlib.Core.Path.{sym, ap}
use borrow.Author.Rules.{rules}
use lib.Dec.{eqb}
use Rattle.base.proofs.BitLaws.{bit_past}
use Rattle.net_tables.proofs.in_row.Statement.{statement}
use Rattle.net_tables.proofs.in_row.Tie as tie

returns : tie.Need-returns-then-s-ge64
returns c = sym (ap (λ x. eqb x 1) (bit_past 64 c.args.row _ (omega arith) c.if-s-ge64.true))

pub in_row_spec : {M : Type 1} → statement M
in_row_spec = tie.close (tie.spec returns (λ c κs. search rules) (λ c. search rules))
