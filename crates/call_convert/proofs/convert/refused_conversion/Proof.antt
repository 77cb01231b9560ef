use borrow.Author.Rules.{rules}
use Rattle.call_convert.proofs.convert.refused_conversion.Statement.{statement}
use Rattle.call_convert.proofs.convert.refused_conversion.Tie as tie

pub refused_conversion_spec : {M : Type 1} → statement M
refused_conversion_spec = tie.close (tie.spec (λ c. search rules))
