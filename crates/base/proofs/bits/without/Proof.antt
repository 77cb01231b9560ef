use Rattle.base.proofs.BitLaws.{bit-less}
use Rattle.base.proofs.bits.without.Statement.{statement}
use Rattle.base.proofs.bits.without.Tie as tie

pub without_spec : {M : Type 1} → statement M
without_spec = tie.close (tie.spec (λ c. bit-less c.args.a c.args.b))
