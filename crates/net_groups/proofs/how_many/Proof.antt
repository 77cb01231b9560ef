use native.Mathlib.Omega.{arith}
use lib.Count.{ones-le}
use Rattle.net_groups.proofs.Counted.{ones-count}
use Rattle.net_groups.proofs.how_many.Statement.{statement}
use Rattle.net_groups.proofs.how_many.Tie as tie

pub how_many_spec : {M : Type 1} → statement M
how_many_spec =
    tie.close
    (tie.spec
    (λ c. record { fits = omega (arith, ones-le 64 c.args.word (omega arith)) })
    (λ c. ones-count 64 c.args.word (omega arith)))
