use native.Mathlib.Omega.{arith}
use mathlib.Core.Path.{ap}
use borrow.Author.Rules.{rules}
use Rattle.plan_rules.proofs.Widths.{highest-above}
use Rattle.net_everylist.proofs.peeling.no_key.Statement.{statement}
use Rattle.net_everylist.proofs.peeling.no_key.Tie as tie

pub no_key_spec : {M : Type 1} → statement M
no_key_spec =
    tie.close
    (tie.spec
    (λ c κs. search rules)
    (λ c. search rules)
    (λ c. let p = c.requires in (omega (arith, c.highest.ensures.0), omega (arith, c.highest.ensures.0, highest-above _ p))))
