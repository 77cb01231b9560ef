use native.Mathlib.Omega.{arith}
use mathlib.Core.Path.{ap}
use Prim.Native.Nat.{◌*◌}
use borrow.Author.Rules.{rules}
use Rattle.net_activate.proofs.activations.no_key.Statement.{statement}
use Rattle.net_activate.proofs.activations.no_key.Tie as tie

pub no_key_spec : {M : Type 1} → statement M
no_key_spec =
    tie.close
    (tie.spec (λ c κs. search rules) (λ c. omega (arith, c.highest.ensures.1)) (λ c. ap (λ h. h * 65536) c.highest.ensures.0))
