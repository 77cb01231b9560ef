-- The two numbers compare as the rule says.
use native.Mathlib.Omega.{arith}
use mathlib.Core.Path.{sym}
use Rattle.route_rules.proofs.Preference.{nearer-smaller, nearer-larger, nearer-tie}
use Rattle.net_prefer.proofs.nearer.Statement.{statement}
use Rattle.net_prefer.proofs.nearer.Tie as tie

pub nearer_spec : {M : Type 1} → statement M
nearer_spec =
    tie.close
    (tie.spec
    (λ c I w o. sym (nearer-larger I _ _ _ (o.farther c.if-second-first.true)))
    (λ c I w o. sym (nearer-smaller I _ _ _ (o.nearer (omega arith))))
    (λ c I w o. sym (nearer-tie I _ _ _ (o.tie (omega arith)))))
