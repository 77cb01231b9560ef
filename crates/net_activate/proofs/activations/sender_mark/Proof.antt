use native.Mathlib.Omega.{arith}
use mathlib.Core.Path.{sym}
use borrow.Author.Rules.{rules}
use Rattle.net_activate.proofs.OnePass.{mark-itself, mark-other}
use Rattle.net_activate.proofs.activations.sender_mark.Statement.{statement}
use Rattle.net_activate.proofs.activations.sender_mark.Tie as tie

pub sender_mark_spec : {M : Type 1} → statement M
sender_mark_spec =
    tie.close
    (tie.spec
    (λ c. sym (mark-itself _ _ c.if-egress-sender.true))
    (λ c. search rules)
    (λ c. omega (arith, mark-other _ _ c.if-egress-sender.false)))
