use native.Mathlib.Nat.{add-sub_cancel_left}
use mathlib.Core.Path.{refl}
use borrow.Author.Rules.{rules}
use Rattle.plan_contents.proofs.entries.body_of.Statement.{statement}
use Rattle.plan_contents.proofs.entries.body_of.Tie as tie

pub body_of_spec : {M : Type 1} → statement M
body_of_spec =
    tie.close
    (tie.spec (λ c. search rules) (λ c. search rules) (λ c. search rules) (λ c. search rules) (λ c. search rules) (λ c. search rules) (λ c. record { bytes = rw add-sub_cancel_left; address = refl }))
