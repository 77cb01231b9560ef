use native.Mathlib.Nat.{add-sub_cancel_left}
use native.Mathlib.Omega.{arith}
use borrow.Author.Rules.{rules}
use Rattle.plan_read.proofs.lists.list_numbers.Statement.{statement}
use Rattle.plan_read.proofs.lists.list_numbers.Tie as tie

returns : tie.Need-returns
returns c =
    let span = c.list_span-span.ensures in
    record { bytes = rw (add-sub_cancel_left, span.starts, span.counts); address = rw span.starts }

pub list_numbers_spec : {M : Type 1} → statement M
list_numbers_spec =
    tie.close
    (tie.spec
    (λ c κs. search rules)
    (λ c. omega (arith, c.list_span-span.ensures))
    (λ c. search rules)
    (λ c. search rules)
    (λ c. omega (arith, c.list_span-span.ensures))
    returns)
