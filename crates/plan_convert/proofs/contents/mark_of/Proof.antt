use borrow.Author.Tests.{eq-eqb, ne_eqb}
use Rattle.plan_convert.proofs.contents.mark_of.Statement.{statement}
use Rattle.plan_convert.proofs.contents.mark_of.Tie as tie

pub mark_of_spec : {M : Type 1} → statement M
mark_of_spec = tie.close (tie.spec (λ c. rw (eq-eqb _ 4 c.if-to-eq4.true)) (λ c. rw (ne_eqb _ 4 c.if-to-eq4.false)))
