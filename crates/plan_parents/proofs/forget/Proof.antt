use borrow.Author.Rules.{rules}
use Rattle.plan_parents.proofs.forget.Statement.{statement}
use Rattle.plan_parents.proofs.forget.Tie as tie

returns : tie.Need-returns-then-reflector
returns c = rw c.if-reflector.true

returns-2 : tie.Need-returns-else-reflector
returns-2 c = rw c.if-reflector.false

pub forget_spec : {M : Type 1} → statement M
forget_spec = tie.close (tie.spec (λ c. search rules) returns returns-2)
