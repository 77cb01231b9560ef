use native.Mathlib.Omega.{arith}
use borrow.Author.Rules.{rules}
use Rattle.plan_parents.proofs.note.Statement.{statement}
use Rattle.plan_parents.proofs.note.Tie as tie

add-counts : tie.Need-overflow_add-counts
add-counts c = let p = c.requires in omega (arith, p.3 _ p.1)

returns : tie.Need-returns-then-reflector
returns c = rw c.if-reflector.true

add-counts-2 : tie.Need-overflow_add-counts-then-is_reflector
add-counts-2 c = let p = c.requires in omega (arith, p.3 _ p.0)

returns-2 : tie.Need-returns-then-is_reflector
returns-2 c = rw (c.if-reflector.false, ← c.is_reflector.ensures, c.if-is_reflector.true)

returns-3 : tie.Need-returns-else-is_reflector
returns-3 c = rw (c.if-reflector.false, ← c.is_reflector.ensures, c.if-is_reflector.false)

pub note_spec : {M : Type 1} → statement M
note_spec =
    tie.close
    (tie.spec
    (λ c. search rules)
    add-counts
    (λ c. search rules)
    returns
    (λ c κs. search rules)
    (λ c. search rules)
    add-counts-2
    (λ c. search rules)
    returns-2
    returns-3)
