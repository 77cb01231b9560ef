-- `graph_groups::closing::joined`: by whether the row has bit k.
use mathlib.Core.Path.{◌∙◌, sym}
use borrow.Author.Rules.{rules}
use Rattle.graph_groups.proofs.RowClosure.{or-through, kept-through}
use Rattle.graph_groups.proofs.closing.joined.Statement.{statement}
use Rattle.graph_groups.proofs.closing.joined.Tie as tie

returns : tie.Need-returns-then-bit-eq1
returns c j = or-through _ _ j _ (sym c.before.bit.ensures ∙ c.if-bit-eq1.true)

returns-2 : tie.Need-returns
returns-2 c j = let a = c.before.before.args in kept-through a.own a.beyond j _ (λ e. c.if-bit-eq1.false (c.before.bit.ensures ∙ e))

pub joined_spec : {M : Type 1} → statement M
joined_spec = tie.close (tie.spec (λ c κs. search rules) returns returns-2)
