-- The two comparisons, one after the other, are the cases of the definition.
use borrow.Author.Rules.{rules}
use Rattle.call_compare.proofs.Preferring.{prefers-first, prefers-second, prefers-neither}
use Rattle.call_compare.proofs.compare.which_better.Statement.{statement}
use Rattle.call_compare.proofs.compare.which_better.Tie as tie

pub which_better_spec : {M : Type 1} → statement M
which_better_spec =
    tie.close
    (tie.spec
    (λ c κs. search rules)
    (λ c I w p q h. prefers-first I w _ _ _ _ (c.better.ensures I w p q h) c.if-better.true)
    (λ c κs. search rules)
    (λ c I w p q h.
    let d = c.before.before in
    prefers-second I w _ _ _ _ (d.better.ensures I w p q h) (c.better-2.ensures I w q p h) d.if-better.false c.if-better-2.true)
    (λ c I w p q h.
    let d = c in
    prefers-neither I w _ _ _ _ (d.better.ensures I w p q h) (c.better-2.ensures I w q p h) d.if-better.false c.if-better-2.false))
