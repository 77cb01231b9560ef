-- There is a margin where both distances are those of a way.
use Rattle.std.proofs.Common.{Some, ◌∙◌, sym, ap, ap₂, inl, inr, pos, ◌-ℤ◌, w64}
use mir.ValLaws.{to_z-of_z}
use borrow.Author.Rules.{rules}
use Rattle.base.proofs.Numbers.{granted, denied}
use Rattle.call_compare.proofs.Preferring.{margin-none, margin-some}
use Rattle.call_compare.proofs.compare.margin_of.Goals as goal
use Rattle.call_compare.proofs.compare.margin_of.Goals.{else-is_way-via-then-is_way+else-is_way-2, else-is_way-via-else-is_way}

pub returns-then-is_way-2 : goal.returns-then-is_way-2
returns-then-is_way-2 c I w e f p q =
    ap Some (to_z-of_z w64 _ (search rules) ∙ c.difference.ensures)
    ∙ sym (ap₂ (λ x y. Some (pos x -ℤ pos y)) p.dist q.dist)
    ∙ sym (margin-some I w e f (p.way ∙ granted _ c.is_way.ensures c.if-is_way.true)
    (q.way ∙ granted _ c.is_way-then-is_way.ensures c.if-is_way-2.true))

pub returns-else-is_way : goal.returns-else-is_way
returns-else-is_way c I w e f p q =
    elim c.else-is_way.branch [
      | else-is_way-via-then-is_way+else-is_way-2 b ↦ sym (margin-none I w e f (inr (q.way ∙ denied _ b.is_way-then-is_way.ensures b.if-is_way-2.false)))
      | else-is_way-via-else-is_way b ↦ sym (margin-none I w e f (inl (p.way ∙ denied _ c.is_way.ensures b.if-is_way.false)))
    ]
