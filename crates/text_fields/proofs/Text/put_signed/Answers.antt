-- The sign, and then the digits of how far the number is from 0.
use Rattle.std.proofs.Common.{◌∙◌, sym, ap, arith, refl, ◌∷◌, w64}
use lib.IntN.{nat_abs}
use mir.ValLaws.{to_z-of_z}
use Rattle.text_fields.specs.Fields.{decimal, signed_decimal}
use Rattle.text_fields.proofs.Signed.{read_below, read_above}
use Rattle.text_fields.proofs.Writing.{put_next, put_as}
use Rattle.text_fields.proofs.Text.put_signed.Goals as goal
use Rattle.text_fields.proofs.Text.put_signed.Goals.{then-x-lt0, else-x-lt0}

pub returns : goal.returns
unfolding decimal
returns c =
    elim c.if-x-lt0.branch [
      | then-x-lt0 w ↦
          let is = read_below _ c.ranges.x w.if-x-lt0.true in
          put_as (put_next w.put_byte.ensures (rw w.self-is at c.put_digits.ensures) refl refl (omega arith))
          (ap (λ n. 45 ∷ decimal n) (c.unsigned_abs.ensures.value ∙ ap nat_abs (to_z-of_z w64 _ c.ranges.x ∙ is)) ∙ sym (ap signed_decimal is))
          (omega arith)
      | else-x-lt0 w ↦
          let is = read_above _ c.ranges.x w.if-x-lt0.false in
          put_as (rw w.self-is at c.put_digits.ensures)
          (ap decimal (c.unsigned_abs.ensures.value ∙ ap nat_abs (to_z-of_z w64 _ c.ranges.x ∙ is)) ∙ sym (ap signed_decimal is))
          (omega arith)
    ]
