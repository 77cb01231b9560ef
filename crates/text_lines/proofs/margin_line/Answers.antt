use Rattle.std.proofs.Common.{arith, ◌∙◌, ap, w64}
use mir.ValLaws.{to_z-of_z}
use Rattle.text_fields.proofs.Writing.{put_then, put_as}
use Rattle.text_lines.specs.Text.{margin_line}
use Rattle.text_lines.proofs.Text.{margin-parts}
use Rattle.text_lines.proofs.margin_line.Goals as goal

pub returns : goal.returns
returns c =
    put_as (put_then c.put_signed.ensures c.put_byte.ensures)
    (margin-parts _ ∙ ap margin_line (to_z-of_z w64 _ c.ranges.margin))
    (omega arith)
