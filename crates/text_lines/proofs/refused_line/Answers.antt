use Rattle.std.proofs.Common.{arith, ◌∙◌, ap}
use Rattle.text_fields.proofs.Writing.{put_then, put_as}
use Rattle.text_lines.specs.Text.{refused_line}
use Rattle.text_lines.proofs.Text.{refused-parts}
use Rattle.text_lines.proofs.refused_line.Goals as goal

pub returns : goal.returns
returns c =
    put_as (put_then c.put_bytes.ensures c.put_last_number.ensures)
    (refused-parts _ ∙ ap refused_line c.wide.ensures.0)
    (omega arith)
