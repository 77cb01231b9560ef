use Rattle.std.proofs.Common.{arith}
use Rattle.text_fields.proofs.Writing.{put_then, put_as}
use Rattle.text_lines.proofs.Text.{head-parts}
use Rattle.text_lines.proofs.head_line.Goals as goal

pub returns : goal.returns
returns c =
    put_as
    (put_then (put_then (put_then c.put_bytes.ensures c.put_next_number.ensures) c.put_next_bytes.ensures) c.put_last_number.ensures)
    (head-parts _ _)
    (omega arith)
