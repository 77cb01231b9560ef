use Rattle.std.proofs.Common.{arith}
use Rattle.text_fields.proofs.Writing.{put_then, put_as}
use Rattle.text_lines.proofs.Text.{suspect-parts}
use Rattle.text_lines.proofs.suspect_line.Goals as goal

pub returns : goal.returns
returns c =
    put_as
    (put_then (put_then (put_then c.put_verdict.ensures c.put_next_number.ensures) c.put_next_numbers.ensures) c.put_byte.ensures)
    (suspect-parts _ _)
    (omega arith)
