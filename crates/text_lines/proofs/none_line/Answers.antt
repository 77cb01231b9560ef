use Rattle.std.proofs.Common.{arith}
use Rattle.text_fields.proofs.Writing.{put_then, put_as}
use Rattle.text_lines.proofs.Text.{none-parts}
use Rattle.text_lines.proofs.none_line.Goals as goal

pub returns : goal.returns
returns c = put_as (put_then c.put_bytes.ensures c.put_byte.ensures) none-parts (omega arith)
