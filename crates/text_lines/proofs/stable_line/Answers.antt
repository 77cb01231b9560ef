use Rattle.std.proofs.Common.{arith}
use Rattle.text_fields.proofs.Writing.{put_then, put_as}
use Rattle.text_lines.proofs.Text.{stable-parts}
use Rattle.text_lines.proofs.stable_line.Goals as goal

pub returns : goal.returns
returns c = put_as (put_then c.put_verdict.ensures c.put_last_number.ensures) (stable-parts _ _) (omega arith)
