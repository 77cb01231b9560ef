use Rattle.std.proofs.Common.{arith, refl}
use Rattle.text_fields.proofs.Writing.{put_then, put_as}
use Rattle.text_lines.proofs.put_verdict.Goals as goal

pub returns : goal.returns
returns c = put_as (put_then c.put_number.ensures c.put_next_bytes.ensures) refl (omega arith)
