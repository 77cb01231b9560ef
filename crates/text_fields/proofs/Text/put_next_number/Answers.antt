-- One write and then the other.
use Rattle.std.proofs.Common.{refl, arith}
use Rattle.text_fields.proofs.Writing.{put_next}
use Rattle.text_fields.proofs.Text.put_next_number.Goals as goal

pub returns : goal.returns
returns c = put_next c.put_byte.ensures c.put_number.ensures refl refl (omega arith)
