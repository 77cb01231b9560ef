-- Room for three digits is enough.
use Rattle.std.proofs.Common.{sym, arith}
use Rattle.text_fields.specs.Fields.{decimal}
use Rattle.text_fields.proofs.Digits.{digits-enough}
use Rattle.text_fields.proofs.Writing.{put_as}
use Rattle.text_fields.proofs.Text.put_number.Goals as goal

pub returns : goal.returns
unfolding decimal
returns c = put_as c.put_digits.ensures (sym (digits-enough 2 17 _ (omega arith))) (omega arith)
