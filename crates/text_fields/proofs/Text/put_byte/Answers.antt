-- The byte goes to the text's end.
use Rattle.std.proofs.Common.{rules, refl}
use Rattle.text_fields.proofs.Writing.{put_one}
use Rattle.text_fields.proofs.Text.put_byte.Goals as goal

pub returns : goal.returns
returns c = put_one _ (search rules) refl refl refl
