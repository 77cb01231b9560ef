-- The examples, worked out from the definitions that the contracts cite.
use mathlib.Core.Path.{refl}
use Rattle.text_fields.specs.Fields.{digits, decimal, spaced}
use Rattle.text_lines.specs.Text.{head_line, refused_line, stable_line, suspect_line, margin_line, none_line}
use Rattle.text_lines.specs.Examples.{examples, LineExamplesHold}

pub line-examples : LineExamplesHold
unfolding examples head_line refused_line stable_line suspect_line margin_line none_line spaced digits decimal
line-examples = refl
