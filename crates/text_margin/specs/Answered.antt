-- The line of what a comparison returned.
use Rattle.std.specs.Prelude.{ℕ, List, ℤ, Option, Some, None}
use Rattle.call_compare.specs.declared.compare.CompareAnswer.{CompareAnswer}
use Rattle.call_compare.specs.declared.compare.CompareAnswer.TheVariants.{Refused, Compared}
use Rattle.text_lines.specs.Text.{refused_line, margin_line, none_line}

abbrev pub given_line : Option ℤ → List ℕ
given_line None = none_line
given_line (Some difference) = margin_line difference

abbrev pub answer_line : CompareAnswer → List ℕ
answer_line (Refused number) = refused_line number
answer_line (Compared preferred margin) = given_line margin
