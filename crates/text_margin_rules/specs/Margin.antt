-- Document 02, "The margin with its sign": all that the margin program prints of its input.
use Rattle.std.specs.Prelude.{ℕ, List, [], ◌∷◌, ℤ}
use Rattle.std.proofs.Math.Option.{Option, none, some}
use Rattle.plan_rules.specs.Refused.{unless_refused}
use Rattle.route_rules.specs.Preference.{margin_of}
use Rattle.net_rules.specs.FromPlan.{instance_of}
use Rattle.call_rules.specs.Refusals.{compare_refusal}
use Rattle.text_lines.specs.Text.{refused_line, margin_line, none_line}

-- "the margin, minus four as -4, or `none`"
abbrev pub line_of : Option ℤ → List ℕ
line_of none = none_line
line_of (some margin) = margin_line margin

-- ".. or the verdict program's refusal line": the comparison's margin or refusal. A margin reads distances alone, which every list
-- shares; who told a route plays no part in it.
unfoldable pub compare_line : List ℕ → ℕ → ℕ → ℕ → List ℕ
compare_line plan router first second =
    unless_refused (compare_refusal plan router first second) (refused_line (compare_refusal plan router first second))
    (line_of (margin_of (instance_of plan 0) router first second))

-- "A margin program reads three bytes (router, first, second) and then a plan from standard input, and prints one line ended by byte 10:
-- the margin, minus four as -4, or `none`, or the verdict program's refusal line, which fewer than three bytes get with 1."
unfoldable pub margin_text : List ℕ → List ℕ
margin_text [] = refused_line 1
margin_text (router ∷ []) = refused_line 1
margin_text (router ∷ first ∷ []) = refused_line 1
margin_text (router ∷ first ∷ second ∷ plan) = compare_line plan router first second
