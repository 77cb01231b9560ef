-- The line of a list by what the assessment of its network returned and wrote.
use Rattle.std.specs.Prelude.{ℕ, ◌≤◌, ◌<◌, List, length, take}
use Rattle.net_verdict.specs.declared.Assessment.{Assessment}
use Rattle.net_verdict.specs.declared.Assessment.TheVariants.{Stable, Suspect}
use Rattle.text_lines.specs.Text.{stable_line, suspect_line}

-- of list k, where `shown` is the buffer lent for the cycle
abbrev pub found_line : Assessment → ℕ → List ℕ → List ℕ
found_line (Stable highest) k shown = stable_line k highest
found_line (Suspect count) k shown = suspect_line k (take count shown)

-- its numbers fit a line
abbrev pub Printable : Assessment → ℕ → List ℕ → Type 0
Printable (Stable highest) k shown = (k < 1000) × (highest < 1000)
Printable (Suspect count) k shown = (k < 1000) × (count ≤ length shown) × (count ≤ 64)
