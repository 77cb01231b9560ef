-- Document 01, "Small plans": all that the verdict program prints of a plan.
use Rattle.std.specs.Prelude.{ℕ, zero, suc, ◌*◌, cond, List, [], ◌++◌}
use Rattle.plan_contents.specs.Header.{router_count}
use Rattle.plan_rules.specs.Refusal.{plan_refusal}
use Rattle.plan_rules.specs.EgressLists.{list_count}
use Rattle.plan_rules.specs.Refused.{unless_refused}
use Rattle.net_rules.specs.FromPlan.{instance_of}
use Rattle.net_verdict.specs.Assessed.{is_stable, highest_of, cycle_of}
use Rattle.text_lines.specs.Text.{line_room, head_line, refused_line, stable_line, suspect_line}

-- "In each later line the fields are list number, verdict, then ring length and ring, or highest rank." The ring is called cycle.
unfoldable pub list_line : List ℕ → ℕ → List ℕ
list_line plan k = cond (is_stable (instance_of plan k)) (stable_line k (highest_of (instance_of plan k))) (suspect_line k (cycle_of (instance_of plan k)))

-- the lines of the lists below a number, in order
unfoldable pub list_lines : List ℕ → ℕ → List ℕ
list_lines plan zero = []
list_lines plan (suc k) = list_lines plan k ++ list_line plan k

-- "it prints all of this, each line ended by byte 10": "The first line gives n and m after their words.", then each list's line.
-- "A refused plan gives the single line `refused`, a space and its number."
unfoldable pub plan_text : List ℕ → List ℕ
plan_text plan =
    unless_refused (plan_refusal plan) (refused_line (plan_refusal plan))
    (head_line (router_count plan) (list_count plan) ++ list_lines plan (list_count plan))

-- room for any text: the first line and the lines of at most 64 lists
abbrev pub text_room : ℕ
text_room = 65 * line_room
