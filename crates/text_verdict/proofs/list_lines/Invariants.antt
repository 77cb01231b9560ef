-- The lines of the lists passed are written.
use Rattle.text_lines.specs.Text.{line_room}
use Rattle.text_fields.proofs.Writing.{Putting}
use Rattle.text_verdict_rules.specs.Listing.{list_lines}
use Rattle.text_verdict.proofs.list_lines.Given as goal

abbrev pub invariant-loop-list : goal.invariant-loop-list
invariant-loop-list l = Putting (list_lines l.plan) line_room l.m l.initial.text l.text l.list
