-- One list's line more, and at the end those of all.
use Rattle.std.proofs.Common.{rules, refl, add-one}
use Rattle.text_fields.proofs.Writing.{putting-start, putting-more, putting-done}
use Rattle.text_verdict_rules.specs.Listing.{list_lines}
use Rattle.text_verdict.proofs.list_lines.Goals as goal

pub loop-list-init : goal.loop-list-init
unfolding list_lines
loop-list-init c = putting-start refl (search rules)

pub loop-list-preserved : goal.loop-list-preserved
unfolding list_lines
loop-list-preserved c =
    putting-more c.loop-list.invariant c.loop-list-test.true (rw add-one refl) c.list_line.ensures

pub returns : goal.returns
returns c = putting-done c.loop-list.invariant c.loop-list-test.false
