-- Each entry has five bytes.
use Rattle.std.proofs.Common.{◌≡◌, length, refl, arith}
use Rattle.base.proofs.Buffer.{pieces-start, pieces_room, pieces_more, pieces-done}
use Rattle.plan_contents.specs.declared.entries.Entry.{Entry}
use Rattle.plan_rules.specs.Converted.{entry_bytes}
use Rattle.plan_convert.proofs.contents.write_contents.Goals as goal

five : (e : Entry) → length (entry_bytes e) ≡ 5
unfolding entry_bytes
five e = refl

pub loop-which-init : goal.loop-which-init
loop-which-init c = pieces-start (λ k. five _) c.requires

pub write_entry-requires : goal.write_entry-requires
write_entry-requires c = pieces_room c.loop-which.invariant (omega arith)

pub loop-which-preserved : goal.loop-which-preserved
loop-which-preserved c = pieces_more c.loop-which.invariant (omega arith) c.write_entry.ensures

pub returns : goal.returns
returns c = pieces-done c.loop-which.invariant (omega arith)
