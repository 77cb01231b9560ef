-- The entry's five bytes are written at once.
use Rattle.std.proofs.Common.{◌∙◌}
use Rattle.plan_rules.specs.Converted.{entry_bytes}
use Rattle.plan_convert.proofs.contents.write_entry.Goals as goal

pub returns : goal.returns
unfolding entry_bytes
returns c = c.write_bytes.ensures ∙ rw (c.to_le_bytes-offset.ensures, c.to_le_bytes-size.ensures)
