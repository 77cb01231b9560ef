-- `plan_convert::contents::write_contents`: the first entries are written.
use Rattle.std.proofs.Common.{get_or}
use Rattle.base.proofs.Buffer.{Pieces}
use Rattle.plan_contents.specs.Contents.{no_entry}
use Rattle.plan_rules.specs.Converted.{entry_bytes}
use Rattle.plan_convert.proofs.contents.write_contents.Given as goal

abbrev pub invariant-loop-which : goal.invariant-loop-which
invariant-loop-which l = Pieces (λ k. entry_bytes (get_or l.fn.table k no_entry)) 5 4 l.fn.out 6 l.out l.which
