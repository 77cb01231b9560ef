-- `net_read::neighbour_rows`: the sessions before session j are marked in both their rows.
use Rattle.std.proofs.Common.{◌≡◌, length}
use Rattle.plan_rules.specs.Sessions.{pairs}
use Rattle.net_read.proofs.Marks.{RowMarks}
use Rattle.net_read.proofs.neighbour_rows.Given as goal

abbrev pub invariant-loop-j : goal.invariant-loop-j
invariant-loop-j l = (length l.rows ≡ 64) × RowMarks (pairs l.s) l.j l.rows
