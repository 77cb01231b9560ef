-- `graph_groups::closing::related_to`: the word spans the rows so far.
use Rattle.std.proofs.Common.{ℕ, ◌≤◌, ◌<◌}
use Rattle.base.specs.Bits.{bit_n, bits}
use Rattle.graph_groups.proofs.closing.related_to.Given as goal

abbrev pub invariant-loop-row : goal.invariant-loop-row
invariant-loop-row l = (d j : ℕ) → d < l.row-index → j < l.n → bits l.rows d j ≤ bit_n l.any j
