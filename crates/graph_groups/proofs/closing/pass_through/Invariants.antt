-- `graph_groups::closing::pass_through`: the rows so far have what they reach through k, and the others are as they were.
use Rattle.graph_groups.proofs.RowClosure.{Passed}
use Rattle.graph_groups.proofs.closing.pass_through.Given as goal

abbrev pub invariant-loop-row : goal.invariant-loop-row
invariant-loop-row l = Passed l.n l.k l.initial.row-items l.row-items l.row-index
