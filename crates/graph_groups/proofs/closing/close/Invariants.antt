-- `graph_groups::closing::close`: after k turns the rows are the k-th stage of the closure, and still spanned by `inner`.
use Rattle.base.specs.Bits.{bits}
use Rattle.base.specs.Elimination.{cell, Agree}
use Rattle.graph_groups.specs.Closure.{closing, Spans}
use Rattle.graph_groups.proofs.closing.close.Given as goal

abbrev pub invariant-loop-k : goal.invariant-loop-k
invariant-loop-k l = Agree (bits l.rows) (cell 0 (closing (bits l.fn.rows) l.n l.k)) l.n × Spans l.rows l.inner l.n
