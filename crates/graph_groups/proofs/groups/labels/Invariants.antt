-- `graph_groups::groups::labels`: the first i bytes are labels, and the others are as they were.
use Rattle.base.specs.Bits.{bits}
use Rattle.base.proofs.Tab.{Written}
use Rattle.graph_groups.specs.Groups.{label}
use Rattle.graph_groups.proofs.groups.labels.Given as goal

abbrev pub invariant-loop-i : goal.invariant-loop-i
invariant-loop-i l = Written (label (bits l.closed)) l.n l.fn.out l.out l.i
