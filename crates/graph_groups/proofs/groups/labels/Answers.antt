-- `graph_groups::groups::labels`: a label fits a byte, and one more is written a turn.
use Rattle.std.proofs.Common.{arith}
use Rattle.base.specs.Bits.{bits}
use Rattle.base.proofs.Tab.{write-start, write-more}
use Rattle.graph_groups.proofs.Sharing.{label-upto}
use Rattle.graph_groups.proofs.groups.labels.Goals as goal

pub loop-i-init : goal.loop-i-init
loop-i-init c = write-start _ _ _ c.requires.1

pub overflow_cast-out : goal.overflow_cast-out
overflow_cast-out c = omega (arith, label-upto (bits c.args.closed.now) c.loop-i.i, c.label_of.ensures)

pub loop-i-preserved : goal.loop-i-preserved
loop-i-preserved c = write-more _ _ _ 0 _ _ _ c.loop-i.invariant c.loop-i-test.true c.label_of.ensures
