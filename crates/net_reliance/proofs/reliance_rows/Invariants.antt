-- `net_reliance::reliance_rows`: the rows of the routers below w are theirs.
use Rattle.net_rules.specs.Decoded.{decoded}
use Rattle.net_reliance.proofs.RelianceRows.{RowsBelow}
use Rattle.net_reliance.proofs.reliance_rows.Given as goal

abbrev pub invariant-loop-w : goal.invariant-loop-w
invariant-loop-w l = RowsBelow (decoded l.net l.rows l.distances) l.fn.out l.w l.out
