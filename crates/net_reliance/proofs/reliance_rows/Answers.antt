-- `net_reliance::reliance_rows`: one row more is that of its router.
use Rattle.std.proofs.Common.{◌<◌, length, arith}
use Rattle.net_reliance.proofs.RelianceRows.{rows_none, rows_more, rows-done}
use Rattle.net_reliance.proofs.reliance_rows.Goals as goal

pub loop-w-init : goal.loop-w-init
loop-w-init c = rows_none _ _

pub loop-w-preserved : goal.loop-w-preserved
loop-w-preserved c =
    let l = c.loop-w in
    let t : l.w < length c.args.out.now = omega (arith, c.requires.1, c.requires.0.count, c.loop-w-test.true) in
    rows_more _ _ l.w l.out _ t l.invariant c.reliance_row.ensures

pub returns : goal.returns
returns c = rows-done _ _ c.loop-w.w _ c.loop-w.auto.w-end c.loop-w-test.false c.loop-w.invariant
