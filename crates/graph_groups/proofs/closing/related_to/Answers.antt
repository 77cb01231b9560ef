-- `graph_groups::closing::related_to`: one row more a turn.
use Rattle.std.proofs.Common.{◌<◌, arith}
use Rattle.std.proofs.lemmas.List.{get_or-take, length-take-le}
use Rattle.graph_groups.proofs.RowClosure.{span_more}
use Rattle.graph_groups.proofs.closing.related_to.Goals as goal

pub loop-row-preserved : goal.loop-row-preserved
loop-row-preserved c =
    let below : c.loop-row.row-index < c.args.n = omega (arith, length-take-le c.args.n c.args.rows.now) in
    rw (get_or-take c.args.n c.args.rows.now c.loop-row.row-index 0 below)
    (span_more c.args.rows.now _ _ c.loop-row.row-index c.loop-row.invariant)
