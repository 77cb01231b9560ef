-- `net_settle::settle`: a rank more a turn.
use Rattle.std.proofs.Common.{◌∙◌, ◌+◌, ◌*◌, ◌++◌, sym, ap, drop, arith}
use Rattle.route_theorems.specs.Settled.{settled_table}
use Rattle.net_rules.specs.Decoded.{decoded}
use Rattle.net_tables.specs.TableBytes.{table_bytes}
use Rattle.net_settle.proofs.ByRank.{below-start, below-here, below-onward, below-done}
use Rattle.net_settle.proofs.settle.Goals as goal

pub start-requires : goal.start-requires
start-requires c = (c.requires.0.formed.count, c.requires.0.long)

pub loop-r-init : goal.loop-r-init
loop-r-init c =
    let I = decoded c.args.net c.args.rows.now c.args.distances.now in
    below-here I _ c.requires.0.falls 0 _ _ (below-start I c.requires.0.formed.count _ _ _ (c.start.ensures c.args.rows.now c.args.distances.now))

pub settle_rank-requires : goal.settle_rank-requires
settle_rank-requires c = (
  record {
    formed = c.requires.0.formed;
    each = c.requires.0.each;
    long = omega (arith, c.requires.0.long, c.loop-r.auto.table, c.start.auto.table);
    falls = c.requires.0.falls;
  },
  below-here _ _ c.requires.0.falls _ _ _ c.loop-r.invariant,
)

pub loop-r-preserved : goal.loop-r-preserved
loop-r-preserved c = below-onward _ _ c.requires.0.falls _ _ _ c.loop-r.invariant _ _ c.settle_rank.ensures

pub returns : goal.returns
returns c =
    let I = decoded c.args.net c.args.rows.now c.args.distances.now in
    below-done I _ c.requires.0.falls c.loop-r.r _ c.loop-r.table
    (below-onward I _ c.requires.0.falls 0 _ _
    (below-start I c.requires.0.formed.count _ _ _ (c.start.ensures c.args.rows.now c.args.distances.now)) c.loop-r.r c.loop-r.table
    c.loop-r.invariant)
    (omega (arith, c.requires.0.long, c.loop-r.auto.table, c.start.auto.table))
    (omega (arith, c.loop-r-test.false, c.requires.1))
    ∙ ap (λ h. table_bytes (settled_table I h) ++ drop (2 * c.args.net.n) c.args.table.now) (sym c.requires.1)

-- after the highest rank
pub returns-2 : goal.returns-2
returns-2 c =
    let I = decoded c.args.net c.args.rows.now c.args.distances.now in
    below-done I _ c.requires.0.falls (c.loop-r.r + 1) _ c.settle_rank.new.table
    (below-onward I _ c.requires.0.falls 0 _ _
    (below-start I c.requires.0.formed.count _ _ _ (c.start.ensures c.args.rows.now c.args.distances.now)) (c.loop-r.r + 1)
    c.settle_rank.new.table (below-onward I _ c.requires.0.falls _ _ _ c.loop-r.invariant _ _ c.settle_rank.ensures))
    (omega (arith, c.requires.0.long, c.loop-r.auto.table, c.start.auto.table, c.settle_rank.auto.table))
    (omega arith)
    ∙ ap (λ h. table_bytes (settled_table I h) ++ drop (2 * c.args.net.n) c.args.table.now) (sym c.requires.1)
