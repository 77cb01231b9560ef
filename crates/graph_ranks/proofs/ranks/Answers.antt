-- `graph_ranks::ranks`: a rank more a turn.
use Rattle.std.proofs.Common.{◌≡◌, max, rules}
use Rattle.graph_ranks.proofs.RankBuffer.{ranks-start, ranks-asks, ranks-more, ranks-done}
use Rattle.graph_ranks.proofs.ranks.Goals as goal

pub loop-w-init : goal.loop-w-init
loop-w-init c = ranks-start _ _ c.args.out.now _ c.requires c.forget.auto.out c.forget.ensures

pub rank_of-r-requires : goal.rank_of-r-requires
rank_of-r-requires c = ranks-asks _ _ _ _ _ _ c.loop-w.invariant c.loop-w-test.true

pub loop-w-preserved : goal.loop-w-preserved
loop-w-preserved c =
    let high : c.max-high.result ≡ max c.loop-w.high c.rank_of-r.result = search rules in
    ranks-more _ _ _ _ _ _ _ _ _ c.loop-w.invariant c.loop-w-test.true c.rank_of-r.auto.known c.rank_of-r.ensures high

pub returns-clause-written : goal.returns-clause-written
returns-clause-written c = (ranks-done _ _ _ _ _ _ _ c.forget.ensures c.loop-w.invariant c.loop-w-test.false).1
