-- `graph_ranks::rank_of`, which calls itself: a rank that is known, or one gathered, a router more a turn.
use Rattle.std.proofs.Common.{◌≡◌, ◌+◌, max, arith, rules, refl}
use Rattle.graph_ranks.proofs.RankBuffer.{hit, gathered-start, gathered-asks, gathered-more, gathered-low, gathered-found}
use Rattle.graph_ranks.proofs.+rank_of.Goals as goal

pub returns-then-found : goal.returns-then-found
returns-then-found t c = hit _ _ _ _ _ _ c.requires c.if-found.true c.wide.ensures.0

pub loop-ahead-init : goal.loop-ahead-init
loop-ahead-init t c = gathered-start _ _ _ _ _ c.requires

pub rank_of-r-requires : goal.rank_of-r-requires
rank_of-r-requires t c = (
  omega (arith, c.loop-ahead.invariant.asked.few, c.decreases),
  gathered-asks _ _ _ _ _ _ _ _ c.loop-ahead.invariant _ c.lowest_bit-v.ensures.0,
)

pub loop-ahead-preserved : goal.loop-ahead-preserved
loop-ahead-preserved t c =
    let high : c.max-high.result ≡ max c.loop-ahead.high (c.rank_of-r.result + 1) = search rules in
    gathered-more _ _ _ _ _ _ _ _ c.loop-ahead.invariant _ c.lowest_bit-v.ensures.0 _ _ _ _
    c.rank_of-r.auto.known
    c.rank_of-r.ensures
    high
    (c.without_lowest-ahead.ensures.1 _ c.lowest_bit-v.ensures.0)

pub overflow_cast-known : goal.overflow_cast-known
overflow_cast-known t c = omega (arith, gathered-low _ _ _ _ _ _ _ _ c.loop-ahead.invariant c.loop-ahead-test.false)

pub returns : goal.returns
returns t c = gathered-found _ _ _ _ _ _ _ _ c.loop-ahead.invariant c.loop-ahead-test.false _ refl
