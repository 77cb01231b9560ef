-- `net_settle::settle_rank`: the routers below w whose rank is r hold their settled entries.
use Rattle.net_rules.specs.Decoded.{decoded}
use Rattle.net_settle.proofs.ByRank.{Turn}
use Rattle.net_settle.proofs.settle_rank.Given as goal

abbrev pub invariant-loop-w : goal.invariant-loop-w
invariant-loop-w l = Turn (decoded l.net l.rows l.distances) l.ranks l.r l.fn.table l.w l.table
