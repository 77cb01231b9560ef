-- `net_settle::settle`: the routers of ranks below r hold their settled entries.
use Rattle.net_rules.specs.Decoded.{decoded}
use Rattle.net_settle.specs.ByRank.{SettledBelow}
use Rattle.net_settle.proofs.settle.Given as goal

abbrev pub invariant-loop-r : goal.invariant-loop-r
invariant-loop-r l = SettledBelow (decoded l.net l.rows l.distances) l.ranks l.r l.initial.table l.table
