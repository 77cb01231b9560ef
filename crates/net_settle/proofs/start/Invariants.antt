-- `net_settle::start`: the routers below v hold their first entries.
use Rattle.std.proofs.Common.{ℕ, List}
use Rattle.net_rules.specs.Decoded.{decoded}
use Rattle.net_settle.specs.ByRank.{Started}
use Rattle.net_settle.proofs.start.Given as goal

abbrev pub invariant-loop-v : goal.invariant-loop-v
invariant-loop-v l = (rows distances : List ℕ) → Started (decoded l.net rows distances) l.v l.fn.table l.table
