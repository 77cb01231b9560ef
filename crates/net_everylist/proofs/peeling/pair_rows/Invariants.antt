-- `net_everylist::peeling::pair_rows`: the rows of the routers below w have their pairs.
use Rattle.net_rules.specs.Decoded.{decoded}
use Rattle.net_everylist.proofs.Passes.{Filled}
use Rattle.net_everylist.proofs.peeling.pair_rows.Given as goal

abbrev pub invariant-loop-w : goal.invariant-loop-w
invariant-loop-w l = Filled (decoded l.net l.rows l.distances) l.w l.left
