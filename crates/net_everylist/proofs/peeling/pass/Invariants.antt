-- `net_everylist::peeling::pass`: the pass has come as far as w.
use Rattle.net_rules.specs.Decoded.{decoded}
use Rattle.net_everylist.proofs.Passes.{Passing}
use Rattle.net_everylist.proofs.peeling.pass.Given as goal

abbrev pub invariant-loop-w : goal.invariant-loop-w
invariant-loop-w l = Passing (decoded l.net l.rows l.distances) l.fn.left l.left l.taken l.w
