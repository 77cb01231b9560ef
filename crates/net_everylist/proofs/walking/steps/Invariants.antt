-- `net_everylist::walking::steps`: the steps from the reflectors below w.
use Rattle.net_rules.specs.Decoded.{decoded}
use Rattle.net_everylist.proofs.Stepping.{Stepped}
use Rattle.net_everylist.proofs.walking.steps.Given as goal

abbrev pub invariant-loop-w : goal.invariant-loop-w
invariant-loop-w l = Stepped (decoded l.net l.rows l.distances) l.w l.clients l.nexts
