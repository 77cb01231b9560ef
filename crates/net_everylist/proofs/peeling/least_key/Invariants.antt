-- `net_everylist::peeling::least_key`: the least so far.
use Rattle.net_everylist.specs.Peeling.{key_at}
use Rattle.net_everylist.proofs.Words.{Leasing}
use Rattle.net_everylist.proofs.peeling.least_key.Given as goal

abbrev pub invariant-loop-left : goal.invariant-loop-left
invariant-loop-left l = Leasing (key_at l.width l.distances l.n l.w) l.word l.none l.n l.least l.left

abbrev pub decreases-loop-left : goal.decreases-loop-left
decreases-loop-left l = l.left
