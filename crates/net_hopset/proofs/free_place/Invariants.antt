-- `net_hopset::free_place`: no place seen is free.
use Rattle.net_hopset.proofs.Serving.{FreeSought}
use Rattle.net_hopset.proofs.free_place.Given as goal

abbrev pub invariant-loop-unseen : goal.invariant-loop-unseen
invariant-loop-unseen l = FreeSought l.rows l.left l.unseen

abbrev pub decreases-loop-unseen : goal.decreases-loop-unseen
decreases-loop-unseen l = l.unseen
