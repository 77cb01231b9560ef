-- `net_activate::activations::best_heard`: the least of the keys of what the neighbours visited advertise.
use Rattle.net_tables.specs.TableBytes.{route_at}
use Rattle.net_activate.proofs.MayAdvertise.{Hearing}
use Rattle.net_activate.proofs.activations.best_heard.Given as goal

abbrev pub invariant-loop-left : goal.invariant-loop-left
invariant-loop-left l = Hearing l.net l.rows l.distances l.w (route_at l.table) l.least l.left

abbrev pub decreases-loop-left : goal.decreases-loop-left
decreases-loop-left l = l.left
