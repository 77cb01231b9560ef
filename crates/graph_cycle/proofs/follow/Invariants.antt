-- `graph_cycle::follow`: the walk is at w after k steps, its path is kept, and the routers on it are distinct.
use Rattle.std.proofs.Common.{◌-◌}
use Rattle.base.specs.Bits.{bits}
use Rattle.graph_cycle.specs.Cycle.{trail}
use Rattle.graph_cycle.proofs.Following.{Follows}
use Rattle.graph_cycle.proofs.follow.Given as goal

abbrev pub invariant-loop-met : goal.invariant-loop-met
invariant-loop-met l = Follows (trail (bits l.rows) (bits l.closed) l.n) l.n l.path l.w l.k l.k

abbrev pub decreases-loop-met : goal.decreases-loop-met
decreases-loop-met l = l.n - l.k
