-- `graph_ranks::ranks`: the ranks of the routers below w are written, and `high` is the highest of them.
use Rattle.base.specs.Bits.{bits}
use Rattle.graph_ranks.proofs.RankBuffer.{Ranks}
use Rattle.graph_ranks.proofs.ranks.Given as goal

abbrev pub invariant-loop-w : goal.invariant-loop-w
invariant-loop-w l = Ranks (bits l.rows) l.n l.initial.out l.out l.high l.w
