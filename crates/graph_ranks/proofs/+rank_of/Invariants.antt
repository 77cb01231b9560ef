-- `graph_ranks::rank_of`, which calls itself: `left` falls, and the loop has gathered the rank that the routers visited give w.
use Rattle.graph_ranks.proofs.RankBuffer.{Gathered}
use Rattle.graph_ranks.proofs.+rank_of.Given as goal

abbrev pub invariant-loop-ahead : goal.invariant-loop-ahead
invariant-loop-ahead l = Gathered l.rows l.n l.w l.left l.fn.known l.known l.high l.ahead

abbrev pub decreases-loop-ahead : goal.decreases-loop-ahead
decreases-loop-ahead l = l.ahead

abbrev pub decreases-rank_of : goal.decreases-rank_of
decreases-rank_of l = l.left
