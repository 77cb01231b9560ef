-- `call_figures::figures::count_lists`: the lists below `list` are counted.
use Rattle.call_figures.proofs.AllLists.{Reached}
use Rattle.call_figures.proofs.figures.count_lists.Given as goal

abbrev pub invariant-loop-list : goal.invariant-loop-list
invariant-loop-list l = Reached l.plan l.list l.known l.fn.ranks l.ranks l.fn.routers l.routers
