-- `plan_lists::each_list_ok`: the lists before the k-th are as they have to be, and the k-th stands at `place`.
use Rattle.plan_rules.proofs.ListWalk.{Walked}
use Rattle.plan_lists.proofs.each_list_ok.Given as goal

abbrev pub invariant-loop-k : goal.invariant-loop-k
invariant-loop-k l = Walked l.s l.n l._k l.place
