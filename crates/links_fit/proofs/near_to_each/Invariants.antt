-- `links_fit::near_to_each`: the words of the first e routers are written.
use Rattle.base.proofs.Tab.{Written}
use Rattle.links_fit.specs.Near.{near_to}
use Rattle.links_fit.proofs.near_to_each.Given as goal

abbrev pub invariant-loop-e : goal.invariant-loop-e
invariant-loop-e l = Written (near_to l.words l.n) l.n l.initial.found l.found l.e
