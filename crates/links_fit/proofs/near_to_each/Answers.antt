use Rattle.std.proofs.Common.{rules}
use Rattle.base.proofs.Tab.{write-start, write-more}
use Rattle.links_fit.proofs.near_to_each.Goals as goal

pub loop-e-init : goal.loop-e-init
loop-e-init c = write-start _ _ _ (search rules)

pub loop-e-preserved : goal.loop-e-preserved
loop-e-preserved c = write-more _ _ _ 0 _ _ _ c.loop-e.invariant c.loop-e-test.true c.near_to.ensures
