use Rattle.links_sums.proofs.Words.{stays, stay-more, stay-done}
use Rattle.links_sums.proofs.stay.Goals as goal

pub loop-u-init : goal.loop-u-init
unfolding stays
loop-u-init c = c.requires.1

pub loop-u-preserved : goal.loop-u-preserved
loop-u-preserved c = stay-more _ c.requires.0 _ _ c.loop-u.u c.loop-u-test.true c.loop-u.invariant c.lower.ensures

pub returns : goal.returns
returns c = stay-done _ c.requires.0 _ c.loop-u.u c.loop-u.auto.u-end c.loop-u-test.false c.loop-u.invariant
