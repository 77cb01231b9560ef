-- `net_everylist::peeling::pass`: what leads to none left is taken from a row more.
use Rattle.net_everylist.proofs.Passes.{passing-start, passing-more, passing-done}
use Rattle.net_everylist.proofs.peeling.pass.Goals as goal

pub loop-w-init : goal.loop-w-init
loop-w-init c = passing-start _ c.requires.0.count _ c.requires.1

pub lost-gone-requires : goal.lost-gone-requires
lost-gone-requires c = (c.requires.0, c.loop-w-test.true, c.loop-w.invariant.within)

pub loop-w-preserved : goal.loop-w-preserved
loop-w-preserved c =
    passing-more _ c.requires.0.count _ _ _ _ _ _ c.loop-w.invariant c.loop-w-test.true c.lost-gone.ensures c.without.ensures

pub returns : goal.returns
returns c = passing-done _ c.requires.0.count _ _ _ _ c.loop-w.invariant c.requires.1 c.loop-w-test.false
