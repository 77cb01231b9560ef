-- `net_everylist::peeling::pair_rows`: a row more has its pairs, and at the end every one has.
use borrow.Author.Tests.{eqb-true}
use Rattle.net_everylist.proofs.Passes.{filled-start, filled_more, filled-done}
use Rattle.net_everylist.proofs.peeling.pair_rows.Goals as goal

pub loop-w-init : goal.loop-w-init
loop-w-init c = rw c.requires.1 (filled-start _)

pub loop-w-preserved : goal.loop-w-preserved
loop-w-preserved c = filled_more _ _ _ _ c.requires.0.count c.loop-w-test.true c.loop-w.invariant c.own_clients.ensures

pub returns : goal.returns
returns c = filled-done _ _ _ c.loop-w-test.false (λ w v h. c.requires.0.neighbours w v (eqb-true _ 1 h)) c.loop-w.invariant
