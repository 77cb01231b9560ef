-- `net_everylist::peeling::least_key`: the lesser of the least so far and one key more.
use Rattle.std.proofs.Common.{min, ◌∙◌, ap}
use Rattle.net_everylist.proofs.Words.{leasing-start, leasing-below, leasing-more, leasing-done}
use Rattle.net_everylist.proofs.peeling.least_key.Goals as goal

pub loop-left-init : goal.loop-left-init
loop-left-init c = leasing-start _ _ _ _

pub client_key-requires : goal.client_key-requires
client_key-requires c =
    let p = c.requires in
    (p.0, leasing-below _ _ _ _ p.3 _ _ c.loop-left.invariant _ c.lowest_bit-e.ensures.0, p.1, p.2)

pub loop-left-smaller : goal.loop-left-smaller
loop-left-smaller c = c.without_lowest-left.ensures.0

pub loop-left-preserved : goal.loop-left-preserved
loop-left-preserved c =
    let low = c.lowest_bit-e.ensures.0 in
    leasing-more _ _ _ _ c.requires.3 _ _ c.loop-left.invariant _ low _ _ (c.without_lowest-left.ensures.1 _ low)
    (c.min-least.ensures ∙ ap (min c.loop-left.least) c.client_key.ensures)

pub returns : goal.returns
returns c = leasing-done _ _ _ _ c.requires.3 _ _ c.loop-left.invariant c.loop-left-test.false
