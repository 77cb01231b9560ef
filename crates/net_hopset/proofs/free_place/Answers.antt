-- `net_hopset::free_place`: the place that is seen next is the first free one, or is not free; at the end none is.
use Rattle.net_hopset.proofs.Serving.{sought-start, sought-miss, sought-below, sought-hit, sought-more}
use Rattle.net_hopset.proofs.free_place.Goals as goal

pub loop-unseen-init : goal.loop-unseen-init
loop-unseen-init c = sought-start _ _

pub bounds-rows-i : goal.bounds-rows-i
bounds-rows-i c = sought-below c.args.rows.now c.args.left _ c.loop-unseen.invariant c.requires _ c.lowest_bit-i.ensures.0

pub returns-then-rows-i-eq0 : goal.returns-then-rows-i-eq0
returns-then-rows-i-eq0 c =
    let low = c.lowest_bit-i.ensures.0 in (
      sought-below c.args.rows.now c.args.left _ c.loop-unseen.invariant c.requires _ low,
      sought-hit c.args.rows.now c.args.left _ c.loop-unseen.invariant c.requires _ low c.if-rows-i-eq0.true,
    )

pub loop-unseen-smaller : goal.loop-unseen-smaller
loop-unseen-smaller c = c.without_lowest-unseen.ensures.0

pub loop-unseen-preserved : goal.loop-unseen-preserved
loop-unseen-preserved c =
    let low = c.lowest_bit-i.ensures.0 in
    sought-more c.args.rows.now c.args.left _ c.loop-unseen.invariant c.requires _ low c.if-rows-i-eq0.false _
    (c.without_lowest-unseen.ensures.1 _ low)

pub returns : goal.returns
returns c = sought-miss c.args.rows.now c.args.left _ c.loop-unseen.invariant c.loop-unseen-test.false
