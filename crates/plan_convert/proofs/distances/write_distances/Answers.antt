-- Each distance lies within its table, and its bytes within the buffer.
use Rattle.std.proofs.Common.{arith}
use Rattle.base.proofs.Buffer.{pieces-start, pieces_room, pieces_more, pieces-done}
use Rattle.base.proofs.Bytes.{length-bytes}
use Rattle.base.proofs.Numbers.{item-within}
use Rattle.plan_convert.proofs.distances.write_distances.Goals as goal

pub loop-i-init : goal.loop-i-init
loop-i-init c = pieces-start (λ j. length-bytes _ _) c.requires.3

pub distance_at-requires : goal.distance_at-requires
distance_at-requires c =
    (c.requires.0, omega (arith, item-within c.args.width c.args.count c.loop-i.i c.loop-i-test.true))

pub write_distance-requires : goal.write_distance-requires
write_distance-requires c = (c.requires.2, pieces_room c.loop-i.invariant c.loop-i-test.true)

pub loop-i-preserved : goal.loop-i-preserved
loop-i-preserved c = pieces_more c.loop-i.invariant c.loop-i-test.true (rw c.distance_at.ensures.0 at c.write_distance.ensures)

pub returns : goal.returns
returns c = pieces-done c.loop-i.invariant c.loop-i-test.false
