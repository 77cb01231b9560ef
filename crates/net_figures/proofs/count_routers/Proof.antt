use Prim.Native.Nat.{◌<◌}
use native.Mathlib.Omega.{arith}
use mathlib.Core.Path.{refl}
use borrow.Author.Rules.{rules}
use lib.ListN.{length, get_or}
use Rattle.net_figures.proofs.Counting.{Counting, counting-start, counting-room, counting-low, counting_more, counting-done}
use Rattle.net_figures.proofs.count_routers.Statement.{statement}
use Rattle.net_figures.proofs.count_routers.Tie as tie

abbrev invariant-loop-left : tie.invariant-loop-left
invariant-loop-left word counts₀ left₀ counts left = Counting word counts₀ counts left

abbrev decreases-loop-left : tie.decreases-loop-left
decreases-loop-left word counts₀ left₀ counts left = left

loop-holds : tie.Need-loop-left-init invariant-loop-left decreases-loop-left
loop-holds c = counting-start _ _ c.requires

-- the router that is counted
module _ (c : tie.After-slice_known-in-loop-left-1 invariant-loop-left decreases-loop-left) where
  abbrev start : tie.Start invariant-loop-left decreases-loop-left
  start = c.before.before.before.before.before

  room : c.lowest_bit-w.result < length c.loop-left.counts
  room = counting-room _ _ start.requires _ _ c.loop-left.invariant _ c.lowest_bit-w.ensures.0

  low : get_or c.loop-left.counts c.lowest_bit-w.result 0 < 255
  low = counting-low _ _ start.requires _ _ c.loop-left.invariant _ c.lowest_bit-w.ensures.0

loop-again : tie.Need-loop-left-preserved invariant-loop-left decreases-loop-left
loop-again c =
    let k = c.before in
    let v = k.lowest_bit-w.ensures.0 in
    counting_more _ _ (start k).requires _ _ k.loop-left.invariant _ v _ _ refl (c.without_lowest-left.ensures.1 _ v)

returns : tie.Need-returns invariant-loop-left decreases-loop-left
returns c = counting-done _ _ c.requires _ _ c.loop-left.invariant c.loop-left-test.false

pub count_routers_spec : {M : Type 1} → statement M
count_routers_spec =
    tie.close
    (tie.spec
    invariant-loop-left
    decreases-loop-left
    loop-holds
    (λ c κs. search rules)
    (λ c. counting-room _ _ c.requires _ _ c.loop-left.invariant _ c.lowest_bit-w.ensures.0)
    (λ c. omega (arith, low c))
    room
    (λ c κs. search rules)
    (λ c. c.without_lowest-left.ensures.0)
    loop-again
    (λ c. c.loop-left.invariant.size)
    returns)
