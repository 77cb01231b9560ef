-- `net_everylist::write_list`: the numbers of the bits seen so far are written.
use Prim.Native.Nat.{◌<◌}
use native.Mathlib.Omega.{arith}
use borrow.Author.Rules.{rules}
use lib.ListN.{length}
use Rattle.net_everylist.proofs.Answering.{Writing, writing_start, writing-length, writing-below, writing-room, writing_more, writing-count, writing-done}
use Rattle.net_everylist.proofs.write_list.Statement.{statement}
use Rattle.net_everylist.proofs.write_list.Tie as tie

abbrev invariant-loop-left : tie.invariant-loop-left
invariant-loop-left word n list₀ i₀ left₀ list i left = Writing word n list₀ list i left

abbrev decreases-loop-left : tie.decreases-loop-left
decreases-loop-left word n list₀ i₀ left₀ list i left = left

module _ (c : tie.After-lowest_bit-e invariant-loop-left decreases-loop-left) where
  abbrev start : tie.Start invariant-loop-left decreases-loop-left
  start = c.before.before.before.before

  room : c.loop-left.i < length c.loop-left.list
  room = writing-room _ _ _ start.requires.2 _ _ _ c.loop-left.invariant _ c.lowest_bit-e.ensures.0 start.requires.1

loop-again : tie.Need-loop-left-preserved invariant-loop-left decreases-loop-left
loop-again c =
    let v = c.before in
    let low = v.lowest_bit-e.ensures.0 in
    writing_more _ _ _ (start v).requires.2 _ _ _ v.loop-left.invariant _ low (start v).requires.1 _ (c.without_lowest-left.ensures.1 _ low)

pub write_list_spec : {M : Type 1} → statement M
write_list_spec =
    tie.close
    (tie.spec
    invariant-loop-left
    decreases-loop-left
    (λ c. writing_start _ _ _)
    (λ c κs. search rules)
    (λ c. search rules)
    (λ c. room c)
    (λ c. let r = room c in search rules)
    (λ c κs. search rules)
    (λ c. c.without_lowest-left.ensures.0)
    loop-again
    (λ c. let d = c.before.before.before in writing-length _ _ _ d.requires.2 _ _ _ c.loop-left.invariant)
    (λ c.
    let d = c.before.before.before in (
      writing-count _ _ _ d.requires.2 _ _ _ c.loop-left.invariant c.loop-left-test.false,
      writing-done _ _ _ d.requires.2 _ _ _ c.loop-left.invariant c.loop-left-test.false,
    )))
