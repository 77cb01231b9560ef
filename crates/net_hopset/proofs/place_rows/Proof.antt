-- `net_hopset::place_rows`: the rows of the routers visited so far are at their places.
use Prim.Native.Nat.{◌<◌}
use native.Mathlib.Omega.{arith}
use borrow.Author.Rules.{rules}
use Rattle.net_hopset.proofs.Placing.{PlaceWalk, RowsSoFar, rows_start, rows-room, rows_more, rows-done}
use Rattle.net_hopset.proofs.place_rows.Statement.{statement}
use Rattle.net_hopset.proofs.place_rows.Tie as tie

abbrev invariant-loop-left : tie.invariant-loop-left
invariant-loop-left relied word rows₀ i₀ left₀ rows i left = PlaceWalk (RowsSoFar relied word rows) word i left

abbrev decreases-loop-left : tie.decreases-loop-left
decreases-loop-left relied word rows₀ i₀ left₀ rows i left = left

-- there is room for one row more
room : (c : tie.After-lowest_bit-w invariant-loop-left decreases-loop-left) → c.loop-left.i < 12
room c = rows-room _ _ (omega arith) c.requires.0 _ _ _ _ c.loop-left.invariant c.lowest_bit-w.ensures.0

loop-again : tie.Need-loop-left-preserved invariant-loop-left decreases-loop-left
loop-again c =
    let v = c in
    let low = v.lowest_bit-w.ensures.0 in
    rw c.number.ensures
    (rows_more _ _ (omega arith) v.requires.0 _ _ _ _ v.loop-left.invariant low _
    (c.without_lowest-left.ensures.1 _ low))

pub place_rows_spec : {M : Type 1} → statement M
place_rows_spec =
    tie.close
    (tie.spec
    invariant-loop-left
    decreases-loop-left
    (λ c. rows_start _ _ (omega arith) c.requires.0 _ c.requires.1)
    (λ c κs. search rules)
    (λ c. search rules)
    (λ c. c.lowest_bit-w.ensures.1)
    (λ c κs. search rules)
    (λ c. omega (arith, room c.before.before.before))
    (λ c. room c.before.before.before.before)
    (λ c. omega (arith, room c.before.before.before.before))
    (λ c κs. search rules)
    (λ c. c.without_lowest-left.ensures.0)
    loop-again
    (λ c. rows-done _ _ (omega arith) c.requires.0 _ _ _ c.loop-left.invariant c.loop-left-test.false))
