-- `net_read::neighbour_rows`: a session marks each of its routers in the row of the other.
use Rattle.std.proofs.Common.{◌≡◌, ◌∙◌, sym, ap, ap₂, subst, ◌&&◌, ◌||◌, eqb, length, arith}
use Rattle.base.specs.Bits.{with_bit}
use Rattle.plan_rules.specs.Sessions.{pairs, in_session}
use Rattle.net_read.proofs.Marks.{RowMarks, row-marks-none, row-marks-more, row-marks-done}
use Rattle.net_read.proofs.neighbour_rows.Goals as goal

pub loop-j-init : goal.loop-j-init
loop-j-init c = let zeros = c.requires.0 in (ap length zeros, rw zeros (row-marks-none _ 64))

pub set_bit-requires : goal.set_bit-requires
set_bit-requires c = omega (arith, c.requires.1 c.loop-j.j (omega arith))

pub set_bit-requires-in-loop-j : goal.set_bit-requires-in-loop-j
set_bit-requires-in-loop-j c = omega (arith, c.requires.1 c.loop-j.j (omega arith))

pub loop-j-preserved : goal.loop-j-preserved
unfolding pairs
loop-j-preserved c =
    let rows = c.loop-j.rows in
    let a = c.wide-first.result in
    let b = c.wide-second.result in
    let stored : c.set_bit-in-loop-j.new.rows ≡ with_bit (with_bit rows a b) b a =
    c.set_bit-in-loop-j.ensures ∙ ap (λ r. with_bit r b a) c.set_bit.ensures
    in
    let below = c.requires.1 c.loop-j.j (omega arith) in (
      c.set_bit-in-loop-j.array_long,
      subst (RowMarks _ _) (sym stored)
          (row-marks-more _ _ rows a b (omega (arith, c.loop-j.invariant.0)) (omega (arith, c.loop-j.invariant.0))
          (λ w v. ap₂ (λ x y. (eqb x w && eqb y v) || (eqb y w && eqb x v)) c.wide-first.ensures.0 c.wide-second.ensures.0)
          c.loop-j.invariant.1),
    )

pub returns : goal.returns
unfolding in_session
returns c = row-marks-done _ _ _ c.loop-j.rows c.loop-j.auto.j-end c.loop-j-test.false c.loop-j.invariant.1
