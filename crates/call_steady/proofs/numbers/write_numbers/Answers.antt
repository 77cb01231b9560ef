-- `call_steady::numbers::write_numbers`: a number more is written if it is in the set, until all are.
use Rattle.std.proofs.Common.{◌<◌, ◌∙◌, sym, arith}
use Rattle.call_steady.proofs.NumberList.{writing_start, writing-few, writing-all, writing-done, writing-room, writing_more, writing-skip}
use Rattle.call_steady.proofs.numbers.write_numbers.Goals as goal
use Rattle.call_steady.proofs.numbers.write_numbers.Goals.{then-has_number, else-has_number}

pub loop-x-init : goal.loop-x-init
loop-x-init c = writing_start _ _ _ c.requires.0 c.requires.1

pub write_number-requires : goal.write_number-requires
write_number-requires c =
    let so_far = c.loop-x.invariant in
    writing-room _ _ _ _ _ _ so_far c.loop-x-test.true (omega (arith, writing-few _ _ _ _ _ _ so_far))

pub returns-then-i-count : goal.returns-then-i-count
returns-then-i-count c = writing-done _ _ _ _ _ _ c.loop-x.invariant (omega arith)

pub loop-x-preserved : goal.loop-x-preserved
loop-x-preserved c =
    let so_far = c.loop-x.invariant in
    let some : c.loop-x.i < c.args.count = omega (arith, writing-few _ _ _ _ _ _ so_far) in
    elim c.if-has_number.branch [
      | then-has_number w ↦
          rw (w.out-is, w.i-is)
          (writing_more _ _ _ _ _ _ so_far c.loop-x-test.true some _ (sym c.has_number.ensures ∙ w.if-has_number.true) w.write_number.ensures)
      | else-has_number w ↦
          rw (w.out-is, w.i-is)
          (writing-skip _ _ _ _ _ _ so_far c.loop-x-test.true some (sym c.has_number.ensures ∙ w.if-has_number.false))
    ]

pub returns : goal.returns
returns c = writing-done _ _ _ _ _ _ c.loop-x.invariant (omega (arith, writing-all _ _ _ _ _ _ c.loop-x.invariant c.loop-x-test.false))
