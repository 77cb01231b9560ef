-- `call_steady::numbers::write_numbers`: the numbers below x are written, i of them.
use Rattle.call_steady.proofs.NumberList.{Writing}
use Rattle.call_steady.proofs.numbers.write_numbers.Given as goal

abbrev pub invariant-loop-x : goal.invariant-loop-x
invariant-loop-x l = Writing l.set l.count l.fn.out l.out l.i l.x
