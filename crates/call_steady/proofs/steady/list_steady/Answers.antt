-- `call_steady::steady::list_steady`: rows 15 and 9, and what the set holds written out.
use Rattle.std.proofs.Common.{arith}
use Rattle.call_steady.proofs.Answers.{steady-refused, many-checks, set-counted, set-small, short-checks, listed-given}
use Rattle.call_steady.proofs.steady.list_steady.Goals as goal

pub returns-in_default : goal.returns-in_default
returns-in_default c = steady-refused 15 _ _ _ (many-checks _ _ c.in_default.ensures _) (λ e. omega (arith, e))

pub overflow_mul-count : goal.overflow_mul-count
overflow_mul-count c = omega (arith, set-small _ _ _ c.in-Some.ensures)

pub returns-then-out-count : goal.returns-then-out-count
returns-then-out-count c = steady-refused 9 _ _ _ (short-checks _ _ _ c.in-Some.ensures _ c.if-out-count.true) (λ e. omega (arith, e))

pub write_numbers-requires : goal.write_numbers-requires
write_numbers-requires c = (set-counted _ _ _ c.in-Some.ensures, c.if-out-count.false)

pub returns : goal.returns
returns c = listed-given _ _ _ c.in-Some.ensures _ c.if-out-count.false c.write_numbers.ensures
