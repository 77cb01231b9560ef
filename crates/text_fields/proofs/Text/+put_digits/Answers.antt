-- No digit, the only one, or the last after the others.
use Rattle.std.proofs.Common.{rules, sym, arith}
use Rattle.text_fields.specs.Fields.{digits}
use Rattle.text_fields.proofs.Digits.{digits-one, digits_last}
use Rattle.text_fields.proofs.Writing.{put-none, put_then, put_as}
use Rattle.text_fields.proofs.Text.+put_digits.Goals as goal

pub returns-then-left-eq0 : goal.returns-then-left-eq0
unfolding digits
returns-then-left-eq0 t c = rw c.if-left-eq0.true (put-none (search rules))

pub returns-then-x-lt10 : goal.returns-then-x-lt10
returns-then-x-lt10 t c =
    put_as c.put_digit.ensures (sym (digits-one _ _ c.if-left-eq0.false c.if-x-lt10.true)) (omega arith)

pub returns : goal.returns
returns t c =
    put_as (put_then c.put_digits.ensures c.put_digit-2.ensures)
    (sym (digits_last _ _ c.if-left-eq0.false c.if-x-lt10.false))
    (omega arith)
