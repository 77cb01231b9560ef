-- The line of a refused plan, and the lines of one that passes.
use Rattle.std.proofs.Common.{rules, arith, ◌∙◌, sym, ap, length}
use Rattle.plan_read.specs.Checked.{Accepted}
use Rattle.text_fields.proofs.Writing.{put_then, at_front}
use Rattle.text_verdict.proofs.Lines.{few, text-refused, text-given}
use Rattle.text_verdict.proofs.plan_text.Goals as goal
use Rattle.text_verdict.proofs.plan_text.Goals.{Else-refused-ne0}

-- the plan passes
given : (c : Else-refused-ne0) → Accepted c.args.plan.now c.check-checked.result
given c = let r = c.check-checked.ensures in r.accepted (sym r.number ∙ c.if-refused-ne0.false)

pub returns-then-refused-ne0 : goal.returns-then-refused-ne0
returns-then-refused-ne0 c =
    at_front c.new-text.ensures.lent (omega (arith, c.new-text.ensures.empty)) c.refused_line.ensures (search rules)
    (text-refused _ _ c.check-checked.ensures.number c.if-refused-ne0.true)

pub head_line-requires : goal.head_line-requires
head_line-requires c =
    let m = few (given (goal.at.head_line-requires c).Else-refused-ne0) in
    omega (arith, ap length c.new-text.ensures.lent)

pub list_lines-requires : goal.list_lines-requires
list_lines-requires c =
    let a = given (goal.at.list_lines-requires c).Else-refused-ne0 in
    let m = few a in
    (omega (arith, ap length c.new-text.ensures.lent), a, omega arith)

pub returns : goal.returns
returns c =
    at_front c.new-text.ensures.lent c.new-text.ensures.empty (put_then c.head_line.ensures c.list_lines.ensures) (search rules)
    (text-given (given (goal.at.returns c).Else-refused-ne0))
