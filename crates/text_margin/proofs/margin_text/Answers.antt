-- The short input's line, and the line of what the comparison says.
use Rattle.std.proofs.Common.{rules, ◌∙◌}
use Rattle.text_fields.proofs.Writing.{at_front}
use Rattle.text_margin.proofs.Line.{short-text, rest, long-text, answer-line}
use Rattle.text_margin.proofs.margin_text.Goals as goal

pub returns-then-input-lt3 : goal.returns-then-input-lt3
returns-then-input-lt3 c =
    at_front c.new-text.ensures.lent c.new-text.ensures.empty c.refused_line.ensures (search rules) (short-text _ c.if-input-lt3.true)

pub returns : goal.returns
returns c =
    let input = c.args.input.now in
    at_front c.new-text.ensures.lent c.new-text.ensures.empty c.answer_line.ensures (search rules)
    (answer-line _ _ _ _ _ _ c.compare-answer.ensures
    ∙ long-text input c.if-input-lt3.false (rest input)
    c.wide-router.ensures.0
    c.wide-first.ensures.0
    c.wide-second.ensures.0)
