-- One number more, and at the end all of them.
use Rattle.std.proofs.Common.{rules, refl, ◌∙◌, sym, ap, arith, take, ◌∷◌, ◌++◌}
use lib.Seq.{take-length}
use Rattle.text_fields.specs.Fields.{decimal, spaced, number_fields}
use Rattle.text_fields.proofs.Fields.{spaced-more}
use Rattle.text_fields.proofs.Writing.{put_as, putting-start, putting-more, putting-done}
use Rattle.text_fields.proofs.Text.put_next_numbers.Goals as goal

pub loop-number-init : goal.loop-number-init
unfolding spaced
loop-number-init c = putting-start refl (search rules)

pub loop-number-preserved : goal.loop-number-preserved
loop-number-preserved c =
    let s = c.args.numbers.now in
    let i = c.loop-number.number-index in
    putting-more c.loop-number.invariant c.loop-number-test.true
    (spaced-more s i c.loop-number-test.true ∙ ap (λ x. number_fields (take i s) ++ (32 ∷ decimal x)) (sym c.wide.ensures.0))
    c.put_next_number.ensures

pub returns : goal.returns
returns c =
    let s = c.args.numbers.now in
    put_as (putting-done c.loop-number.invariant c.loop-number-test.false) (ap number_fields (take-length s)) (omega arith)
