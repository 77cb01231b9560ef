-- `links_words::pass_through`: a row comes down to what goes through k, or has no walk there.
use Rattle.std.proofs.Common.{rules, arith}
use Rattle.std.proofs.lemmas.Grind.{common_steps}
use Rattle.links_words.proofs.Lowered.{rows_start, rows_more, rows-skip}
use Rattle.links_words.proofs.pass_through.Goals as goal
use Rattle.links_words.proofs.pass_through.Goals.{then-first, else-first}

pub loop-i-init : goal.loop-i-init
loop-i-init c = rows_start _ _ _

pub loop-i-preserved : goal.loop-i-preserved
loop-i-preserved c =
    elim c.if-first.branch [
      | then-first w ↦
          rw w.words-is
          (rows_more _ _ _ _ _ _ _ _ c.columns-m.ensures.0 c.columns-m.ensures.1 (omega arith) (λ j l. grind (arith, common_steps))
          c.loop-i.invariant w.lower_row.ensures)
      | else-first w ↦
          rw w.words-is (rows-skip _ _ _ _ _ (λ p. search rules) (omega arith) c.loop-i.invariant w.if-first.false)
    ]
