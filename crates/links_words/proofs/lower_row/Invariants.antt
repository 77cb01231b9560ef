-- `links_words::lower_row`: the first j columns have come down.
use Rattle.links_words.specs.Lowered.{RowLowered}
use Rattle.links_words.proofs.lower_row.Given as goal

abbrev pub invariant-loop-j : goal.invariant-loop-j
invariant-loop-j l = RowLowered l.first l.beyond l.initial.words l.i l.j l.words
