-- `links_words::pass_through`: the rows below i have come down to what goes through k.
use Rattle.links_words.specs.Lowered.{RowsLowered}
use Rattle.links_words.proofs.pass_through.Given as goal

abbrev pub invariant-loop-i : goal.invariant-loop-i
invariant-loop-i l = RowsLowered l.n l.k l.initial.words l.i l.words
