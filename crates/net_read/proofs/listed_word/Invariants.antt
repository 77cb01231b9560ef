-- `net_read::listed_word`: the routers that the numbers before this one name are marked.
use Rattle.std.proofs.Common.{eqb, get_or}
use Rattle.net_read.proofs.Marks.{Marks}
use Rattle.net_read.proofs.listed_word.Given as goal

abbrev pub invariant-loop-number : goal.invariant-loop-number
invariant-loop-number l = Marks (λ v j. eqb (get_or l.numbers j 0) v) l.number-index l.word
