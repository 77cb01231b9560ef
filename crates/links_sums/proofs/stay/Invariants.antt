-- `links_sums::stay`: routers below u have the walk of no link.
use Rattle.links_sums.specs.Words.{HoldsSums}
use Rattle.links_sums.proofs.Words.{stays}
use Rattle.links_sums.proofs.stay.Given as goal

abbrev pub invariant-loop-u : goal.invariant-loop-u
invariant-loop-u l = HoldsSums (stays l.u) l.n l.words
