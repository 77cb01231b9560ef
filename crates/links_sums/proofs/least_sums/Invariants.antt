-- `links_sums::least_sums`: the words are those of the sums over walks through routers below `via`.
use Rattle.std.proofs.Math.Option.{none}
use Rattle.base.specs.Elimination.{cell}
use Rattle.links_rules.specs.Sums.{summing}
use Rattle.links_sums.specs.Words.{HoldsSums}
use Rattle.links_sums.proofs.least_sums.Given as goal

abbrev pub invariant-loop-via : goal.invariant-loop-via
invariant-loop-via l = HoldsSums (cell none (summing l.links l.n l.via)) l.n l.words
