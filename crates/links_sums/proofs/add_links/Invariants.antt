-- `links_sums::add_links`: the words are those of the sums over no link and one of the first k.
use Rattle.links_rules.specs.Sums.{direct}
use Rattle.links_sums.specs.Words.{HoldsSums}
use Rattle.links_sums.proofs.add_links.Given as goal

abbrev pub invariant-loop-k : goal.invariant-loop-k
invariant-loop-k l = HoldsSums (direct l.links l.k) l.n l.words
