use borrow.Author.Tests.{le-leb, lt-leb}
use lib.Count.{ones}
use Rattle.net_hopset.proofs.smaller.Statement.{statement}
use Rattle.net_hopset.proofs.smaller.Tie as tie

returns : tie.Need-returns-then-x-best
returns c = let a = c.args in rw (le-leb (ones a.x) (ones a.best) c.if-x-best.true)

returns-2 : tie.Need-returns
returns-2 c = let a = c.args in rw (lt-leb (ones a.x) (ones a.best) c.if-x-best.false)

pub smaller_spec : {M : Type 1} → statement M
smaller_spec = tie.close (tie.spec returns returns-2)
