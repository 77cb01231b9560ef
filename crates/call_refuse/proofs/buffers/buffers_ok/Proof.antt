use borrow.Author.Rules.{rules}
use borrow.Author.Tests.{le-leb, lt-leb}
use Rattle.call_rules.specs.Refusals.{buffers_ok}
use Rattle.call_refuse.proofs.buffers.buffers_ok.Statement.{statement}
use Rattle.call_refuse.proofs.buffers.buffers_ok.Tie as tie

returns : tie.Need-returns-then-labels-n
unfolding buffers_ok
returns c = rw (lt-leb _ _ c.if-labels-n.true)

returns-2 : tie.Need-returns-then-ranks-n
unfolding buffers_ok
returns-2 c = rw (le-leb _ _ c.if-labels-n.false, lt-leb _ _ c.if-ranks-n.true)

returns-3 : tie.Need-returns-then-table-n
unfolding buffers_ok
returns-3 c = rw (le-leb _ _ c.if-labels-n.false, le-leb _ _ c.if-ranks-n.false, lt-leb _ _ c.if-table-n.true)

returns-4 : tie.Need-returns
unfolding buffers_ok
returns-4 c = rw (le-leb _ _ c.if-labels-n.false, le-leb _ _ c.if-ranks-n.false, le-leb _ _ c.if-table-n.false)

pub buffers_ok_spec : {M : Type 1} → statement M
buffers_ok_spec = tie.close (tie.spec returns returns-2 (λ c. search rules) returns-3 returns-4)
