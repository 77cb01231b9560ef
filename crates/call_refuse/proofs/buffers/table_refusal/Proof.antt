use borrow.Author.Rules.{rules}
use borrow.Author.Tests.{le-leb, lt-leb}
use Rattle.base.proofs.Numbers.{granted, denied}
use Rattle.plan_rules.specs.Refusal.{refuse}
use Rattle.call_rules.specs.Refusals.{table_checks}
use Rattle.call_refuse.proofs.buffers.table_refusal.Statement.{statement}
use Rattle.call_refuse.proofs.buffers.table_refusal.Tie as tie

returns : tie.Need-returns-then-table-net
unfolding refuse table_checks
returns c distances = rw (lt-leb _ _ c.if-table-net.true)

returns-2 : tie.Need-returns-then-not-table_ok
unfolding refuse table_checks
returns-2 c distances =
    rw (le-leb _ _ c.if-table-net.false, denied _ (c.table_ok.ensures distances) c.if-not-table_ok.true)

returns-3 : tie.Need-returns
unfolding refuse table_checks
returns-3 c distances =
    rw (le-leb _ _ c.if-table-net.false, granted _ (c.table_ok.ensures distances) c.if-not-table_ok.false)

pub table_refusal_spec : {M : Type 1} → statement M
table_refusal_spec =
    tie.close
    (tie.spec
    (λ c. search rules)
    returns
    (λ c κs. search rules)
    returns-2
    returns-3)
