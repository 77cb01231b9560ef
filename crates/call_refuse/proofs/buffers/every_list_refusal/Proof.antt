use mathlib.Core.Path.{◌∙◌, sym}
use borrow.Author.Rules.{rules}
use borrow.Author.Tests.{le-leb, lt-leb}
use Rattle.plan_rules.specs.Refusal.{refuse}
use Rattle.plan_rules.proofs.Cascade.{plan-passes, plan-refused}
use Rattle.call_rules.specs.Refusals.{every_list_refusal}
use Rattle.call_refuse.proofs.buffers.every_list_refusal.Statement.{statement}
use Rattle.call_refuse.proofs.buffers.every_list_refusal.Tie as tie

returns : tie.Need-returns-then-checked-ne0
unfolding every_list_refusal
returns c plan read = read.number ∙ sym (plan-refused _ _ (λ ok. c.if-checked-ne0.true (read.number ∙ ok)))

-- the plan passes: the buffer decides
returns-2 : tie.Need-returns-then-list-checked
unfolding every_list_refusal refuse
returns-2 c plan read =
    let ok = sym read.number ∙ c.if-checked-ne0.false in
    rw (plan-passes _ _ ok, ← (read.accepted ok).routers, lt-leb _ _ c.if-list-checked.true)

returns-3 : tie.Need-returns
unfolding every_list_refusal refuse
returns-3 c plan read =
    let ok = sym read.number ∙ c.if-checked-ne0.false in
    rw (plan-passes _ _ ok, ← (read.accepted ok).routers, le-leb _ _ c.if-list-checked.false)

pub every_list_refusal_spec : {M : Type 1} → statement M
every_list_refusal_spec = tie.close (tie.spec returns (λ c. search rules) returns-2 returns-3)
