use mathlib.Core.Path.{◌∙◌, sym}
use borrow.Author.Rules.{rules}
use borrow.Author.Tests.{le-leb, lt-leb}
use Rattle.plan_rules.specs.Refusal.{refuse}
use Rattle.plan_rules.proofs.Cascade.{plan-passes, plan-refused}
use Rattle.call_rules.specs.Refusals.{counts_ok, figures_refusal}
use Rattle.call_refuse.proofs.buffers.figures_refusal.Statement.{statement}
use Rattle.call_refuse.proofs.buffers.figures_refusal.Tie as tie

returns : tie.Need-returns-then-checked-ne0
unfolding figures_refusal
returns c plan read = read.number ∙ sym (plan-refused _ _ (λ ok. c.if-checked-ne0.true (read.number ∙ ok)))

-- the plan passes: the buffers decide
returns-2 : tie.Need-returns-then-ranks-n
unfolding figures_refusal counts_ok refuse
returns-2 c plan read =
    let ok = sym read.number ∙ c.if-checked-ne0.false in
    rw (plan-passes _ _ ok, ← (read.accepted ok).routers, lt-leb _ _ c.if-ranks-n.true)

returns-3 : tie.Need-returns-then-routers-n
unfolding figures_refusal counts_ok refuse
returns-3 c plan read =
    let ok = sym read.number ∙ c.if-checked-ne0.false in
    rw (plan-passes _ _ ok, ← (read.accepted ok).routers, le-leb _ _ c.if-ranks-n.false, lt-leb _ _ c.if-routers-n.true)

returns-4 : tie.Need-returns
unfolding figures_refusal counts_ok refuse
returns-4 c plan read =
    let ok = sym read.number ∙ c.if-checked-ne0.false in
    rw (plan-passes _ _ ok, ← (read.accepted ok).routers, le-leb _ _ c.if-ranks-n.false, le-leb _ _ c.if-routers-n.false)

pub figures_refusal_spec : {M : Type 1} → statement M
figures_refusal_spec = tie.close (tie.spec returns (λ c. search rules) returns-2 returns-3 returns-4)
