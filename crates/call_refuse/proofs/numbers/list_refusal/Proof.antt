use mathlib.Core.Path.{◌∙◌, sym}
use borrow.Author.Rules.{rules}
use borrow.Author.Tests.{lt-ltb, le-ltb}
use Rattle.plan_rules.specs.Refusal.{refuse}
use Rattle.plan_rules.proofs.Cascade.{plan-passes, plan-refused}
use Rattle.call_rules.specs.Refusals.{egress_list_refusal}
use Rattle.call_refuse.proofs.numbers.list_refusal.Statement.{statement}
use Rattle.call_refuse.proofs.numbers.list_refusal.Tie as tie

returns : tie.Need-returns-then-checked-ne0
unfolding egress_list_refusal
returns c plan read = read.number ∙ sym (plan-refused _ _ (λ ok. c.if-checked-ne0.true (read.number ∙ ok)))

returns-2 : tie.Need-returns-then-checked-list
unfolding egress_list_refusal refuse
returns-2 c plan read =
    let ok = sym read.number ∙ c.if-checked-ne0.false in
    rw (plan-passes _ _ ok, ← (read.accepted ok).lists, le-ltb _ _ c.if-checked-list.true)

returns-3 : tie.Need-returns
unfolding egress_list_refusal refuse
returns-3 c plan read =
    let ok = sym read.number ∙ c.if-checked-ne0.false in
    rw (plan-passes _ _ ok, ← (read.accepted ok).lists, lt-ltb _ _ c.if-checked-list.false)

pub list_refusal_spec : {M : Type 1} → statement M
list_refusal_spec = tie.close (tie.spec returns (λ c. search rules) returns-2 returns-3)
