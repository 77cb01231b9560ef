use mathlib.Core.Path.{◌≡◌, ◌∙◌, sym}
use borrow.Author.Rules.{rules}
use Rattle.call_rules.specs.Refusals.{egress_list_refusal}
use Rattle.call_rules.proofs.Granted.{list-asked}
use Rattle.c_query.proofs.Given.{list-refused, list-given}
use Rattle.c_query.proofs.list.Statement.{statement}
use Rattle.c_query.proofs.list.Tie as tie

-- nothing is refused
given : (c : tie.Else-refused-ne0) → let a = c.args in egress_list_refusal a.plan.now a.list ≡ 0
given c = sym (c.list_refusal-refused.ensures _ c.check-checked.ensures) ∙ c.if-refused-ne0.false

pub list_spec : {M : Type 1} → statement M
list_spec =
    tie.close
    (tie.spec
    (λ c κs. search rules)
    (λ c κs. search rules)
    (λ c. list-refused _ _ _ _ _ (c.list_refusal-refused.ensures _ c.check-checked.ensures) c.if-refused-ne0.true)
    (λ c κs. let q = list-asked _ _ (given c) in (c.check-checked.ensures.accepted q.plan_ok, q.list))
    (λ c. list-given _ _ _ _ _ _ (given c.before) c.list_span-span.ensures))
