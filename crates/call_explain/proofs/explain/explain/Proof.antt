use native.Mathlib.Omega.{arith}
use mathlib.Core.Path.{◌≡◌, refl, ◌∙◌, sym}
use borrow.Author.Rules.{rules}
use lib.Dec.{lit<}
use Rattle.net_rules.proofs.Opened.{opened-over}
use Rattle.call_rules.specs.Refusals.{relies_refusal}
use Rattle.call_rules.proofs.Granted.{ReliesAsked, relies-asked}
use Rattle.call_explain.proofs.Explaining.{explains-refused, explains-given}
use Rattle.call_explain.proofs.explain.explain.Statement.{statement}
use Rattle.call_explain.proofs.explain.explain.Tie as tie

-- nothing is refused
given : (c : tie.Else-refused-ne0) → let a = c.args in relies_refusal a.plan.now a.list a.router a.other ≡ 0
given c = sym (c.relies_refusal-refused.ensures _ c.check-checked.ensures) ∙ c.if-refused-ne0.false

asked : (c : tie.Else-refused-ne0) → let a = c.args in ReliesAsked a.plan.now a.list a.router a.other
asked c = relies-asked _ _ _ _ (given c)

explained-requires : tie.Need-explained-requires
explained-requires c κs =
    let d = c.before in
    let o = opened-over d.open_plan-net.ensures d.part-distances.ensures.bytes in
    let q = asked d.before.before.before in
    (o.formed, omega arith, omega arith)

-- the explanation found is that of the plan's network
returns-2 : tie.Need-returns
returns-2 c =
    let d = c.before.before in
    let o = opened-over d.open_plan-net.ensures d.part-distances.ensures.bytes in
    explains-given _ _ _ _ (given d.before.before.before) _ (rw o.same at c.explained.ensures)

pub explain_spec : {M : Type 1} → statement M
explain_spec =
    tie.close
    (tie.spec
    (λ c κs. search rules)
    (λ c κs. search rules)
    (λ c. explains-refused _ _ _ _ _ (c.relies_refusal-refused.ensures _ c.check-checked.ensures) c.if-refused-ne0.true)
    (λ c κs. let d = c.before in let q = asked d in (d.check-checked.ensures.accepted q.plan_ok, q.list, refl))
    (λ c κs. let d = c.before.before in (d.check-checked.ensures.accepted (asked d).plan_ok, lit< tt))
    explained-requires
    returns-2)
