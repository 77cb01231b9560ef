use native.Mathlib.Omega.{arith}
use mathlib.Core.Path.{◌≡◌, refl, ◌∙◌, sym}
use borrow.Author.Rules.{rules}
use lib.Dec.{lit<}
use Rattle.route_rules.specs.Reliance.{relies}
use Rattle.net_rules.specs.FromPlan.{instance_of}
use Rattle.net_rules.proofs.Opened.{opened-over}
use Rattle.call_rules.specs.Refusals.{relies_refusal}
use Rattle.call_rules.proofs.Granted.{ReliesAsked, relies-asked}
use Rattle.call_query.proofs.Relying.{relied-refused, relied-yes, relied-no}
use Rattle.call_query.proofs.relies.relies.Statement.{statement}
use Rattle.call_query.proofs.relies.relies.Tie as tie

-- nothing is refused
given : (c : tie.Else-refused-ne0) → let a = c.args in relies_refusal a.plan.now a.list a.router a.other ≡ 0
given c = sym (c.relies_refusal-refused.ensures _ c.check-checked.ensures) ∙ c.if-refused-ne0.false

asked : (c : tie.Else-refused-ne0) → let a = c.args in ReliesAsked a.plan.now a.list a.router a.other
asked c = relies-asked _ _ _ _ (given c)

-- where the guard is, from after the calls
abbrev guard : tie.After-part-distances → tie.Else-refused-ne0
guard c = c.before.before.before

relies-requires : tie.Need-relies-requires
relies-requires c κs =
    let d = c.before in
    let o = opened-over d.open_plan-net.ensures d.part-distances.ensures.bytes in
    let q = asked (guard d) in
    (o.formed, omega arith, omega arith)

-- the reliance found is that of the plan's network
judged : (c : tie.After-relies) → let a = (guard c.before.before).args in
    c.relies.result ≡ relies (instance_of a.plan.now a.list) a.router a.other
judged c =
    let d = c in
    rw (opened-over d.open_plan-net.ensures d.part-distances.ensures.bytes).same at c.relies.ensures

pub relies_spec : {M : Type 1} → statement M
relies_spec =
    tie.close
    (tie.spec
    (λ c κs. search rules)
    (λ c κs. search rules)
    (λ c. relied-refused _ _ _ _ _ (c.relies_refusal-refused.ensures _ c.check-checked.ensures) c.if-refused-ne0.true)
    (λ c κs. let d = c.before in let q = asked d in (d.check-checked.ensures.accepted q.plan_ok, q.list, refl))
    (λ c κs. let d = c.before.before in (d.check-checked.ensures.accepted (asked d).plan_ok, lit< tt))
    relies-requires
    (λ c. relied-yes _ _ _ _ (given (guard c.before.before.before)) (sym (judged c.before) ∙ c.if-relies.true))
    (λ c. relied-no _ _ _ _ (given (guard c.before.before.before)) (sym (judged c.before) ∙ c.if-relies.false)))
