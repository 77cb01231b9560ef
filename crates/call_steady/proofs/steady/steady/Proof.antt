-- `call_steady::steady::steady`: what is listed are the tables of the plan's own network.
use mathlib.Core.Path.{◌≡◌, refl, ◌∙◌, sym}
use borrow.Author.Rules.{rules}
use lib.Dec.{lit<}
use Rattle.net_rules.proofs.Opened.{opened-over}
use Rattle.call_rules.specs.Refusals.{egress_list_refusal}
use Rattle.call_rules.proofs.Granted.{ListAsked, list-asked}
use Rattle.call_steady.proofs.Answers.{steady-unasked, steady-asked}
use Rattle.call_steady.proofs.steady.steady.Statement.{statement}
use Rattle.call_steady.proofs.steady.steady.Tie as tie

-- where the plan was checked and where the call starts
abbrev read : tie.Else-refused-ne0 → tie.After-check-checked
read c = c.before.before

abbrev entry : tie.Else-refused-ne0 → tie.Start
entry c = (read c).before.before.before

-- the plan and the list pass
given : (c : tie.Else-refused-ne0) → let a = (entry c).args in egress_list_refusal a.plan.now a.list ≡ 0
given c = sym (c.list_refusal-refused.ensures _ (read c).check-checked.ensures) ∙ c.if-refused-ne0.false

asked : (c : tie.Else-refused-ne0) → let a = (entry c).args in ListAsked a.plan.now a.list
asked c = list-asked _ _ (given c)

returns-2 : tie.Need-returns
returns-2 c =
    let l = c in
    let d = c.before.before.before.before.before in
    let o = opened-over d.open_plan-net.ensures d.part-distances.ensures.bytes in
    steady-asked _ _ _ _ (given d.before.before.before) (rw o.same at l.list_steady.ensures)

pub steady_spec : {M : Type 1} → statement M
steady_spec =
    tie.close
    (tie.spec
    (λ c κs. search rules)
    (λ c κs. search rules)
    (λ c. steady-unasked _ _ _ _ (c.list_refusal-refused.ensures _ c.check-checked.ensures) c.if-refused-ne0.true)
    (λ c κs. let d = c.before in let q = asked d in ((read d).check-checked.ensures.accepted q.plan_ok, q.list, refl))
    (λ c κs. let d = c.before.before in ((read d).check-checked.ensures.accepted (asked d).plan_ok, lit< tt))
    (λ c κs. let d = c.before.before in (opened-over d.open_plan-net.ensures d.part-distances.ensures.bytes).formed)
    (λ c. search rules)
    returns-2)
