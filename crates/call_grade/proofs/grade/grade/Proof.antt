use mathlib.Core.Path.{◌≡◌, refl, ◌∙◌, sym, ap}
use borrow.Author.Rules.{rules}
use lib.Dec.{lit<}
use Rattle.net_rules.proofs.Opened.{opened-over}
use Rattle.call_rules.specs.Refusals.{egress_list_refusal}
use Rattle.call_rules.proofs.Granted.{ListAsked, list-asked}
use Rattle.call_grade.specs.Grade.{graded_for}
use Rattle.call_grade.proofs.Answers.{graded-not, graded-so}
use Rattle.call_grade.proofs.grade.grade.Statement.{statement}
use Rattle.call_grade.proofs.grade.grade.Tie as tie

abbrev entry : tie.Else-refused-ne0 → tie.Start
entry c = c.before.before.before.before

-- the plan and the list pass
passed : (c : tie.Else-refused-ne0) → let a = (entry c).args in egress_list_refusal a.plan.now a.list ≡ 0
passed c = sym (c.list_refusal-refused.ensures _ c.check-checked.ensures) ∙ c.if-refused-ne0.false

asked : (c : tie.Else-refused-ne0) → let a = (entry c).args in ListAsked a.plan.now a.list
asked c = list-asked _ _ (passed c)

returns-2 : tie.Need-returns
returns-2 c =
    let d = c.before.before in
    let o = opened-over d.open_plan-net.ensures d.part-distances.ensures.bytes in
    graded-so _ _ (passed d.before.before.before) _ (c.grade_list.ensures ∙ ap graded_for o.same)

pub grade_spec : {M : Type 1} → statement M
grade_spec =
    tie.close
    (tie.spec
    (λ c κs. search rules)
    (λ c κs. search rules)
    (λ c. graded-not _ _ _ (c.list_refusal-refused.ensures _ c.check-checked.ensures) c.if-refused-ne0.true)
    (λ c κs. let d = c.before in let q = asked d in (d.check-checked.ensures.accepted q.plan_ok, q.list, refl))
    (λ c κs. let d = c.before.before in (d.check-checked.ensures.accepted (asked d).plan_ok, lit< tt))
    (λ c κs. (opened-over c.open_plan-net.ensures c.part-distances.ensures.bytes).formed)
    returns-2)
