-- `checker::verdict::verdict`: what is assessed is the plan's own network.
use mathlib.Core.Path.{◌≡◌, refl, ◌∙◌, sym}
use borrow.Author.Rules.{rules}
use lib.Dec.{lit<}
use Rattle.net_rules.proofs.Opened.{opened-over}
use Rattle.call_rules.specs.Refusals.{verdict_refusal}
use Rattle.call_rules.proofs.Granted.{VerdictAsked, verdict-asked}
use Rattle.call_verdict.proofs.Judging.{verdict-refused, verdict-given}
use Rattle.call_verdict.proofs.verdict.verdict.Statement.{statement}
use Rattle.call_verdict.proofs.verdict.verdict.Tie as tie

-- where the plan was checked and where the call starts, from the refusal
abbrev read : tie.After-verdict_refusal-refused → tie.After-check-checked
read c = c.before

abbrev entry : tie.Else-refused-ne0 → tie.Start
entry c = (read c.before).before.before.before.before.before.before

-- nothing is refused
given : (c : tie.Else-refused-ne0)
    → let a = (entry c).args in verdict_refusal a.plan.now a.list a.labels.now a.ranks.now a.table.now a.cycle.now ≡ 0
given c = sym (c.verdict_refusal-refused.ensures _ (read c.before).check-checked.ensures) ∙ c.if-refused-ne0.false

asked : (c : tie.Else-refused-ne0)
    → let a = (entry c).args in VerdictAsked a.plan.now a.list a.labels.now a.ranks.now a.table.now a.cycle.now
asked c = verdict-asked _ _ _ _ _ _ (given c)

assess-requires : tie.Need-assess-requires
assess-requires c κs =
    let d = c.before.before.before.before.before in
    let o = opened-over d.open_plan-net.ensures d.part-distances.ensures.bytes in
    let q = asked d.before.before.before in
    (o.formed, rw o.count q.labels_long, rw o.count q.ranks_long, rw o.count q.table_long, rw o.count q.cycle_long)

returns-2 : tie.Need-returns
returns-2 c =
    let found = c in
    let d = c.before.before.before.before.before.before.before.before.before.before.before.before.before.before.before in
    let o = opened-over d.open_plan-net.ensures d.part-distances.ensures.bytes in
    rw c.answer.ensures (verdict-given _ _ _ _ _ _ _ (given d.before.before.before) (rw o.same at found.assess.ensures))

pub verdict_spec : {M : Type 1} → statement M
verdict_spec =
    tie.close
    (tie.spec
    (λ c κs. search rules)
    (λ c κs. search rules)
    (λ c. search rules)
    (λ c. search rules)
    (λ c. search rules)
    (λ c. search rules)
    (λ c. verdict-refused _ _ _ _ _ _ _ (c.verdict_refusal-refused.ensures _ (read c.before).check-checked.ensures) c.if-refused-ne0.true)
    (λ c κs. let d = c.before in let q = asked d in ((read d.before).check-checked.ensures.accepted q.plan_ok, q.list, refl))
    (λ c κs. let d = c.before.before in ((read d.before).check-checked.ensures.accepted (asked d).plan_ok, lit< tt))
    assess-requires
    (λ c κs. search rules)
    (λ c. search rules)
    (λ c. search rules)
    (λ c. search rules)
    (λ c. search rules)
    returns-2)
