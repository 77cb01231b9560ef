-- `call_everylist::every_list::every_list`: what is asked about is the plan's own network.
use native.Mathlib.Omega.{arith}
use mathlib.Core.Path.{◌≡◌, refl, ◌∙◌, sym}
use borrow.Author.Rules.{rules}
use lib.Dec.{lit<}
use Rattle.plan_rules.proofs.Passed.{passed}
use Rattle.plan_read.specs.Checked.{Accepted}
use Rattle.net_rules.proofs.Opened.{opened-over}
use Rattle.call_rules.specs.Refusals.{every_list_refusal}
use Rattle.call_rules.proofs.Granted.{EveryListAsked, every-list-asked}
use Rattle.call_everylist.proofs.Answers.{every-refused, every_given}
use Rattle.call_everylist.proofs.every_list.every_list.Statement.{statement}
use Rattle.call_everylist.proofs.every_list.every_list.Tie as tie

-- where the plan was checked and where the call starts, from the refusal
abbrev read : tie.After-every_list_refusal-refused → tie.After-check-checked
read c = c.before

abbrev entry : tie.Else-refused-ne0 → tie.Start
entry c = (read c.before).before.before.before

-- nothing is refused
module _ (c : tie.Else-refused-ne0) where
  given : let a = (entry c).args in every_list_refusal a.plan.now a.list.now ≡ 0
  given = sym (c.every_list_refusal-refused.ensures _ (read c.before).check-checked.ensures) ∙ c.if-refused-ne0.false

  asked : let a = (entry c).args in EveryListAsked a.plan.now a.list.now
  asked = every-list-asked _ _ given

  accepted : Accepted (entry c).args.plan.now (read c.before).check-checked.result
  accepted = (read c.before).check-checked.ensures.accepted asked.plan_ok

every-list-requires : tie.Need-every_list-requires
every-list-requires c κs =
    let d = c.before.before in
    let o = opened-over d.open_plan-net.ensures d.part-distances.ensures.bytes in
    (o.formed, rw o.count (asked d.before.before.before).long)

returns-2 : tie.Need-returns
returns-2 c =
    let found = c in
    let d = c.before.before.before.before.before.before in
    let o = opened-over d.open_plan-net.ensures d.part-distances.ensures.bytes in
    every_given _ _ _ _ (given d.before.before.before) c.answer.ensures (rw o.same at found.every_list.ensures)

pub every_list_spec : {M : Type 1} → statement M
every_list_spec =
    tie.close
    (tie.spec
    (λ c κs. search rules)
    (λ c κs. search rules)
    (λ c. search rules)
    (λ c. every-refused _ _ _ (c.every_list_refusal-refused.ensures _ (read c.before).check-checked.ensures) c.if-refused-ne0.true)
    (λ c κs. let p = accepted c.before in (p, omega (arith, (passed _ p.ok).lists.some), refl))
    (λ c κs. (accepted c.before.before, lit< tt))
    every-list-requires
    (λ c κs. search rules)
    (λ c. search rules)
    returns-2)
