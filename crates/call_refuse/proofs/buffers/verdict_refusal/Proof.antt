use Prim.Native.Nat.{ℕ}
use mathlib.Core.Path.{◌≡◌, ◌∙◌, sym, ap}
use mathlib.Core.List.{List}
use borrow.Author.Rules.{rules}
use Rattle.base.proofs.Numbers.{granted, denied}
use Rattle.plan_contents.specs.Header.{router_count}
use Rattle.plan_rules.specs.Refusal.{refuse}
use Rattle.plan_read.specs.Checked.{Checked}
use Rattle.call_rules.specs.Refusals.{has_list, egress_list_refusal, buffers_ok, verdict_refusal}
use Rattle.call_rules.proofs.Granted.{asked-refused, asked-passed, list-asked}
use Rattle.call_refuse.proofs.buffers.verdict_refusal.Statement.{statement}
use Rattle.call_refuse.proofs.buffers.verdict_refusal.Tie as tie

abbrev entry : tie.Else-refused-ne0 → tie.Start
entry c = c.before.before.before.before.before.before

-- the plan and the list pass
given : (c : tie.Else-refused-ne0) (plan : List ℕ) → let a = (entry c).args in Checked plan a.checked → egress_list_refusal plan a.list ≡ 0
given c plan read = sym (c.list_refusal-refused.ensures plan read) ∙ c.if-refused-ne0.false

-- the buffers are judged by the plan's n
judged : (c : tie.After-buffers_ok) (plan : List ℕ) → let a = (entry c.before.before).args in
    Checked plan a.checked → c.buffers_ok.result ≡ buffers_ok (router_count plan) a.labels.now a.ranks.now a.table.now a.cycle.now
judged c plan read =
    rw (← (read.accepted (list-asked _ _ (given c.before.before plan read)).plan_ok).routers) c.buffers_ok.ensures

returns : tie.Need-returns-then-refused-ne0
unfolding egress_list_refusal verdict_refusal
returns c plan read = asked-refused plan (has_list plan c.args.list) _ _ (c.list_refusal-refused.ensures plan read) c.if-refused-ne0.true

returns-2 : tie.Need-returns-then-not-buffers_ok
unfolding egress_list_refusal verdict_refusal refuse
returns-2 c plan read =
    sym (ap (λ b. refuse b 9 0) (denied _ (judged c.before plan read) c.if-not-buffers_ok.true))
    ∙ asked-passed plan (has_list plan (entry c.before.before.before).args.list) _ (given c.before.before.before plan read)

returns-3 : tie.Need-returns
unfolding egress_list_refusal verdict_refusal refuse
returns-3 c plan read =
    sym (ap (λ b. refuse b 9 0) (granted _ (judged c.before plan read) c.if-not-buffers_ok.false))
    ∙ asked-passed plan (has_list plan (entry c.before.before.before).args.list) _ (given c.before.before.before plan read)

pub verdict_refusal_spec : {M : Type 1} → statement M
verdict_refusal_spec =
    tie.close
    (tie.spec
    (λ c κs. search rules)
    returns
    (λ c. search rules)
    (λ c κs. search rules)
    returns-2
    returns-3)
