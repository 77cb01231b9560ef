use Prim.Native.Nat.{ℕ}
use mathlib.Core.Path.{◌≡◌, ◌∙◌, sym}
use mathlib.Core.Bool.{true, false}
use mathlib.Core.List.{List}
use borrow.Author.Rules.{rules}
use Rattle.base.proofs.Numbers.{granted, denied}
use Rattle.plan_contents.specs.Header.{router_count}
use Rattle.plan_rules.specs.Refusal.{refuse}
use Rattle.plan_read.specs.Checked.{Checked}
use Rattle.call_rules.specs.Refusals.{has_list, sequence_ok, egress_list_refusal}
use Rattle.call_rules.proofs.Granted.{more-refused, more-passed, list-asked}
use Rattle.call_refuse.proofs.numbers.sequence_refusal.Statement.{statement}
use Rattle.call_refuse.proofs.numbers.sequence_refusal.Tie as tie

abbrev entry : tie.Else-refused-ne0 → tie.Start
entry c = c.before.before.before

-- the plan and the list pass
given : (c : tie.Else-refused-ne0) (plan : List ℕ) → let a = (entry c).args in Checked plan a.checked → egress_list_refusal plan a.list ≡ 0
given c plan read = sym (c.list_refusal-refused.ensures plan read) ∙ c.if-refused-ne0.false

-- the sequence is judged by the plan's n
judged : (c : tie.After-sequence_ok) (plan : List ℕ) → let a = (entry c.before.before).args in
    Checked plan a.checked → c.sequence_ok.result ≡ sequence_ok a.sequence.now (router_count plan)
judged c plan read =
    rw (← (read.accepted (list-asked _ _ (given c.before.before plan read)).plan_ok).routers) c.sequence_ok.ensures

returns : tie.Need-returns-then-refused-ne0
unfolding egress_list_refusal
returns c plan read = more-refused plan (has_list plan c.args.list) _ _ (c.list_refusal-refused.ensures plan read) c.if-refused-ne0.true

returns-2 : tie.Need-returns-then-not-sequence_ok
unfolding egress_list_refusal refuse
returns-2 c plan read =
    let d = c.before.before.before in
    more-passed plan (has_list plan (entry d).args.list) false (denied _ (judged c.before plan read) c.if-not-sequence_ok.true) (given d plan read)

returns-3 : tie.Need-returns
unfolding egress_list_refusal refuse
returns-3 c plan read =
    let d = c.before.before.before in
    more-passed plan (has_list plan (entry d).args.list) true (granted _ (judged c.before plan read) c.if-not-sequence_ok.false) (given d plan read)

pub sequence_refusal_spec : {M : Type 1} → statement M
sequence_refusal_spec =
    tie.close
    (tie.spec
    (λ c κs. search rules)
    returns
    (λ c. search rules)
    (λ c κs. search rules)
    returns-2
    returns-3)
