use mathlib.Core.Path.{◌≡◌, ◌∙◌, sym}
use borrow.Author.Rules.{rules}
use Rattle.call_rules.specs.Refusals.{egress_list_refusal}
use Rattle.call_rules.proofs.Granted.{list-asked}
use Rattle.call_query.proofs.ListPart.{placed-refused, placed-given}
use Rattle.call_query.proofs.lists.egress_list.Statement.{statement}
use Rattle.call_query.proofs.lists.egress_list.Tie as tie

-- nothing is refused
given : (c : tie.Else-list_refusal-ne0) → let a = c.args in egress_list_refusal a.plan.now a.list ≡ 0
given c = sym (c.list_refusal.ensures _ c.check-checked.ensures) ∙ c.if-list_refusal-ne0.false

returns : tie.Need-returns-then-list_refusal-ne0
returns c =
    let d = c in
    let e = d.list_refusal.ensures _ d.check-checked.ensures in
    let s = placed-refused _ _ (λ h. c.if-list_refusal-ne0.true (e ∙ h)) in
    record { bytes = rw (s.starts, s.sizes); address = rw s.starts }

returns-2 : tie.Need-returns
returns-2 c =
    let s = placed-given _ _ (given c.before) in
    let part = c.list_numbers.ensures in
    record { bytes = rw (s.starts, s.sizes) part.bytes; address = rw s.starts part.address }

pub egress_list_spec : {M : Type 1} → statement M
egress_list_spec =
    tie.close
    (tie.spec
    (λ c κs. search rules)
    (λ c κs. search rules)
    (λ c. search rules)
    (λ c. search rules)
    (λ c. search rules)
    returns
    (λ c κs. let q = list-asked _ _ (given c) in (c.check-checked.ensures.accepted q.plan_ok, q.list))
    returns-2)
