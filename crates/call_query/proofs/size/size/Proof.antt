use mathlib.Core.Path.{◌≡◌, refl, ◌∙◌, sym}
use borrow.Author.Rules.{rules}
use Rattle.plan_rules.specs.Refusal.{plan_refusal}
use Rattle.call_query.proofs.Sizing.{sizes-refused, sizes-given}
use Rattle.call_query.proofs.size.size.Statement.{statement}
use Rattle.call_query.proofs.size.size.Tie as tie

-- nothing is refused
given : (c : tie.Else-checked-ne0) → plan_refusal c.args.plan.now ≡ 0
given c = sym c.check-checked.ensures.number ∙ c.if-checked-ne0.false

returns-2 : tie.Need-returns
returns-2 c =
    let d = c.before.before in
    let a = d.check-checked.ensures.accepted (given d) in
    sizes-given _ _ (sym a.ok) refl a.routers a.lists

pub size_spec : {M : Type 1} → statement M
size_spec =
    tie.close
    (tie.spec
    (λ c κs. search rules)
    (λ c. sizes-refused _ _ c.check-checked.ensures.number c.if-checked-ne0.true refl refl)
    (λ c. search rules)
    (λ c. search rules)
    returns-2)
