-- Each way out is a case of the hop step.
use native.Mathlib.Omega.{arith}
use mathlib.Core.Path.{◌∙◌, sym, ap}
use mathlib.Core.Bool.{not, beq, ◌&&◌}
use borrow.Author.Rules.{rules}
use Rattle.route_rules.proofs.Preference.{prefers-same}
use Rattle.net_prefer.proofs.Step.{step-decided, step-open}
use Rattle.net_prefer.proofs.prefers.Statement.{statement}
use Rattle.net_prefer.proofs.prefers.Tie as tie

returns-2 : tie.Need-returns-then-step_decides
returns-2 c I w o h =
    let a = c.args in
    let tested = c.step_decides.ensures in
    sym (step-decided I w _ _ a.e.direct a.f.direct
    (ap (λ s. s && not (beq a.e.direct a.f.direct)) (sym h) ∙ sym tested ∙ c.if-step_decides.true) (λ q. omega arith))

returns-3 : tie.Need-returns
returns-3 c I w o h =
    let a = c.args in
    let tested = c.step_decides.ensures in
    c.nearer.ensures I w o
    ∙ sym (step-open I w _ _ a.e.direct a.f.direct
    (ap (λ s. s && not (beq a.e.direct a.f.direct)) (sym h) ∙ sym tested ∙ c.if-step_decides.false))

pub prefers_spec : {M : Type 1} → statement M
prefers_spec =
    tie.close
    (tie.spec
    (λ c I w o h. sym (prefers-same I w _ _ _ _ c.if-e-f.true))
    (λ c κs. search rules)
    returns-2
    (λ c κs. search rules)
    returns-3)
