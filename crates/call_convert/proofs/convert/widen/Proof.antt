use native.Mathlib.Omega.{arith}
use mathlib.Core.Path.{refl}
use mathlib.Core.Logic.{inr}
use borrow.Author.Rules.{rules}
use Rattle.plan_rules.specs.Converted.{widen_refusal}
use Rattle.call_convert.proofs.Returned.{converts-not, converts-as, refused-before, rest-decides}
use Rattle.call_convert.proofs.convert.widen.Statement.{statement}
use Rattle.call_convert.proofs.convert.widen.Tie as tie

returns : tie.Need-returns-then-checked-ne0
unfolding widen_refusal
returns c =
    let t = c in
    converts-not (refused-before t.check_marked-checked.ensures t.if-checked-ne0.true _) (omega (arith, t.if-checked-ne0.true)) c.refused_conversion.ensures

returns-2 : tie.Need-returns
unfolding widen_refusal
returns-2 c =
    let w = c.before.before in
    let t = w in
    converts-as (rest-decides t.check_marked-checked.ensures t.if-checked-ne0.false _) w.into_buffer.ensures

pub widen_spec : {M : Type 1} → statement M
widen_spec =
    tie.close
    (tie.spec
    (λ c κs. search rules)
    (λ c κs. search rules)
    returns
    (λ c κs. let t = c in (t.check_marked-checked.ensures.accepted t.if-checked-ne0.false, inr refl))
    (λ c. search rules)
    returns-2)
