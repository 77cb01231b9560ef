use native.Mathlib.Omega.{arith}
use mathlib.Core.Path.{refl, ◌∙◌}
use mathlib.Core.Logic.{inl}
use borrow.Author.Rules.{rules}
use lib.Dec.{lit<}
use Rattle.base.proofs.Numbers.{granted, denied}
use Rattle.plan_rules.specs.Refusal.{refuse}
use Rattle.plan_rules.specs.Converted.{narrow_refusal}
use Rattle.plan_rules.proofs.Cascade.{refuse-true}
use Rattle.call_convert.proofs.Returned.{converts-not, converts-as, refused-before, rest-decides}
use Rattle.call_convert.proofs.convert.narrow.Statement.{statement}
use Rattle.call_convert.proofs.convert.narrow.Tie as tie

returns : tie.Need-returns-then-checked-ne0
unfolding narrow_refusal
returns c =
    let t = c in
    converts-not (refused-before t.check_marked-checked.ensures t.if-checked-ne0.true _) (omega (arith, t.if-checked-ne0.true)) c.refused_conversion.ensures

returns-2 : tie.Need-returns-then-not-distances_fit
unfolding narrow_refusal refuse
returns-2 c =
    let f = c.before.before in
    let t = f in
    converts-not (rest-decides t.check_marked-checked.ensures t.if-checked-ne0.false _ ∙ rw (denied _ f.distances_fit.ensures c.if-not-distances_fit.true))
    (lit< tt) c.refused_conversion-then-not-distances_fit.ensures

returns-3 : tie.Need-returns
unfolding narrow_refusal
returns-3 c =
    let w = c.before.before in
    let d = w.before.before in
    let t = d in
    converts-as
    (rest-decides t.check_marked-checked.ensures t.if-checked-ne0.false _ ∙ refuse-true _ 14 _ (granted _ d.distances_fit.ensures d.if-not-distances_fit.false))
    w.into_buffer.ensures

pub narrow_spec : {M : Type 1} → statement M
narrow_spec =
    tie.close
    (tie.spec
    (λ c κs. search rules)
    (λ c κs. search rules)
    returns
    (λ c κs. (c.check_marked-checked.ensures.accepted c.if-checked-ne0.false, inl refl))
    (λ c κs. search rules)
    returns-2
    (λ c κs. let t = c in (t.check_marked-checked.ensures.accepted t.if-checked-ne0.false, inl refl))
    (λ c. search rules)
    returns-3)
