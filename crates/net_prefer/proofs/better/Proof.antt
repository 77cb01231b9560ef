-- Each way out is a case of the comparison.
use mathlib.Core.Path.{◌∙◌, sym}
use borrow.Author.Rules.{rules}
use Rattle.base.proofs.Numbers.{granted, denied}
use Rattle.route_rules.proofs.Preference.{better-both-ways, better-one-way, better-without}
use Rattle.net_prefer.proofs.Measured.{distances-ordered}
use Rattle.net_prefer.proofs.better.Statement.{statement}
use Rattle.net_prefer.proofs.better.Tie as tie

returns : tie.Need-returns-then-not-is_way
returns c I w p q h = sym (better-without I _ _ _ _ _ (p.way ∙ denied _ c.is_way.ensures c.if-not-is_way.true))

returns-2 : tie.Need-returns-then-not-is_way-2
returns-2 c I w p q h =
    let d = c in
    sym (better-one-way I _ _ _ _ _ (p.way ∙ granted _ d.is_way.ensures d.if-not-is_way.false)
    (q.way ∙ denied _ c.is_way-2.ensures c.if-not-is_way-2.true))

returns-3 : tie.Need-returns
returns-3 c I w p q h =
    let e = c in
    let d = e in
    c.prefers.ensures I w (distances-ordered p.dist q.dist) h
    ∙ sym (better-both-ways I _ _ _ _ _ (p.way ∙ granted _ d.is_way.ensures d.if-not-is_way.false)
    (q.way ∙ granted _ e.is_way-2.ensures e.if-not-is_way-2.false))

pub better_spec : {M : Type 1} → statement M
better_spec =
    tie.close
    (tie.spec (λ c κs. search rules) returns (λ c κs. search rules) returns-2 (λ c κs. search rules) returns-3)
