use native.Mathlib.Omega.{arith}
use mathlib.Core.Path.{◌∙◌, sym}
use borrow.Author.Rules.{rules}
use Rattle.plan_parents.proofs.Counts.{few-all, few-small, few-none, few_past}
use Rattle.plan_parents.proofs.few.Statement.{statement}
use Rattle.plan_parents.proofs.few.Tie as tie

returns : tie.Need-returns-then-n
returns c s firsts counted = sym (few-small _ s _ _ _ c.requires.1 counted c.if-n.true)

returns-2 : tie.Need-returns-then-past
returns-2 c s firsts counted =
    c.few_before.ensures
    ∙ few_past _ s _ _ _ c.requires.1 counted firsts c.requires.0 c.if-past.true

returns-3 : tie.Need-returns-then-greatest-le-MOST
returns-3 c s firsts counted =
    let most = c.greatest.ensures in
    sym (few-none _ s _ _ _ c.requires.1 counted (omega (arith, c.if-greatest-le-MOST.true)))

returns-4 : tie.Need-returns
returns-4 c s firsts counted =
    c.few_before-2.ensures ∙ few-all _ s _ _ _ c.requires.1 counted

pub few_spec : {M : Type 1} → statement M
few_spec =
    tie.close
    (tie.spec
    (λ c. search rules)
    returns
    (λ c. search rules)
    (λ c κs. search rules)
    returns-2
    (λ c κs. search rules)
    returns-3
    (λ c κs. search rules)
    returns-4)
