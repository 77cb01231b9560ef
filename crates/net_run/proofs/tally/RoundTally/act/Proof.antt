-- Each way of the act is that of `tally_act`.
use mathlib.Core.Path.{◌∙◌, sym}
use borrow.Author.Rules.{rules}
use borrow.Author.Tests.{eq-eqb, ne_eqb}
use Rattle.route_rules.specs.Rounds.{tally_act}
use Rattle.net_run.proofs.tally.RoundTally.act.Statement.{statement}
use Rattle.net_run.proofs.tally.RoundTally.act.Tie as tie

returns : tie.Need-returns-then-has_bit
unfolding tally_act
returns c = rw (sym c.has_bit.ensures ∙ c.if-has_bit.true)

returns-2 : tie.Need-returns-then-self-eq1
unfolding tally_act
returns-2 c =
    let d = c in
    rw (sym d.has_bit.ensures ∙ d.if-has_bit.false, eq-eqb _ _ c.if-self-eq1.true)

returns-3 : tie.Need-returns
unfolding tally_act
returns-3 c =
    let d = c in
    rw (sym d.has_bit.ensures ∙ d.if-has_bit.false, ne_eqb _ _ c.if-self-eq1.false, c.with_bit.ensures)

pub act_spec : {M : Type 1} → statement M
act_spec =
    tie.close
    (tie.spec
    (λ c κs. search rules)
    returns
    (λ c. search rules)
    returns-2
    (λ c κs. search rules)
    (λ c. search rules)
    returns-3)
