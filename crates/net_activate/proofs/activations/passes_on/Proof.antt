use mathlib.Core.Path.{◌∙◌, sym}
use borrow.Author.Rules.{rules}
use Rattle.net_rules.specs.Decoded.{decoded}
use Rattle.net_activate.proofs.OnePass.{reflects-reflectors, reflects-upwards, reflects-clients}
use Rattle.net_activate.proofs.activations.passes_on.Statement.{statement}
use Rattle.net_activate.proofs.activations.passes_on.Tie as tie

returns : tie.Need-returns-then-has_bit
returns c rows distances e =
    let I = decoded c.args.net rows distances in
    reflects-reflectors I _ e _ _ _ (sym c.has_bit.ensures ∙ c.if-has_bit.true) c.has_bit-then-has_bit.ensures

returns-2 : tie.Need-returns-then-has_bit-2
returns-2 c rows distances e =
    let g = c in
    let I = decoded g.args.net rows distances in
    reflects-upwards I _ e _ _ _ (sym g.has_bit.ensures ∙ g.if-has_bit.false)
    (sym c.has_bit-2.ensures ∙ c.if-has_bit-2.true) c.has_bit-then-has_bit-2.ensures

returns-3 : tie.Need-returns
returns-3 c rows distances e =
    let g = c in
    let I = decoded g.args.net rows distances in
    reflects-clients I _ e _ _ (sym g.has_bit.ensures ∙ g.if-has_bit.false) (sym c.has_bit-2.ensures ∙ c.if-has_bit-2.false)

pub passes_on_spec : {M : Type 1} → statement M
passes_on_spec =
    tie.close
    (tie.spec
    (λ c κs. search rules)
    (λ c κs. search rules)
    returns
    (λ c κs. search rules)
    (λ c κs. search rules)
    returns-2
    returns-3)
