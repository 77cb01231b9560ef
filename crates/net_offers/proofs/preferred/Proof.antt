-- What the hop step does not put behind is preferred if it is nearer.
use mathlib.Core.Path.{◌∙◌, sym}
use borrow.Author.Rules.{rules}
use Rattle.net_rules.specs.Decoded.{decoded}
use Rattle.net_offers.proofs.OnOffer.{not-preferred, preferred-nearer}
use Rattle.net_offers.proofs.preferred.Statement.{statement}
use Rattle.net_offers.proofs.preferred.Tie as tie

returns : tie.Need-returns-then-behind
returns c rows distances e f h =
    let b = c in
    let a = b.args in
    sym (not-preferred (decoded a.net rows distances) _ _ e f (sym (b.behind.ensures rows distances) ∙ c.if-behind.true))

returns-2 : tie.Need-returns
returns-2 c rows distances e f h =
    let b = c in
    let a = b.args in
    h ∙ sym (preferred-nearer (decoded a.net rows distances) _ _ e f (sym (b.behind.ensures rows distances) ∙ c.if-behind.false))

pub preferred_spec : {M : Type 1} → statement M
preferred_spec = tie.close (tie.spec (λ c κs. search rules) returns returns-2)
