use native.Mathlib.Omega.{arith}
use mathlib.Core.Path.{◌∙◌, sym}
use borrow.Author.Rules.{rules}
use Rattle.net_rules.specs.Decoded.{decoded}
use Rattle.net_rules.proofs.RouterBytes.{router-some}
use Rattle.route_rules.proofs.Reliance.{offer-listed, offer-unlisted}
use Rattle.net_offers.proofs.offered.Statement.{statement}
use Rattle.net_offers.proofs.offered.Tie as tie

returns : tie.Need-returns-then-has_bit
returns c rows distances own =
    let a = c.args in
    router-some _ (omega arith) ∙ sym (offer-listed (decoded a.net rows distances) _ (sym c.has_bit.ensures ∙ c.if-has_bit.true))

returns-2 : tie.Need-returns
returns-2 c rows distances own =
    let a = c.args in
    own ∙ sym (offer-unlisted (decoded a.net rows distances) _ (sym c.has_bit.ensures ∙ c.if-has_bit.false))

pub offered_spec : {M : Type 1} → statement M
offered_spec = tie.close (tie.spec (λ c. search rules) (λ c κs. search rules) returns returns-2)
