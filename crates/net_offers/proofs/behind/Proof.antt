-- The two bits are the step and the list.
use mathlib.Core.Path.{◌≡◌, refl, ◌∙◌, sym, ap, ap₂}
use mathlib.Core.List.{List}
use mathlib.Core.Bool.{not, ◌&&◌}
use borrow.Author.Rules.{rules}
use Prim.Native.Nat.{ℕ}
use Rattle.base.proofs.SetBits.{set-and}
use Rattle.route_rules.specs.Preference.{has_step}
use Rattle.net_rules.specs.Decoded.{decoded}
use Rattle.net_offers.proofs.behind.Statement.{statement}
use Rattle.net_offers.proofs.behind.Tie as tie

-- the first test is the step
step : (c : tie.After-has_bit) (rows distances : List ℕ)
    → let a = c.args in c.has_bit.result ≡ has_step (decoded a.net rows distances) a.w
unfolding has_step
step c rows distances =
    let a = c.args in
    c.has_bit.ensures ∙ set-and a.net.reflectors a.net.hop a.w

returns : tie.Need-returns-then-has_bit
returns c rows distances =
    let tested = c.before.before in
    sym (ap₂ ◌&&◌ (sym (step tested rows distances) ∙ c.if-has_bit.true) (ap not (sym c.has_bit-then-has_bit.ensures)))

returns-2 : tie.Need-returns-else-has_bit
returns-2 c rows distances =
    c.if-has_bit.false ∙ sym (ap₂ ◌&&◌ (sym (step c.before rows distances) ∙ c.if-has_bit.false) refl)

pub behind_spec : {M : Type 1} → statement M
behind_spec = tie.close (tie.spec
    (λ c κs. search rules)
    (λ c κs. search rules)
    returns
    returns-2)
