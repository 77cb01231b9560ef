use native.Mathlib.Omega.{arith}
use mathlib.Core.Path.{◌≡◌, ◌∙◌, sym, ap}
use borrow.Author.Rules.{rules}
use borrow.Author.Tests.{eqb-false, eq-eqb}
use Rattle.base.specs.Bits.{bit_n}
use Rattle.route_rules.proofs.Routes.{advertises-listed, advertises-reflector}
use Rattle.net_rules.specs.Decoded.{decoded}
use Rattle.net_activate.specs.OnePass.{numbers_of, told_key}
use Rattle.net_activate.proofs.OnePass.{told-egress}
use Rattle.net_activate.proofs.activations.advertised.Statement.{statement}
use Rattle.net_activate.proofs.activations.advertised.Tie as tie

returns : tie.Need-returns-then-has_bit
returns c rows =
    let e = c in
    let a = e.args in
    let I = decoded a.net rows a.distances.now in
    c.route_key.ensures
    ∙ sym (ap (told_key (numbers_of a.net a.distances.now a.w) a.v) (advertises-listed I _ _ _ (sym c.has_bit.ensures ∙ c.if-has_bit.true)) ∙ told-egress _ _ _)

returns-2 : tie.Need-returns
returns-2 c rows =
    let e = c in
    let d = e in
    let a = d.args in
    let I = decoded a.net rows a.distances.now in
    let unlisted = sym e.has_bit.ensures ∙ e.if-has_bit.false in
    let reflector : bit_n a.net.reflectors a.v ≡ 1 = omega (arith, d.requires.5, eqb-false (bit_n a.net.listed a.v) 1 unlisted) in
    c.reflected.ensures rows ∙ sym (ap (told_key (numbers_of a.net a.distances.now a.w) a.v) (advertises-reflector I _ _ _ unlisted (eq-eqb _ 1 reflector)))

pub advertised_spec : {M : Type 1} → statement M
advertised_spec =
    tie.close (tie.spec (λ c κs. search rules) (λ c κs. search rules) returns (λ c κs. search rules) returns-2)
