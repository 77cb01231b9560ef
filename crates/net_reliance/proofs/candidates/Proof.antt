use native.Mathlib.Omega.{arith}
use mathlib.Core.Path.{◌∙◌, sym, ap, ap₂}
use mathlib.Core.Bool.{◌&&◌, ◌||◌, or-false}
use borrow.Author.Rules.{rules}
use lib.Bits.{bit_and}
use lib.Dec.{eqb}
use lib.ListN.{get_or}
use Rattle.base.specs.Bits.{bit_n}
use Rattle.base.proofs.SetBits.{set-and, bit-with}
use Rattle.route_rules.specs.Instance.{is_router}
use Rattle.net_rules.proofs.RouterBytes.{router-none, router-some, router-below}
use Rattle.net_reliance.proofs.candidates.Statement.{statement}
use Rattle.net_reliance.proofs.candidates.Tie as tie

returns : tie.Need-returns-then-own-eq-NO_ROUTER
returns c v =
    let a = c.args in
    let x = get_or a.rows.now a.w 0 in
    set-and x a.net.reflectors v
    ∙ sym (ap (λ o. (eqb (bit_n x v) 1 && eqb (bit_n a.net.reflectors v) 1) || is_router v o) (router-none _ c.if-own-eq-NO_ROUTER.true) ∙ or-false _)

returns-2 : tie.Need-returns
returns-2 c v =
    let e = c in
    let a = e.args in
    let x = get_or a.rows.now a.w 0 in
    ap (λ r. eqb (bit_n r v) 1) c.with_bit.ensures
    ∙ bit-with (bit_and x a.net.reflectors) c.wide.result v
    ∙ ap₂ (λ b k. b || eqb k v) (set-and x a.net.reflectors v) c.wide.ensures.0
    ∙ sym (ap (λ o. (eqb (bit_n x v) 1 && eqb (bit_n a.net.reflectors v) 1) || is_router v o) (router-some _ e.if-own-eq-NO_ROUTER.false))

with-bit-requires : tie.Need-with_bit-requires
with-bit-requires c κs =
    let e = c in
    let p = e.requires in
    omega (arith, c.wide.ensures.0, router-below _ _ e.if-own-eq-NO_ROUTER.false p.2, p.0)

pub candidates_spec : {M : Type 1} → statement M
candidates_spec =
    tie.close
    (tie.spec
    (λ c. search rules)
    (λ c. search rules)
    returns
    (λ c κs. search rules)
    with-bit-requires
    returns-2)
