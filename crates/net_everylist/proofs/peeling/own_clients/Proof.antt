use native.Mathlib.Omega.{arith}
use mathlib.Core.Path.{◌≡◌, refl, ◌∙◌, sym, ap}
use borrow.Author.Rules.{rules}
use Rattle.base.proofs.Numbers.{granted, denied}
use Rattle.base.proofs.SetBits.{bit-none}
use Rattle.net_everylist.proofs.Rows.{own-none, clients-below, own_is}
use Rattle.net_everylist.proofs.peeling.own_clients.Statement.{statement}
use Rattle.net_everylist.proofs.peeling.own_clients.Tie as tie

returns : tie.Need-returns-then-not-has_bit
returns c e =
    let b = c in
    let d = c in
    let a = d.args in
    bit-none e
    ∙ sym (own-none a.net a.rows.now a.distances.now d.requires.0 a.w _ b.without.ensures (denied _ b.has_bit.ensures c.if-not-has_bit.true) e)

upto-key-requires : tie.Need-upto_key-requires
upto-key-requires c κs =
    let t = c in
    let b = c in
    let d = c in
    let a = d.args in
    let p = d.requires in
    (p.1, p.0.count, p.0.pairs, clients-below a.net a.rows.now a.distances.now p.0 a.w _ b.without.ensures _ t.without-clients.ensures)

returns-2 : tie.Need-returns
returns-2 c e =
    let k = c in
    let t = c in
    let b = c in
    let s = c in
    let d = c in
    let a = d.args in
    c.upto_key.ensures e
    ∙ own_is a.net a.rows.now a.distances.now d.requires.0 a.w _ b.without.ensures _ t.without-clients.ensures
    (λ i. omega (arith, s.shared_slice_known-1.given i)) (granted _ b.has_bit.ensures t.if-not-has_bit.false) _ (omega (arith, k.no_key.ensures.0))
    (omega (arith, k.no_key.ensures)) e

pub own_clients_spec : {M : Type 1} → statement M
own_clients_spec =
    tie.close
    (tie.spec
    (λ c κs. search rules)
    (λ c κs. search rules)
    returns
    (λ c. search rules)
    (λ c. search rules)
    (λ c κs. search rules)
    (λ c κs. search rules)
    (λ c. omega (arith, c.no_key.ensures.1))
    upto-key-requires
    returns-2)
