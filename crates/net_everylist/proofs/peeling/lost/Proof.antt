-- `net_everylist::peeling::lost`: a client leads to one of the rows exactly if its key is above the least foreign one.
use native.Mathlib.Omega.{arith}
use mathlib.Core.Path.{◌≡◌, refl, ◌∙◌, sym, ap}
use mathlib.Core.Bool.{Bool, true, false, not, ◌&&◌}
use borrow.Author.Rules.{rules}
use borrow.Author.Tests.{eq-eqb}
use Rattle.base.proofs.SetBits.{bit-none}
use Rattle.net_rules.specs.Decoded.{decoded}
use Rattle.net_everylist.specs.Peeling.{pair_in, leads_among}
use Rattle.net_everylist.proofs.Leading.{row-lost}
use Rattle.net_everylist.proofs.Rows.{measured}
use Rattle.net_everylist.proofs.Words.{is_in}
use Rattle.net_everylist.proofs.peeling.lost.Statement.{statement}
use Rattle.net_everylist.proofs.peeling.lost.Tie as tie

returns : tie.Need-returns-then-row-eq0
returns c e =
    let a = c.args in
    let I = decoded a.net a.rows.now a.distances.now in
    bit-none e ∙ sym (ap (λ b. b && not (leads_among I (pair_in a.left.now) a.w e)) (ap (λ x. is_in x e) c.if-row-eq0.true ∙ bit-none e))

returns-2 : tie.Need-returns
returns-2 c e =
    let k = c in
    let s = c in
    let d = c in
    let a = d.args in
    c.upto_key.ensures e
    ∙ row-lost (decoded a.net a.rows.now a.distances.now) a.left.now d.requires.2 d.requires.0.count a.net.width a.distances.now
    (measured a.net a.rows.now a.distances.now) d.requires.0.pairs.bytes (λ i. omega (arith, s.shared_slice_known-1.given i)) a.w _
    k.foreign_key-nearest.ensures e

pub lost_spec : {M : Type 1} → statement M
lost_spec =
    tie.close
    (tie.spec
    (λ c. search rules)
    (λ c. search rules)
    returns
    (λ c κs. search rules)
    (λ c κs.
    let d = c in
    let p = d.requires in
    (p.1, p.0.count, p.0.pairs, λ e h. (p.2.pairs d.args.w e (eq-eqb _ 1 h)).1))
    returns-2)
