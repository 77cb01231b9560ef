-- Each way is a case of rule 3.
use native.Mathlib.Omega.{arith}
use mathlib.Core.Path.{◌≡◌, ◌∙◌, sym, ap, ap₂}
use borrow.Author.Rules.{rules}
use lib.Dec.{eqb}
use Rattle.base.proofs.Numbers.{granted, denied}
use Rattle.route_rules.specs.Instance.{Instance, is_router}
use Rattle.net_rules.specs.Decoded.{decoded}
use Rattle.route_rules.specs.Reliance.{offer, better_offer}
use Rattle.net_rules.specs.RouterBytes.{as_router}
use Rattle.net_rules.proofs.RouterBytes.{router-is}
use Rattle.route_rules.proofs.Reliance.{best_client-below, offer-below, relies-own, offer-stranger, offer-neighbour}
use Rattle.route_explain_rules.specs.Reasons.{is_yes}
use Rattle.route_explain_rules.proofs.Reasons.{own-way-to, by-offer-says}
use Rattle.net_reliance.proofs.reflector_relies.Statement.{statement}
use Rattle.net_reliance.proofs.reflector_relies.Tie as tie

abbrev instance : tie.Start → Instance
instance c = decoded c.args.net c.args.rows.now c.args.distances.now

returns : tie.Need-returns-then-not-has_bit
returns c =
    let e = c in
    let d = e.before.before.before in
    let a = d.args in
    ap (λ x. eqb x a.v) c.wide.ensures.0
    ∙ sym (relies-own (instance d.before) _ _ d.requires.3.unlisted d.requires.3.reflector (denied _ e.has_bit.ensures e.if-not-has_bit.true)
    ∙ ap (is_router a.v) (sym d.requires.3.client)
    ∙ router-is _ _ (omega arith))

returns-2 : tie.Need-returns-then-not-has_bit-2
returns-2 c =
    let e = c in
    let d = e.before.before.before in
    sym (offer-stranger (instance d.before.before.before.before) _ _ d.requires.3.unlisted d.requires.3.reflector (granted _ e.has_bit.ensures e.if-not-has_bit.false) (denied _ c.has_bit-2.ensures c.if-not-has_bit-2.true))

-- v's offer, from its best client
offer-is : (c : tie.After-offered-offer)
    → let d = c.before.before.before.before.before.before.before in as_router c.offered-offer.result ≡ offer (instance d.before) d.args.v
offer-is c =
    let e = c in
    let d = e in
    c.offered-offer.ensures d.args.rows.now d.args.distances.now (d.requires.4 (granted _ e.has_bit.ensures e.if-not-has_bit.false))

by-offer-requires : tie.Need-by_offer-requires
by-offer-requires c κs =
    let d = c.before.before.before.before.before.before.before in
    let p = d.requires in (
      p.0.count,
      p.1,
      p.2,
      p.0.pairs,
      rw (offer-is c) (offer-below (instance d.before) _ p.2),
      rw p.3.client (best_client-below (instance d.before) _),
    )

returns-3 : tie.Need-returns
returns-3 c =
    let said = c.before in
    let g = said in
    let e = g in
    let d = e.before.before.before in
    c.says_yes.ensures
    ∙ ap is_yes (said.by_offer.ensures d.args.rows.now (rw d.requires.3.client (own-way-to (instance d.before.before.before.before.before.before) _)))
    ∙ by-offer-says (instance d.before.before.before.before.before.before) _ _ _ _
    ∙ ap₂ (better_offer (instance d.before.before.before.before.before.before) d.args.w ((instance d.before.before.before.before.before.before).listed d.args.v)) (offer-is said.before) d.requires.3.client
    ∙ sym (offer-neighbour (instance d.before.before.before.before.before.before) _ _ d.requires.3.unlisted d.requires.3.reflector (granted _ e.has_bit.ensures e.if-not-has_bit.false) (granted _ g.has_bit-2.ensures g.if-not-has_bit-2.false))

pub reflector_relies_spec : {M : Type 1} → statement M
reflector_relies_spec =
    tie.close
    (tie.spec
    (λ c κs. search rules)
    (λ c κs. search rules)
    returns
    (λ c. search rules)
    (λ c. search rules)
    (λ c κs. search rules)
    returns-2
    (λ c κs. search rules)
    by-offer-requires
    (λ c κs. search rules)
    returns-3)
