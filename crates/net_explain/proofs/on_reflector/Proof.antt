-- Each way out is a case of the definition.
use mathlib.Core.Path.{◌≡◌, ◌∙◌, sym, ap₂}
use borrow.Author.Rules.{rules}
use Rattle.base.proofs.Numbers.{granted, denied}
use Rattle.route_rules.specs.Instance.{Instance}
use Rattle.route_rules.specs.Reliance.{offer}
use Rattle.net_rules.specs.RouterBytes.{as_router}
use Rattle.route_rules.proofs.Reliance.{best_client-below, offer-below}
use Rattle.net_rules.specs.Decoded.{decoded}
use Rattle.route_explain_rules.specs.Explained.{by_offer}
use Rattle.net_explain.proofs.Cases.{on-reflector-parent, on-reflector-offer}
use Rattle.route_explain_rules.proofs.Reasons.{own-way-to}
use Rattle.net_explain.proofs.on_reflector.Statement.{statement}
use Rattle.net_explain.proofs.on_reflector.Tie as tie

abbrev I : tie.Start → Instance
I c = decoded c.args.net c.args.rows.now c.args.distances.now

returns : tie.Need-returns-then-not-has_bit
returns c = sym (on-reflector-parent (I c.before.before.before) _ _ (denied _ c.has_bit.ensures c.if-not-has_bit.true))

module _ (c : tie.After-offered-offer) where
  abbrev left : tie.Else-not-has_bit
  left = c.before.before.before

  abbrev start : tie.Start
  start = left.before.before.before

  -- v's offer, from its best client
  offer-is : as_router c.offered-offer.result ≡ offer (I start) start.args.v
  offer-is = c.offered-offer.ensures start.args.rows.now start.args.distances.now c.best_client-other.ensures

by-offer-requires : tie.Need-by_offer-requires
by-offer-requires c κs =
    let p = (start c).requires in (
      p.0.count,
      p.1,
      p.2,
      p.0.pairs,
      rw (offer-is c) (offer-below (I (start c)) _ p.2),
      rw c.best_client-own.ensures (best_client-below (I (start c)) _),
    )

returns-2 : tie.Need-returns
returns-2 c =
    let d = c.before in
    let J = I (start d) in
    let a = (start d).args in
    let own = d.best_client-own.ensures in
    c.by_offer.ensures a.rows.now (rw own (own-way-to J _))
    ∙ ap₂ (by_offer J a.w (J.listed a.v)) (offer-is d) own
    ∙ sym (on-reflector-offer J _ _ (granted _ (left d).has_bit.ensures (left d).if-not-has_bit.false))

pub on_reflector_spec : {M : Type 1} → statement M
on_reflector_spec =
    tie.close
    (tie.spec
    (λ c κs. search rules)
    returns
    (λ c κs. search rules)
    (λ c κs. search rules)
    (λ c κs. search rules)
    by-offer-requires
    returns-2)
