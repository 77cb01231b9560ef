-- Each way out is a case of the definition.
use Prim.Native.Nat.{ℕ, ◌<◌}
use native.Mathlib.Omega.{arith}
use mathlib.Core.Path.{◌≡◌, refl, ◌∙◌, sym, ap}
use mathlib.Core.List.{List}
use mathlib.Core.Option.{Option, some}
use borrow.Author.Rules.{rules}
use Rattle.route_rules.specs.Instance.{Instance}
use Rattle.net_rules.specs.Decoded.{decoded}
use Rattle.net_rules.specs.RouterBytes.{as_router}
use Rattle.net_rules.proofs.RouterBytes.{router-none, router-some, router-below}
use Rattle.net_prefer.specs.Measured.{Measured}
use Rattle.net_prefer.proofs.Measured.{some-way, no_way}
use Rattle.route_explain_rules.specs.Explained.{by_offer}
use Rattle.route_explain_rules.specs.declared.explanation.Explanation.{Explanation}
use Rattle.net_offers.proofs.OnOffer.{offer-none, offer-no-way, offer-way}
use Rattle.net_offers.proofs.by_offer.Statement.{statement}
use Rattle.net_offers.proofs.by_offer.Tie as tie

-- the network, with any rows
abbrev network : tie.Start → List ℕ → Instance
network c rows = decoded c.args.net rows c.args.distances.now

-- it has these distances
measured : (c : tie.Start) (rows : List ℕ) → Measured (network c rows) c.args.net.width c.args.distances.now c.args.net.n
measured c rows = record { dist = refl; way = refl }

-- rule 3 on any offer
abbrev decides : tie.Start → List ℕ → Option ℕ → Explanation
decides c rows offer = let I = network c rows in by_offer I c.args.w (I.listed c.args.v) offer (as_router c.args.own)

returns : tie.Need-returns-then-offer-eq-NO_ROUTER
returns c rows own =
    let d = c.before.before in
    sym (ap (decides d rows) (router-none _ c.if-offer-eq-NO_ROUTER.true) ∙ offer-none (network d rows) _ _ _)

-- an offer exists
module _ (c : tie.After-wide-egress) where
  abbrev start : tie.Start
  start = c.before.before.before

  offered : as_router start.args.offer ≡ some c.wide-egress.result
  offered = router-some _ c.if-offer-eq-NO_ROUTER.false ∙ ap some (sym c.wide-egress.ensures.0)

  below : c.wide-egress.result < start.args.net.n
  below = omega (arith, c.wide-egress.ensures.0, router-below _ start.args.offer c.if-offer-eq-NO_ROUTER.false start.requires.4)

has-way-requires : tie.Need-has_way-requires
has-way-requires c κs = let p = (start c).requires in (p.1, below c, p.3)

returns-2 : tie.Need-returns-then-not-has_way
returns-2 c rows own =
    let f = c.before.before in
    let d = start f in
    sym (ap (decides d rows) (offered f)
    ∙ offer-no-way (network d rows) _ _ _ _ (no_way (measured d rows) _ _ _ c.has_way.ensures c.if-not-has_way.true))

against-own-requires : tie.Need-against_own-requires
against-own-requires c κs = let f = c.before.before in let p = (start f).requires in (p.0, p.1, p.2, p.3, below f, p.5)

returns-3 : tie.Need-returns
returns-3 c rows own =
    let e = c in
    let f = e.before.before in
    let d = start f.before in
    -- .. to which w has a way
    let way = some-way (measured d rows) _ _ _ e.has_way.ensures e.if-not-has_way.false in
    c.against_own.ensures rows way own ∙ sym (ap (decides d rows) (offered f.before) ∙ offer-way (network d rows) _ _ _ _ way)

pub by_offer_spec : {M : Type 1} → statement M
by_offer_spec =
    tie.close
    (tie.spec returns (λ c κs. search rules) has-way-requires returns-2 against-own-requires returns-3)
