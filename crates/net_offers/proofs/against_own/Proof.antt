-- Each way out is a case of the definition.
use Prim.Native.Nat.{ℕ}
use native.Mathlib.Omega.{arith}
use mathlib.Core.Path.{◌≡◌, refl, ◌∙◌, sym, ap, ap₂, subst}
use mathlib.Core.Bool.{Bool, true, false}
use mathlib.Core.List.{List}
use mathlib.Core.Option.{some}
use lib.IntN.{pos, ◌-ℤ◌}
use borrow.Author.Rules.{rules}
use mir.Syntax.{w64}
use mir.ValLaws.{to_z-of_z}
use Rattle.base.proofs.Numbers.{granted, denied}
use Rattle.route_rules.specs.Instance.{Instance}
use Rattle.route_rules.specs.Preference.{prefers}
use Rattle.net_rules.specs.Decoded.{decoded}
use Rattle.net_rules.specs.RouterBytes.{as_router}
use Rattle.net_rules.proofs.RouterBytes.{router-none, router-some, router-below}
use Rattle.net_prefer.specs.Measured.{Measured}
use Rattle.net_prefer.proofs.Measured.{number-as, numbers-ordered}
use Rattle.route_explain_rules.specs.Explained.{WayTo, against_own}
use Rattle.route_explain_rules.specs.declared.explanation.Explanation.TheVariants.{Yes, No}
use Rattle.route_explain_rules.specs.declared.explanation.Rule.TheVariants.{BetterOffer}
use Rattle.route_explain_rules.specs.declared.explanation.Reason.TheVariants.{OfferNotBetter}
use Rattle.net_offers.proofs.OnOffer.{against-none, against-preferred, against-other, margin-held}
use Rattle.net_offers.proofs.against_own.Statement.{statement}
use Rattle.net_offers.proofs.against_own.Tie as tie

-- the network, with any rows
abbrev network : tie.Start → List ℕ → Instance
network c rows = decoded c.args.net rows c.args.distances.now

-- it has these distances
measured : (c : tie.Start) (rows : List ℕ) → Measured (network c rows) c.args.net.width c.args.distances.now c.args.net.n
measured c rows = record { dist = refl; way = refl }

returns : tie.Need-returns-then-own-eq-NO_ROUTER
returns c rows there own =
    let d = c.before.before in
    let I = network d rows in
    let a = d.args in
    sym (ap (against_own I a.w (I.listed a.v) a.offer) (router-none _ c.if-own-eq-NO_ROUTER.true) ∙ against-none I _ _ _)

-- there is an own best client
module _ (c : tie.After-wide-client) where
  abbrev start : tie.Start
  start = c.before.before.before

  client : as_router start.args.own ≡ some c.wide-client.result
  client = router-some _ c.if-own-eq-NO_ROUTER.false ∙ ap some (sym c.wide-client.ensures.0)

number-requires-2 : tie.Need-number-to_client-requires
number-requires-2 c κs =
    let d = c.before in
    let p = (start d).requires in
    (p.1, omega (arith, d.wide-client.ensures.0, router-below _ (start d).args.own d.if-own-eq-NO_ROUTER.false p.5), p.3)

-- the two distances are read, and compared
module _ (c : tie.After-preferred) (rows : List ℕ) where
  abbrev found : tie.After-wide-client
  found = c.before.before.before.before

  abbrev begun : tie.Start
  begun = start found

  abbrev I : Instance
  I = network begun rows

  -- whether v's offer is told by its own egress
  abbrev told : Bool
  told = I.listed begun.args.v

  preferred-is : c.preferred.result ≡ prefers I begun.args.w begun.args.offer told found.wide-client.result true
  preferred-is =
      let n = c in
      let first = n.number-to_offer.ensures in
      let second = n.number-to_client.ensures in
      c.preferred.ensures rows begun.args.distances.now _ _
      (n.nearer-near.ensures I _ (numbers-ordered (measured begun rows) begun.requires.3.bytes _ _ _ _ _ first.0 first.1 second.0 second.1))

  to-offer : I.way begun.args.w begun.args.offer ≡ true → I.dist begun.args.w begun.args.offer ≡ c.number-to_offer.result
  to-offer = let read = c.number-to_offer.ensures in number-as (measured begun rows) begun.requires.3.bytes _ _ _ read.0 read.1

  to-client : I.way begun.args.w found.wide-client.result ≡ true → I.dist begun.args.w found.wide-client.result ≡ c.number-to_client.result
  to-client = let read = c.number-to_client.ensures in number-as (measured begun rows) begun.requires.3.bytes _ _ _ read.0 read.1

  way-to-client : WayTo I begun.args.w (as_router begun.args.own) → I.way begun.args.w found.wide-client.result ≡ true
  way-to-client own = subst (WayTo I begun.args.w) (client found) own

  -- where it is not preferred
  other : prefers I begun.args.w begun.args.offer told found.wide-client.result true ≡ false
      → No OfferNotBetter ≡ against_own I begun.args.w told begun.args.offer (as_router begun.args.own)
  other h = sym (ap (against_own I begun.args.w told begun.args.offer) (client found) ∙ against-other I _ told _ _ h)

returns-2 : tie.Need-returns-then-not-preferred
returns-2 c rows there own = let e = c.before in other e rows (denied _ (preferred-is e rows) c.if-not-preferred.true)

returns-3 : tie.Need-returns
returns-3 c rows there own =
    let e = c.before.before in
    let f = found e rows in
    let a = (begun e rows).args in
    let J = I e rows in
    let client-way = way-to-client e rows own in
    ap (λ m. Yes (BetterOffer a.offer f.wide-client.result m))
    (to_z-of_z w64 _ (search rules) ∙ c.difference.ensures
    ∙ sym (ap₂ (λ x y. pos x -ℤ pos y) (to-offer e rows there) (to-client e rows client-way))
    ∙ sym (margin-held J _ _ _ there client-way))
    ∙ sym (ap (against_own J a.w (told e rows) a.offer) (client f)
    ∙ against-preferred J _ (told e rows) _ _ (granted _ (preferred-is e rows) c.if-not-preferred.false))

pub against_own_spec : {M : Type 1} → statement M
against_own_spec =
    tie.close
    (tie.spec
    returns
    (λ c κs. search rules)
    (λ c κs. search rules)
    number-requires-2
    (λ c κs. search rules)
    (λ c κs. search rules)
    returns-2
    (λ c κs. search rules)
    returns-3)
