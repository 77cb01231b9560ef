-- An explanation, case by case.
use Prim.Native.Nat.{ℕ, ◌<◌}
use native.Mathlib.Omega.{arith}
use mathlib.Core.Path.{◌≡◌, refl, ◌∙◌, sym, ap, subst}
use mathlib.Core.Bool.{Bool, true, false, and-false}
use mathlib.Core.Option.{Option, none, some, get_or}
use mathlib.Core.Logic.{◌⊎◌}
use lib.Dec.{eqb}
use lib.IntN.{ℤ, pos}
use lib.Signed.{◌<ℤ◌}
use borrow.Author.Tests.{eqb-true, ne_eqb}
use Rattle.route_rules.specs.Instance.{Instance, is_router}
use Rattle.route_rules.specs.Preference.{nearer, has_step, prefers, better, margin_of}
use Rattle.route_rules.specs.Reliance.{listed_client_of, best_client, offer, better_offer, relies, with_hop}
use Rattle.route_rules.proofs.Preference.{prefers-alike, prefers-passed, prefers-nearer, better-both-ways}
use Rattle.route_rules.proofs.Margins.{known, margins}
use Rattle.route_rules.proofs.Routes.{is_router-same, is_router-some}
use Rattle.route_rules.proofs.Reliance.{best_client-is, client-way, not-best-client, relies-listed, relies-client, relies-own, relies-other, client-on-stranger, offer-stranger, offer-neighbour, better-no-way, roles-best-client, roles-offer}
use Rattle.base.proofs.Best.{BestIs}
use Rattle.base.proofs.Numbers.{both_left, not-both}
use Rattle.route_explain_rules.specs.Explained.{WayTo, against_own, by_offer, on_reflector, on_client, explained}
use Rattle.route_explain_rules.specs.Values.{values_of}
use Rattle.route_explain_rules.specs.Reasons.{is_yes, reason_place, reasons, first_from, RuleOf, Explaining, StepExplained}
use Rattle.route_explain_rules.specs.declared.explanation.Explanation.{Explanation}
use Rattle.route_explain_rules.specs.declared.explanation.Explanation.TheVariants.{Refused, Yes, No}
use Rattle.route_explain_rules.specs.declared.explanation.Rule.TheVariants.{Parent, PeerClient, OwnBestClient, AnyOffer, BetterOffer}
use Rattle.route_explain_rules.specs.declared.explanation.Reason.TheVariants.{SameRouter, NotNeighbours, FirstListed, SecondUnlistedClient, NotTheBestClient, NoOffer, NoWayToTheOffer, OfferNotBetter}

-- no reason that is kept stands fifth
not-fifth : (x : Explanation) → reason_place x ≡ 5 → ⊥
not-fifth (Refused number) h = omega (arith, h)
not-fifth (Yes rule) h = omega (arith, h)
not-fifth (No SameRouter) h = omega (arith, h)
not-fifth (No NotNeighbours) h = omega (arith, h)
not-fifth (No FirstListed) h = omega (arith, h)
not-fifth (No SecondUnlistedClient) h = omega (arith, h)
not-fifth (No NotTheBestClient) h = omega (arith, h)
not-fifth (No NoOffer) h = omega (arith, h)
not-fifth (No NoWayToTheOffer) h = omega (arith, h)
not-fifth (No OfferNotBetter) h = omega (arith, h)

-- the values of an answer say yes exactly if the answer does
pub values-say : (x : Explanation) → (values_of x).relies ≡ is_yes x
values-say (Refused number) = refl
values-say (Yes Parent) = refl
values-say (Yes PeerClient) = refl
values-say (Yes OwnBestClient) = refl
values-say (Yes (AnyOffer e)) = refl
values-say (Yes (BetterOffer e c m)) = refl
values-say (No reason) = refl

-- rule 3 on an offer says yes exactly if the offer is better
pub by-offer-says : (I : Instance) (w : ℕ) (d : Bool) (o own : Option ℕ) → is_yes (by_offer I w d o own) ≡ better_offer I w d o own
unfolding by_offer against_own better_offer
by-offer-says I w d none own = refl
by-offer-says I w d (some e) none = go (I.way w e) refl
  where
    go : (a : Bool) → I.way w e ≡ a → is_yes (by_offer I w d (some e) none) ≡ better_offer I w d (some e) none
    go true p = cc
    go false p = cc
by-offer-says I w d (some e) (some c) = go (I.way w e) refl (prefers I w e d c true) refl
  where
    go : (a : Bool) → I.way w e ≡ a → (b : Bool) → prefers I w e d c true ≡ b
        → is_yes (by_offer I w d (some e) (some c)) ≡ better_offer I w d (some e) (some c)
    go true p true q = cc
    go true p false q = cc
    go false p b q = cc

-- w has a way to its best client, if it has one
pub own-way-to : (I : Instance) (w : ℕ) → WayTo I w (best_client I w)
own-way-to I w = go (best_client I w) (best_client-is I w)
  where
    go : (b : Option ℕ) → BestIs (nearer I w) (listed_client_of I w) I.n b → WayTo I w b
    go none h = tt
    go (some c) h = client-way I w c h.among

module _ (I : Instance) (w v : ℕ) where
  -- what is owed of an answer x
  record Owed (x : Explanation) : Type 0 where
    agrees : is_yes x ≡ relies I w v
    rule : RuleOf I w v x
    reason : reason_place x ≡ first_from 1 (reasons I w v)

  same-router : eqb w v ≡ true → Owed (No SameRouter)
  unfolding reasons first_from
  same-router h = record { agrees = sym (ap (relies I w) (sym (eqb-true w v h)) ∙ relies-other I w); rule = tt; reason = cc }

  module _ (other : eqb w v ≡ false) where
    not-neighbours : I.neighbour w v ≡ false → relies I w v ≡ false → Owed (No NotNeighbours)
    unfolding reasons first_from
    not-neighbours h r = record { agrees = sym r; rule = tt; reason = cc }

    module _ (near : I.neighbour w v ≡ true) where
      first-listed : I.listed w ≡ true → Owed (No FirstListed)
      unfolding reasons first_from
      first-listed h = record { agrees = sym (relies-listed I w v h); rule = tt; reason = cc }

      module _ (unlisted : I.listed w ≡ false) where
        -- w is a client
        parent : I.reflector w ≡ false → I.reflector v ≡ true → Owed (Yes Parent)
        unfolding reasons first_from
        parent h k = record { agrees = sym (relies-client I w v unlisted h ∙ cc); rule = (h, k); reason = cc }

        peer-client : I.reflector w ≡ false → I.reflector v ≡ false → I.listed v ≡ true → Owed (Yes PeerClient)
        unfolding reasons first_from
        peer-client h k l = record { agrees = sym (relies-client I w v unlisted h ∙ cc); rule = (h, k, l); reason = cc }

        -- v is an unlisted client
        unlisted-client : I.reflector v ≡ false → I.listed v ≡ false → relies I w v ≡ false → Owed (No SecondUnlistedClient)
        unfolding reasons first_from
        unlisted-client h k r = record { agrees = sym r; rule = tt; reason = cc }

        -- w is a reflector, v a listed client
        module _ (role : I.reflector w ≡ true) where
          own-best-client : I.reflector v ≡ false → I.listed v ≡ true → best_client I w ≡ some v → Owed (Yes OwnBestClient)
          unfolding reasons first_from
          own-best-client h k b =
              let is : is_router v (best_client I w) ≡ true = ap (is_router v) b ∙ is_router-some v in
              record { agrees = sym (relies-own I w v unlisted role h ∙ is); rule = (role, b); reason = cc }

          not-the-best : I.reflector v ≡ false → I.listed v ≡ true → is_router v (best_client I w) ≡ false → Owed (No NotTheBestClient)
          unfolding reasons first_from
          not-the-best h k is = record { agrees = sym (relies-own I w v unlisted role h ∙ is); rule = tt; reason = cc }

          -- .. v a reflector
          module _ (reflector : I.reflector v ≡ true) where
            no-offer : offer I v ≡ none → Owed (No NoOffer)
            unfolding reasons first_from better_offer
            no-offer o = record { agrees = sym (offer-neighbour I w v unlisted role reflector near ∙ cc); rule = tt; reason = cc }

            no_way : (e : ℕ) → offer I v ≡ some e → I.way w e ≡ false → Owed (No NoWayToTheOffer)
            unfolding reasons first_from
            no_way e o h =
                record {
                  agrees = sym (offer-neighbour I w v unlisted role reflector near ∙ ap (λ x. better_offer I w (I.listed v) x (best_client I w)) o ∙ better-no-way I w (I.listed v) e _ h);
                  rule = tt;
                  reason = cc;
                }

            only-offer : (e : ℕ) → offer I v ≡ some e → I.way w e ≡ true → best_client I w ≡ none → Owed (Yes (AnyOffer e))
            unfolding reasons first_from better_offer
            only-offer e o h b =
                record {
                  agrees = sym (offer-neighbour I w v unlisted role reflector near ∙ cc);
                  rule = (role, reflector, o, h, b);
                  reason = cc;
                }

            module _ (e c : ℕ) (o : offer I v ≡ some e) (h : I.way w e ≡ true) (b : best_client I w ≡ some c) where
              -- the own best client has a way, since it is one
              own-way : I.way w c ≡ true
              own-way = subst (WayTo I w) b (own-way-to I w)

              better-own : prefers I w e (I.listed v) c true ≡ true → Owed (Yes (BetterOffer e c (get_or (margin_of I w e c) (pos 0))))
              unfolding reasons first_from better_offer better margin_of
              better-own p =
                  record {
                    agrees = sym (offer-neighbour I w v unlisted role reflector near ∙ cc);
                    rule = (role, reflector, o, b, cc (own-way), cc (own-way));
                    reason = cc;
                  }

              not-better : prefers I w e (I.listed v) c true ≡ false → Owed (No OfferNotBetter)
              unfolding reasons first_from better_offer
              not-better p = record { agrees = sym (offer-neighbour I w v unlisted role reflector near ∙ cc); rule = tt; reason = cc }

  -- who is no neighbour is not relied on, nor is an unlisted client
  relies-stranger : I.neighbour w v ≡ false → relies I w v ≡ false
  unfolding listed_client_of
  relies-stranger near = go (I.listed w) refl (I.reflector w) refl (I.reflector v) refl
    where
      go : (a : Bool) → I.listed w ≡ a → (b : Bool) → I.reflector w ≡ b → (c : Bool) → I.reflector v ≡ c → relies I w v ≡ false
      go true p b q c r = relies-listed I w v p
      go false p true q true r = offer-stranger I w v p q r near
      go false p true q false r = relies-own I w v p q r ∙ not-best-client I w v cc
      go false p false q c r = client-on-stranger I w v p q near

  relies-unlisted : I.listed w ≡ false → I.reflector v ≡ false → I.listed v ≡ false → relies I w v ≡ false
  unfolding listed_client_of
  relies-unlisted unlisted h k = go (I.reflector w) refl
    where
      go : (b : Bool) → I.reflector w ≡ b → relies I w v ≡ false
      go true q = relies-own I w v unlisted q h ∙ not-best-client I w v (cc (and-false (I.neighbour w v)))
      go false q = relies-client I w v unlisted q ∙ cc (and-false (I.neighbour w v))

  from : (x : Explanation) → explained I w v ≡ x → Owed x → Owed (explained I w v)
  from x h o = subst Owed (sym h) o

  -- the cases in order
  owed : Owed (explained I w v)
  unfolding explained on_reflector on_client by_offer against_own
  owed = go (eqb w v) refl (I.neighbour w v) refl (I.listed w) refl (I.reflector w) refl (I.reflector v) refl (I.listed v) refl
    where
      own : (b : Bool) → is_router v (best_client I w) ≡ b → eqb w v ≡ false → I.neighbour w v ≡ true → I.listed w ≡ false
          → I.reflector w ≡ true → I.reflector v ≡ false → I.listed v ≡ true → Owed (explained I w v)
      own true is a b c d e f = from _ (cc) (own-best-client a b c d e f (is_router-same v _ is))
      own false is a b c d e f = from _ (cc) (not-the-best a b c d e f is)

      offered : (o : Option ℕ) → offer I v ≡ o → (m : Option ℕ) → best_client I w ≡ m → eqb w v ≡ false → I.neighbour w v ≡ true
          → I.listed w ≡ false → I.reflector w ≡ true → I.reflector v ≡ true → Owed (explained I w v)
      offered none o m k a b c d e = from _ (cc) (no-offer a b c d e o)
      offered (some x) o none k a b c d e = way (I.way w x) refl
        where
          way : (t : Bool) → I.way w x ≡ t → Owed (explained I w v)
          way true t = from _ (cc) (only-offer a b c d e x o t k)
          way false t = from _ (cc) (no_way a b c d e x o t)
      offered (some x) o (some y) k a b c d e = way (I.way w x) refl (prefers I w x (I.listed v) y true) refl
        where
          way : (t : Bool) → I.way w x ≡ t → (p : Bool) → prefers I w x (I.listed v) y true ≡ p → Owed (explained I w v)
          way true t true p = from _ (cc) (better-own a b c d e x y o t k p)
          way true t false p = from _ (cc) (not-better a b c d e x y o t k p)
          way false t p q = from _ (cc) (no_way a b c d e x o t)

      go : (a : Bool) → eqb w v ≡ a → (b : Bool) → I.neighbour w v ≡ b → (c : Bool) → I.listed w ≡ c → (d : Bool) → I.reflector w ≡ d
          → (e : Bool) → I.reflector v ≡ e → (f : Bool) → I.listed v ≡ f → Owed (explained I w v)
      go true a b h c i d j e k f l = from _ (cc) (same-router a)
      go false a false b c i d j e k f l = from _ (cc) (not-neighbours a b (relies-stranger b))
      go false a true b true c d j e k f l = from _ (cc) (first-listed a b c)
      go false a true b false c d j false k false l = from _ (cc) (unlisted-client a b c k l (relies-unlisted c k l))
      go false a true b false c false d true k f l = from _ (cc) (parent a b c d k)
      go false a true b false c false d false k true l = from _ (cc) (peer-client a b c d k l)
      go false a true b false c true d true k f l = offered (offer I v) refl (best_client I w) refl a b c d k
      go false a true b false c true d false k true l = own (is_router v (best_client I w)) refl a b c d k l

  pub explaining : Explaining I w v
  explaining =
      record { agrees = owed.agrees; rule = owed.rule; reason = owed.reason; never_fifth = λ h. not-fifth (explained I w v) (owed.reason ∙ h) }

  -- the step decides against an offer that is passed on
  passed-on : I.listed w ≡ false → has_step I w ≡ true → (best_client I w ≡ none → ⊥) → I.neighbour w v ≡ true → I.reflector v ≡ true
      → I.listed v ≡ false → (e : ℕ) → offer I v ≡ some e → I.way w e ≡ true → (w ≡ v → ⊥) → explained I w v ≡ No OfferNotBetter
  unfolding explained on_reflector by_offer against_own has_step
  passed-on unlisted step own near reflector passes e o way apart = go (best_client I w) refl
    where
      go : (b : Option ℕ) → best_client I w ≡ b → explained I w v ≡ No OfferNotBetter
      go none k = absurd (own k)
      go (some c) k =
          cc (ne_eqb w v apart, both_left (I.reflector w) (I.hop w) step, prefers-passed I w step e c)

  -- a better offer is nearer, or as near and of a lower number
  by-distance : (e c : ℕ) (m : ℤ) → explained I w v ≡ Yes (BetterOffer e c m) → (m <ℤ pos 0) ⊎ ((m ≡ pos 0) × (e < c))
  by-distance e c m h =
      let r : RuleOf I w v (Yes (BetterOffer e c m)) = subst (RuleOf I w v) h owed.rule in
      let k = known I w e c m r.5 in
      let near : nearer I w e c ≡ true
      = prefers-nearer I w e (I.listed v) c (sym (better-both-ways I w e (I.listed v) c true k.to_first k.to_second) ∙ r.4) in
      ((margins I w e c true true).first m r.5 refl).0
      (better-both-ways I w e true c true k.to_first k.to_second ∙ prefers-alike I w e c true ∙ near)

  -- who has the step changes yes to no, or back, and nothing else
  module _ (hop : ℕ → Bool) where
    abbrev J : Instance
    J = with_hop I hop

    other-own : (d : Bool) (e : ℕ) (own : Option ℕ) → is_yes (against_own J w d e own) ≡ is_yes (against_own I w d e own)
        → against_own J w d e own ≡ against_own I w d e own
    unfolding against_own margin_of
    other-own d e none h = refl
    other-own d e (some c) h = go (prefers J w e d c true) refl (prefers I w e d c true) refl
      where
        go : (a : Bool) → prefers J w e d c true ≡ a → (b : Bool) → prefers I w e d c true ≡ b
            → against_own J w d e (some c) ≡ against_own I w d e (some c)
        go true p true q = cc
        go false p false q = cc
        go true p false q = let z : true ≡ false = cc in not-both true refl z
        go false p true q = let z : false ≡ true = cc in not-both true refl (sym z)

    other-offer : (d : Bool) (o own : Option ℕ) → is_yes (by_offer J w d o own) ≡ is_yes (by_offer I w d o own) → by_offer J w d o own ≡ by_offer I w d o own
    unfolding by_offer
    other-offer d none own h = refl
    other-offer d (some e) own h = go (I.way w e) refl
      where
        go : (a : Bool) → I.way w e ≡ a → by_offer J w d (some e) own ≡ by_offer I w d (some e) own
        go true p = rw p (other-own d e own (rw p at h))
        go false p = cc

    no-other : is_yes (explained J w v) ≡ is_yes (explained I w v) → explained J w v ≡ explained I w v
    unfolding explained on_reflector on_client
    no-other h = go (eqb w v) refl (I.neighbour w v) refl (I.listed w) refl (I.reflector v) refl (I.reflector w) refl
      where
        own : best_client J w ≡ best_client I w
        own = roles-best-client I I.skips hop w

        offered : offer J v ≡ offer I v
        offered = roles-offer I I.skips hop v

        go : (a : Bool) → eqb w v ≡ a → (b : Bool) → I.neighbour w v ≡ b → (c : Bool) → I.listed w ≡ c → (d : Bool) → I.reflector v ≡ d
            → (e : Bool) → I.reflector w ≡ e → explained J w v ≡ explained I w v
        go true a b k c i d j e l = cc
        go false a false k c i d j e l = cc
        go false a true k true i d j e l = cc
        go false a true k false i false j e l = cc (own)
        go false a true k false i true j false l = cc
        go false a true k false i true j true l =
            let there : explained J w v ≡ by_offer J w (I.listed v) (offer I v) (best_client I w) = cc (own, offered) in
            let here : explained I w v ≡ by_offer I w (I.listed v) (offer I v) (best_client I w) = cc in
            there ∙ other-offer (I.listed v) (offer I v) (best_client I w) (sym (ap is_yes there) ∙ h ∙ ap is_yes here) ∙ sym here

  pub step-explained : StepExplained I w v
  step-explained = record { passed_on = passed-on; by_distance = by-distance; no_other = no-other }
