-- The rule by which a router relies on another, or the first reason why it does not (document 02, "Every reliance with its rule" and
-- "Reflectors with the hop step").
use Rattle.std.specs.Prelude.{ℕ, ◌≡◌, Bool, true, not, cond, eqb, pos}
use Rattle.std.proofs.Math.Option.{Option, none, some, get_or}
use Rattle.route_rules.specs.Instance.{Instance, is_router}
use Rattle.route_rules.specs.Preference.{prefers, margin_of}
use Rattle.route_rules.specs.Reliance.{best_client, offer}
use Rattle.route_explain_rules.specs.declared.explanation.Explanation.{Explanation}
use Rattle.route_explain_rules.specs.declared.explanation.Explanation.TheVariants.{Yes, No}
use Rattle.route_explain_rules.specs.declared.explanation.Rule.TheVariants.{Parent, PeerClient, OwnBestClient, AnyOffer, BetterOffer}
use Rattle.route_explain_rules.specs.declared.explanation.Reason.TheVariants.{SameRouter, NotNeighbours, FirstListed}
use Rattle.route_explain_rules.specs.declared.explanation.Reason.TheVariants.{SecondUnlistedClient, NotTheBestClient}
use Rattle.route_explain_rules.specs.declared.explanation.Reason.TheVariants.{NoOffer, NoWayToTheOffer, OfferNotBetter}

-- w has a way to the router, if there is one
abbrev pub WayTo : Instance → ℕ → Option ℕ → Type 0
WayTo I w none = Unit
WayTo I w (some c) = I.way w c ≡ true

-- "better offer with its route and, if there is an own best client, that one's route and the margin, offer minus own"; "offer not better":
-- w has a way to the offer e, d says that e itself tells it, and w's own best client is given. "Rule 3 uses this order at such a reflector,
-- for its best client against an offer": one that the hop step puts second is not better, whatever the margin.
unfoldable pub against_own : Instance → ℕ → Bool → ℕ → Option ℕ → Explanation
against_own I w d e none = Yes (AnyOffer e)
against_own I w d e (some c) = cond (prefers I w e d c true) (Yes (BetterOffer e c (get_or (margin_of I w e c) (pos 0)))) (No OfferNotBetter)

-- "no offer, no way to the offer": the offer and w's own best client are given
unfoldable pub by_offer : Instance → ℕ → Bool → Option ℕ → Option ℕ → Explanation
by_offer I w d none own = No NoOffer
by_offer I w d (some e) own = cond (I.way w e) (against_own I w d e own) (No NoWayToTheOffer)

-- of unlisted w and its neighbour v, a reflector: rule 2, or rule 3 on what v offers, which v itself tells if it is listed
unfoldable pub on_reflector : Instance → ℕ → ℕ → Explanation
on_reflector I w v = cond (I.reflector w) (by_offer I w (I.listed v) (offer I v) (best_client I w)) (Yes Parent)

-- .. a client: "second an unlisted client", rule 2, or rule 3 and "a client that is not the best one"
unfoldable pub on_client : Instance → ℕ → ℕ → Explanation
on_client I w v =
    cond (not (I.listed v)) (No SecondUnlistedClient)
    (cond (I.reflector w) (cond (is_router v (best_client I w)) (Yes OwnBestClient) (No NotTheBestClient)) (Yes PeerClient))

-- "same router, not neighbours, first router listed" go before all rules. The fifth reason, "both clients with the second unlisted", is
-- never the first that applies (`never_fifth`).
unfoldable pub explained : Instance → ℕ → ℕ → Explanation
explained I w v =
    cond (eqb w v) (No SameRouter)
    (cond (not (I.neighbour w v)) (No NotNeighbours)
    (cond (I.listed w) (No FirstListed)
    (cond (I.reflector v) (on_reflector I w v) (on_client I w v))))
