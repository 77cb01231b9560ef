-- What an explanation says, in plain terms: it is yes exactly if the one router relies on the other, its reason is the first that applies,
-- and a rule carries the routes and the margin that the rules of reliance and the comparison give.
use Rattle.std.specs.Prelude.{ℕ, suc, ◌<◌, ◌≡◌, Bool, true, false, not, cond, ◌&&◌, List, [], ◌∷◌, ◌⊎◌, eqb, ℤ, pos, ◌<ℤ◌}
use Rattle.std.proofs.Math.Option.{Option, none, some}
use Rattle.route_rules.specs.Instance.{Instance, is_router}
use Rattle.route_rules.specs.Preference.{has_step, better, margin_of}
use Rattle.route_rules.specs.Reliance.{best_client, offer, better_offer, relies, with_hop}
use Rattle.route_explain_rules.specs.Explained.{explained}
use Rattle.route_explain_rules.specs.declared.explanation.Explanation.{Explanation}
use Rattle.route_explain_rules.specs.declared.explanation.Explanation.TheVariants.{Refused, Yes, No}
use Rattle.route_explain_rules.specs.declared.explanation.Rule.{Rule}
use Rattle.route_explain_rules.specs.declared.explanation.Rule.TheVariants.{Parent, PeerClient, OwnBestClient, AnyOffer, BetterOffer}
use Rattle.route_explain_rules.specs.declared.explanation.Reason.{Reason}
use Rattle.route_explain_rules.specs.declared.explanation.Reason.TheVariants.{SameRouter, NotNeighbours, FirstListed}
use Rattle.route_explain_rules.specs.declared.explanation.Reason.TheVariants.{SecondUnlistedClient, NotTheBestClient}
use Rattle.route_explain_rules.specs.declared.explanation.Reason.TheVariants.{NoOffer, NoWayToTheOffer, OfferNotBetter}

-- an unlisted client
abbrev pub unlisted_client : Instance → ℕ → Bool
unlisted_client I v = not (I.reflector v) && not (I.listed v)

-- an offer that the router has no way to
abbrev pub out_of_reach : Instance → ℕ → Option ℕ → Bool
out_of_reach I w none = false
out_of_reach I w (some e) = not (I.way w e)

abbrev pub is_none : Option ℕ → Bool
is_none none = true
is_none (some e) = false

-- "The reasons, first that applies": why w does not rely on v, in the paper's order. The last four are of a reflector w, whose reliances
-- rule 3 decides.
unfoldable pub reasons : Instance → ℕ → ℕ → List Bool
reasons I w v =
    eqb w v  -- "same router"
    ∷ not (I.neighbour w v)  -- "not neighbours"
    ∷ I.listed w  -- "first router listed"
    ∷ unlisted_client I v  -- "second an unlisted client"
    ∷ (not (I.reflector w) && unlisted_client I v)  -- "both clients with the second unlisted"
    ∷ (I.reflector w && not (I.reflector v) && not (is_router v (best_client I w)))  -- "a client that is not the best one"
    ∷ (I.reflector w && I.reflector v && is_none (offer I v))  -- "no offer"
    ∷ (I.reflector w && I.reflector v && out_of_reach I w (offer I v))  -- "no way to the offer"
    ∷ (I.reflector w && I.reflector v && not (better_offer I w (I.listed v) (offer I v) (best_client I w)))  -- "offer not better"
    ∷ []

-- the place of the first that is true, counted from k; 0 if none is
unfoldable pub first_from : ℕ → List Bool → ℕ
first_from k [] = 0
first_from k (b ∷ bs) = cond b k (first_from (suc k) bs)

-- the place in the paper of each reason that is kept
abbrev pub place : Reason → ℕ
place SameRouter = 1
place NotNeighbours = 2
place FirstListed = 3
place SecondUnlistedClient = 4
place NotTheBestClient = 6
place NoOffer = 7
place NoWayToTheOffer = 8
place OfferNotBetter = 9

-- .. of an answer's reason; 0 if it has none
abbrev pub reason_place : Explanation → ℕ
reason_place (Refused number) = 0
reason_place (Yes rule) = 0
reason_place (No reason) = place reason

abbrev pub is_yes : Explanation → Bool
is_yes (Refused number) = false
is_yes (Yes rule) = true
is_yes (No reason) = false

-- what holds where w relies on v by a rule
abbrev pub ByRule : Instance → ℕ → ℕ → Rule → Type 0
-- rule 2: "each neighbouring reflector" is a parent, "each neighbouring listed client" a peer client
ByRule I w v Parent = (I.reflector w ≡ false) × (I.reflector v ≡ true)
ByRule I w v PeerClient = (I.reflector w ≡ false) × (I.reflector v ≡ false) × (I.listed v ≡ true)
-- rule 3: "its best client", and "each neighbouring reflector whose offer exists and is better, at the relying one, than its own best
-- client"; "with no best client, any offer counts as better"
ByRule I w v OwnBestClient = (I.reflector w ≡ true) × (best_client I w ≡ some v)
ByRule I w v (AnyOffer e) =
    (I.reflector w ≡ true) × (I.reflector v ≡ true) × (offer I v ≡ some e) × (I.way w e ≡ true) × (best_client I w ≡ none)
ByRule I w v (BetterOffer e c m) =
    (I.reflector w ≡ true) × (I.reflector v ≡ true) × (offer I v ≡ some e) × (best_client I w ≡ some c)
    × (better I w e (I.listed v) c true ≡ true) × (margin_of I w e c ≡ some m)

-- .. as an answer says
abbrev pub RuleOf : Instance → ℕ → ℕ → Explanation → Type 0
RuleOf I w v (Refused number) = ⊥
RuleOf I w v (Yes rule) = ByRule I w v rule
RuleOf I w v (No reason) = Unit

-- The theorem `explaining` says that these hold.
pub record Explaining (I : Instance) (w v : ℕ) : Type 0 where
  -- "Yes must agree with the plain reliance answer for every pair."
  pub agrees : is_yes (explained I w v) ≡ relies I w v
  -- "yes with its rule"
  pub rule : RuleOf I w v (explained I w v)
  -- "or no with the reason", the "first that applies"
  pub reason : reason_place (explained I w v) ≡ first_from 1 (reasons I w v)
  -- "Reasons that never occur are shown so and dropped": the fifth, "both clients with the second unlisted"
  pub never_fifth : first_from 1 (reasons I w v) ≡ 5 → ⊥

-- The hop step in an explanation (document 02, "Reflectors with the hop step"). The theorem `step-explained` says that these hold.
pub record StepExplained (I : Instance) (w v : ℕ) : Type 0 where
  -- Where the step decides the reason is "offer not better": at a reflector with the step and a best client, of every offer that w has a way
  -- to and that its egress does not tell itself, however near it is.
  pub passed_on :
      I.listed w ≡ false → has_step I w ≡ true → (best_client I w ≡ none → ⊥) → I.neighbour w v ≡ true → I.reflector v ≡ true
      → I.listed v ≡ false → (e : ℕ) → offer I v ≡ some e → I.way w e ≡ true → (w ≡ v → ⊥) → explained I w v ≡ No OfferNotBetter
  -- It makes no offer better, so the margin of a yes still tells why: the offer is nearer, or as near and has the lower number.
  pub by_distance :
      (e c : ℕ) (m : ℤ) → explained I w v ≡ Yes (BetterOffer e c m) → (m <ℤ pos 0) ⊎ ((m ≡ pos 0) × (e < c))
  -- Who has the step changes an answer from yes to no, or back, and no other: where it does not, rule, routes, margin and reason are the same.
  pub no_other : (hop : ℕ → Bool) → is_yes (explained (with_hop I hop) w v) ≡ is_yes (explained I w v) → explained (with_hop I hop) w v ≡ explained I w v
