-- Every rule and every reason that is kept occurs, on two networks given by literal lists. Beside each stands what a misreading gives.
-- Crate checker_examples has them of the call itself, on plans in literal bytes.
use Rattle.std.specs.Prelude.{ℕ, ◌≡◌, true, false, List, [], ◌∷◌, map, pos, neg_ℤ}
use Rattle.route_rules.specs.Instance.{Instance}
use Rattle.route_rules.specs.Reliance.{relies}
use Rattle.route_rules.specs.Examples.{network}
use Rattle.route_rules.specs.HopExamples.{two}
use Rattle.route_explain_rules.specs.Explained.{explained}
use Rattle.route_explain_rules.specs.Reasons.{reasons, is_yes}
use Rattle.route_explain_rules.specs.Values.{values_of}
use Rattle.route_explain_rules.specs.declared.explanation.Explanation.{Explanation}
use Rattle.route_explain_rules.specs.declared.explanation.Explanation.TheVariants.{Yes, No}
use Rattle.route_explain_rules.specs.declared.explanation.Rule.TheVariants.{Parent, PeerClient, OwnBestClient, AnyOffer, BetterOffer}
use Rattle.route_explain_rules.specs.declared.explanation.Reason.TheVariants.{SameRouter, NotNeighbours, FirstListed}
use Rattle.route_explain_rules.specs.declared.explanation.Reason.TheVariants.{SecondUnlistedClient, NotTheBestClient}
use Rattle.route_explain_rules.specs.declared.explanation.Reason.TheVariants.{NoOffer, NoWayToTheOffer, OfferNotBetter}

-- Reflectors 0 to 2, clients 3 to 5; from 2 there is no way to 3
unfoldable pub site : (listed : List ℕ) → Instance
site listed =
    network 6 (0 ∷ 1 ∷ 2 ∷ []) [] [] listed
    -- the neighbours of each router
    ((1 ∷ 2 ∷ 3 ∷ 4 ∷ []) ∷ (0 ∷ 2 ∷ 5 ∷ []) ∷ (0 ∷ 1 ∷ []) ∷ (0 ∷ 4 ∷ []) ∷ (0 ∷ 3 ∷ []) ∷ (1 ∷ []) ∷ [])
    -- the distances from each reflector; no rule asks for those from a client
    ((0 ∷ 30 ∷ 30 ∷ 10 ∷ 20 ∷ 6 ∷ []) ∷ (30 ∷ 0 ∷ 30 ∷ 30 ∷ 10 ∷ 10 ∷ []) ∷ (30 ∷ 30 ∷ 0 ∷ 30 ∷ 30 ∷ 7 ∷ []) ∷ [])
    -- whom each has no way to
    ([] ∷ [] ∷ (3 ∷ []) ∷ [])

-- Reflector 0, reflector 1 of role 3, clients 2 to 4, of which 3 neighbours both reflectors; from 0 there is no way to 2 and to 4
unfoldable pub shared_site : (listed : List ℕ) → Instance
shared_site listed =
    network 5 (0 ∷ 1 ∷ []) (1 ∷ []) [] listed
    ((1 ∷ 2 ∷ 3 ∷ []) ∷ (0 ∷ 3 ∷ 4 ∷ []) ∷ (0 ∷ []) ∷ (0 ∷ 1 ∷ []) ∷ (1 ∷ []) ∷ [])
    ((0 ∷ 30 ∷ 30 ∷ 10 ∷ 30 ∷ []) ∷ (30 ∷ 0 ∷ 30 ∷ 5 ∷ 4 ∷ []) ∷ [])
    ((2 ∷ 4 ∷ []) ∷ [])

-- reflectors 0 and 1 of `two`, where from 0 there is no way to 3, the client of 1
unfoldable pub cut_two : (hopping listed : List ℕ) → Instance
cut_two hopping listed =
    network 4 (0 ∷ 1 ∷ []) [] hopping listed ((1 ∷ 2 ∷ []) ∷ (0 ∷ 3 ∷ []) ∷ (0 ∷ []) ∷ (1 ∷ []) ∷ [])
    ((0 ∷ 7 ∷ 10 ∷ 6 ∷ []) ∷ (30 ∷ 0 ∷ 6 ∷ 10 ∷ []) ∷ []) ((3 ∷ []) ∷ [])

-- their lists
abbrev pub clients35 : Instance
clients35 = site (3 ∷ 5 ∷ [])

abbrev pub clients34 : Instance
clients34 = site (3 ∷ 4 ∷ [])

abbrev pub clients45 : Instance
clients45 = site (4 ∷ 5 ∷ [])

abbrev pub reflector0 : Instance
reflector0 = site (0 ∷ [])

abbrev pub shared23 : Instance
shared23 = shared_site (2 ∷ 3 ∷ [])

abbrev pub shared34 : Instance
shared34 = shared_site (3 ∷ 4 ∷ [])

-- the number of its rule or its reason
abbrev pub code : Explanation → ℕ
code r = (values_of r).code

pub record ExplainingExamples : Type 0 where
  -- list 3,5; the rules
  pub parent : explained clients35 4 0 ≡ Yes Parent  -- said of every neighbour alike: peer client
  pub listed_parent : explained reflector0 3 0 ≡ Yes Parent  -- a listed reflector said to be a peer client
  pub skipping_parent : explained shared23 4 1 ≡ Yes Parent  -- .. one of role 3
  pub peer_client : explained clients35 4 3 ≡ Yes PeerClient
  pub own_best_client : explained clients35 0 3 ≡ Yes OwnBestClient
  pub better_offer : explained clients35 0 1 ≡ Yes (BetterOffer 5 3 (neg_ℤ (pos 4)))  -- own minus offer: 4; routes exchanged: 3 and 5
  pub any_offer : explained clients35 2 1 ≡ Yes (AnyOffer 5)  -- the reflector in place of its offer: 1
  -- the reasons, in the paper's order
  pub same_router : explained clients35 3 3 ≡ No SameRouter  -- a later reason first: not neighbours, first router listed
  pub not_neighbours : explained clients35 3 5 ≡ No NotNeighbours  -- .. first router listed
  pub strangers : explained clients35 0 5 ≡ No NotNeighbours  -- .. a client that is not the best one
  pub first_listed : explained clients35 3 4 ≡ No FirstListed  -- .. second an unlisted client
  pub listed_reflector_first : explained reflector0 0 4 ≡ No FirstListed  -- .. second an unlisted client
  pub unlisted_client : explained clients35 0 4 ≡ No SecondUnlistedClient  -- .. a client that is not the best one
  pub both_clients : explained reflector0 3 4 ≡ No SecondUnlistedClient  -- the fifth reason applies too, and is never first
  pub every_that_applies :
      reasons reflector0 3 4 ≡ false ∷ false ∷ false ∷ true ∷ true ∷ false ∷ false ∷ false ∷ false ∷ []
  pub not_the_best : explained clients34 0 4 ≡ No NotTheBestClient
  pub client_without_a_way : explained shared23 0 2 ≡ No NotTheBestClient  -- no way to the offer
  pub no_offer : explained clients35 0 2 ≡ No NoOffer
  pub no_way : explained clients35 2 0 ≡ No NoWayToTheOffer  -- no offer; offer not better
  pub no_way_beside_own : explained shared34 0 1 ≡ No NoWayToTheOffer  -- offer not better
  pub not_better : explained clients35 1 0 ≡ No OfferNotBetter
  pub shared_best_client : explained shared23 0 1 ≡ No OfferNotBetter  -- better than itself; no offer
  -- list 4,5: from 1 it is 10 to 4 and to 5, and the lower number decides
  pub tie : explained clients45 1 0 ≡ Yes (BetterOffer 4 5 (pos 0))  -- an offer must be nearer: not better
  -- list 0: "A listed reflector offers itself"
  pub listed_reflector : explained reflector0 1 0 ≡ Yes (AnyOffer 0)
  -- with the hop step at 0: what the unlisted 1 offers is passed on, and from 0 it is 6 to it and 10 to the own best client
  pub step_decides : explained (two (0 ∷ []) (2 ∷ 3 ∷ [])) 0 1 ≡ No OfferNotBetter  -- by the distance: Yes (BetterOffer 3 2 (neg_ℤ (pos 4)))
  pub step_of_the_relying_one : explained (two (0 ∷ []) (2 ∷ 3 ∷ [])) 1 0 ≡ Yes (BetterOffer 2 3 (neg_ℤ (pos 4)))  -- that of who offers: not better
  pub step_and_no_offer : explained (two (0 ∷ []) (2 ∷ [])) 0 1 ≡ No NoOffer  -- a passed on offer said to be not better: No OfferNotBetter
  pub step_and_no_way : explained (cut_two (0 ∷ []) (2 ∷ 3 ∷ [])) 0 1 ≡ No NoWayToTheOffer  -- the step said before no way: No OfferNotBetter
  pub step_without_own : explained (two (0 ∷ []) (3 ∷ [])) 0 1 ≡ Yes (AnyOffer 3)  -- no passed on offer counts: No OfferNotBetter
  -- .. a listed reflector tells its own route: from 0 it is 7 to 1, and from 1 it is 30 to 0
  pub step_and_listed : explained (two (0 ∷ []) (1 ∷ 2 ∷ [])) 0 1 ≡ Yes (BetterOffer 1 2 (neg_ℤ (pos 3)))  -- every offer as passed on: not better
  pub step_and_farther : explained (two (1 ∷ []) (0 ∷ 3 ∷ [])) 1 0 ≡ No OfferNotBetter  -- the own best client as passed on: Yes ..
  pub step_reasons :
      reasons (two (0 ∷ []) (2 ∷ 3 ∷ [])) 0 1 ≡ false ∷ false ∷ false ∷ false ∷ false ∷ false ∷ false ∷ false ∷ true ∷ []
  -- "Yes must agree with the plain reliance answer": of router 0 on each router, for list 3,5
  pub relied : map (λ v. is_yes (explained clients35 0 v)) (0 ∷ 1 ∷ 2 ∷ 3 ∷ 4 ∷ 5 ∷ []) ≡ false ∷ true ∷ false ∷ true ∷ false ∷ false ∷ []
  pub relied_plainly :
      map (relies clients35 0) (0 ∷ 1 ∷ 2 ∷ 3 ∷ 4 ∷ 5 ∷ []) ≡ false ∷ true ∷ false ∷ true ∷ false ∷ false ∷ []
  -- "parent, peer client, own best client, or better offer" are 1 to 4, and the reasons have their places in the paper
  pub rules :
      map code (Yes Parent ∷ Yes PeerClient ∷ Yes OwnBestClient ∷ Yes (AnyOffer 5) ∷ Yes (BetterOffer 5 3 (pos 0)) ∷ [])
      ≡ 1 ∷ 2 ∷ 3 ∷ 4 ∷ 4 ∷ []
  pub places :
      map code
      (No SameRouter ∷ No NotNeighbours ∷ No FirstListed ∷ No SecondUnlistedClient
      ∷ No NotTheBestClient ∷ No NoOffer ∷ No NoWayToTheOffer ∷ No OfferNotBetter ∷ [])
      ≡ 1 ∷ 2 ∷ 3 ∷ 4 ∷ 6 ∷ 7 ∷ 8 ∷ 9 ∷ []
  -- what a better offer carries, and a rule or a reason that carries nothing
  pub with_own :
      values_of (explained clients35 0 1) ≡ record { relies = true; code = 4; offer = 5; compared = true; own = 3; margin = neg_ℤ (pos 4) }
  pub without_own :
      values_of (explained clients35 2 1) ≡ record { relies = true; code = 4; offer = 5; compared = false; own = 0; margin = pos 0 }
  pub parent_alone :
      values_of (explained clients35 4 0) ≡ record { relies = true; code = 1; offer = 0; compared = false; own = 0; margin = pos 0 }
  pub peer_alone :
      values_of (explained clients35 4 3) ≡ record { relies = true; code = 2; offer = 0; compared = false; own = 0; margin = pos 0 }
  pub rule_alone :
      values_of (explained clients35 0 3) ≡ record { relies = true; code = 3; offer = 0; compared = false; own = 0; margin = pos 0 }
  pub reason_alone :
      values_of (explained clients35 1 0) ≡ record { relies = false; code = 9; offer = 0; compared = false; own = 0; margin = pos 0 }
