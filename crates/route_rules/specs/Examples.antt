-- Examples that tell each rule of documents 01 and 02 from a misreading of it, over one network given by literal lists. Beside each stands
-- what a misreading gives.
use Rattle.std.specs.Prelude.{ℕ, ◌≡◌, Bool, true, false, not, ◌||◌, List, [], ◌∷◌, eqb, get_or, pos, neg_ℤ}
use Rattle.std.proofs.Math.Option.{none, some}
use Rattle.route_rules.specs.Instance.{Instance, Route, nothing, via}
use Rattle.route_rules.specs.Preference.{nearer, better, margin_of}
use Rattle.route_rules.specs.Activation.{reflects, advertises, hears, sender_of, choose, held, entry_ok, table_ok, activate, run_acts}
use Rattle.route_rules.specs.Rounds.{rounds, fresh_tally, tally_acts}
use Rattle.route_rules.specs.Reliance.{best_client, offer, better_offer, relies}

-- v is one of the numbers
unfoldable pub among : List ℕ → ℕ → Bool
among [] v = false
among (x ∷ numbers) v = eqb x v || among numbers v

-- a network given by literal lists: its reflectors, those that skip their clients (roles 3 and 5), those with the hop step (4 and 5) and
-- the listed routers, and for each router its neighbours, its distances and the routers that it has no way to
unfoldable pub network : (n : ℕ) (reflectors skipping hopping listed : List ℕ) (neighbours distances cut : List (List ℕ)) → Instance
network n reflectors skipping hopping listed neighbours distances cut =
    record {
      n = n;
      reflector = among reflectors;
      skips = among skipping;
      hop = among hopping;
      neighbour = λ w v. among (get_or neighbours w []) v;
      dist = λ w e. get_or (get_or distances w []) e 0;
      way = λ w e. not (among (get_or cut w []) e);
      listed = among listed;
    }

-- the neighbours of each router
unfoldable pub neighbours : List (List ℕ)
neighbours =
    (1 ∷ 2 ∷ 3 ∷ [])
    ∷ (0 ∷ 2 ∷ 4 ∷ 5 ∷ [])
    ∷ (0 ∷ 1 ∷ 4 ∷ [])
    ∷ (0 ∷ 5 ∷ [])
    ∷ (1 ∷ 2 ∷ [])
    ∷ (1 ∷ 3 ∷ [])
    ∷ []

-- the distances from each router
unfoldable pub distances : List (List ℕ)
distances =
    (0 ∷ 30 ∷ 30 ∷ 19 ∷ 11 ∷ 258 ∷ [])
    ∷ (30 ∷ 0 ∷ 30 ∷ 20 ∷ 20 ∷ 10 ∷ [])
    ∷ (30 ∷ 30 ∷ 0 ∷ 7 ∷ 9 ∷ 30 ∷ [])
    ∷ (30 ∷ 30 ∷ 30 ∷ 0 ∷ 30 ∷ 30 ∷ [])
    ∷ (30 ∷ 30 ∷ 30 ∷ 30 ∷ 0 ∷ 30 ∷ [])
    ∷ (30 ∷ 30 ∷ 30 ∷ 30 ∷ 30 ∷ 0 ∷ [])
    ∷ []

-- reflectors 0, 1, 2 and clients 3, 4, 5, with the given routers listed; `cut` has for each router those that it has no way to,
-- `skipping` the reflectors that skip their clients, `hopping` those with the hop step
unfoldable pub six_with : (cut : List (List ℕ)) (skipping hopping listed : List ℕ) → Instance
six_with cut skipping hopping listed = network 6 (0 ∷ 1 ∷ 2 ∷ []) skipping hopping listed neighbours distances cut

abbrev pub six : (listed : List ℕ) → Instance
six = six_with [] [] []

-- reflector 1 has no way to client 5, the nearest to it, nor 0 to 4, nor reflector 2 to 0, nor client 4 back to 2, nor 5 to any router,
-- not even itself
abbrev pub cut_six : (listed : List ℕ) → Instance
cut_six = six_with ((4 ∷ []) ∷ (5 ∷ []) ∷ (0 ∷ []) ∷ [] ∷ (2 ∷ []) ∷ (0 ∷ 1 ∷ 2 ∷ 3 ∷ 4 ∷ 5 ∷ []) ∷ []) [] []

-- reflector 1 has role 3: its clients are 4 and 5, of which 5 has a session with client 3 too
abbrev pub skip_six : (listed : List ℕ) → Instance
skip_six = six_with [] (1 ∷ []) []

-- .. and so has reflector 0
abbrev pub skip_two : (listed : List ℕ) → Instance
skip_two = six_with [] (0 ∷ 1 ∷ []) []

-- its lists
abbrev pub clients34 : Instance
clients34 = six (3 ∷ 4 ∷ [])

abbrev pub clients345 : Instance
clients345 = six (3 ∷ 4 ∷ 5 ∷ [])

abbrev pub reflector1_and34 : Instance
reflector1_and34 = six (1 ∷ 3 ∷ 4 ∷ [])

abbrev pub client4 : Instance
client4 = six (4 ∷ [])

abbrev pub reflector0 : Instance
reflector0 = six (0 ∷ [])

-- a table where client 4 is listed: reflectors 1 and 2 hold its route, and client 3 holds it from 5
unfoldable pub start : List Route
start = nothing ∷ via 4 4 ∷ via 4 4 ∷ via 4 5 ∷ via 4 4 ∷ nothing ∷ []

pub record RoutingExamples : Type 0 where
  -- "At router w, route e is better than f if w's distance to e is smaller, or equal and e's number lower."
  pub nearer_is_preferred : nearer clients34 1 5 4 ≡ true  -- by the number alone: false
  pub farther_is_not : nearer clients34 1 4 5 ≡ false  -- by the number alone: true
  pub distances_as_they_are : nearer clients34 0 3 4 ≡ false  -- in tens, where 19 and 11 are equal: true
  pub tie_to_the_lower : nearer clients34 1 3 4 ≡ true  -- a tie as no preference: false
  pub tie_not_to_the_higher : nearer clients34 1 4 3 ≡ false  -- a tie as either: true
  -- "In a comparison a way beats none, and of two without a way neither is better."
  pub way_beats_none : better (cut_six (3 ∷ [])) 1 4 true 5 true ≡ true  -- no way as a distance: false
  pub none_beats_no_way : better (cut_six (3 ∷ [])) 1 5 true 4 true ≡ false  -- no way as a distance: true
  pub neither_has_a_way : better (cut_six (3 ∷ [])) 5 3 true 4 true ≡ false  -- by the number: true
  pub both_have_a_way : better (cut_six (3 ∷ [])) 1 3 true 4 true ≡ true  -- a tie as no preference: false
  -- "the first distance minus the second": from 0 it is 11 to 4 and 19 to 3
  pub margin_is_negative : margin_of clients34 0 4 3 ≡ some (neg_ℤ (pos 8))  -- the sign turned, or the magnitude alone: some (pos 8)
  pub margin_is_positive : margin_of clients34 0 3 4 ≡ some (pos 8)  -- in tens: some (pos 0)
  -- "Zero means that the numbers decide or the two are the same route."
  pub margin_of_a_tie : margin_of clients34 1 3 4 ≡ some (pos 0)  -- the numbers apart: some (neg_ℤ (pos 1))
  pub margin_of_the_same : margin_of clients34 1 5 5 ≡ some (pos 0)  -- as none: none
  -- "A margin exists only if both have a way."
  pub no_way_to_the_first : margin_of (cut_six (3 ∷ [])) 1 5 4 ≡ none  -- no way as a distance: some (neg_ℤ (pos 10))
  pub no_way_to_the_second : margin_of (cut_six (3 ∷ [])) 1 4 5 ≡ none  -- no way as a distance: some (pos 10)
  pub no_way_to_either : margin_of (cut_six (3 ∷ [])) 5 3 4 ≡ none  -- two without a way as equal: some (pos 0)
  -- "one heard from a client to all neighbours but that client"
  pub not_back_to_its_client : reflects client4 1 (via 4 5) 5 ≡ none  -- to that client too: some 4
  pub clients_route_to_a_reflector : reflects client4 1 (via 4 5) 0 ≡ some 4  -- to clients only: none
  -- "one heard from a reflector to its clients only"
  pub not_from_a_third : reflects client4 1 (via 4 2) 0 ≡ none  -- to all neighbours: some 4
  pub reflectors_route_to_a_client : reflects client4 1 (via 4 2) 5 ≡ some 4  -- to no one: none
  -- "Role 3 is such a reflector: what it hears from a client it announces to reflectors only."
  pub role3_not_to_a_client : reflects (skip_six (4 ∷ [])) 1 (via 4 4) 5 ≡ none  -- as role 1 does: some 4
  pub role3_to_a_reflector : reflects (skip_six (4 ∷ [])) 1 (via 4 4) 0 ≡ some 4  -- to no one: none
  pub role1_to_a_client : reflects (skip_six (4 ∷ [])) 2 (via 4 4) 5 ≡ some 4  -- every reflector as role 3: none
  pub role3_by_the_sender : reflects (skip_six (4 ∷ [])) 1 (via 0 4) 5 ≡ none  -- as from the egress, a reflector: some 0
  -- "It is otherwise a reflector in every rule"
  pub role3_from_a_reflector : reflects (skip_six (4 ∷ [])) 1 (via 4 2) 5 ≡ some 4  -- to reflectors only, whoever told it: none
  pub role3_not_from_a_third : reflects (skip_six (4 ∷ [])) 1 (via 4 2) 0 ≡ none  -- to reflectors, whoever told it: some 4
  pub role3_as_the_sender : reflects (skip_six (4 ∷ [])) 2 (via 4 1) 0 ≡ none  -- role 3 taken for a client: some 4
  pub role3_to_role3 : reflects (skip_two (4 ∷ [])) 1 (via 4 4) 0 ≡ some 4  -- to reflectors of role 1 alone: none
  pub role3_from_role3 : reflects (skip_two (3 ∷ [])) 0 (via 3 3) 1 ≡ some 3  -- .. the other way
  pub role3_as_the_hearer : reflects (skip_six (4 ∷ [])) 0 (via 4 2) 1 ≡ none  -- role 3 taken for a client: some 4
  pub listed_role3_advertises_itself : advertises (skip_six (1 ∷ [])) 1 (via 1 1) 5 ≡ some 1  -- to reflectors only: none
  -- "A listed router holds its own route always and announces it to every neighbour. An unlisted client announces nothing."
  pub listed_advertises_itself : advertises reflector1_and34 1 (via 1 1) 0 ≡ some 1  -- as one heard from a reflector: none
  pub client_advertises_nothing : advertises client4 5 (via 4 3) 1 ≡ none  -- as a reflector does: some 4
  -- "announced to it": a neighbour's alone
  pub not_from_a_stranger : hears client4 (held start) 0 4 4 ≡ false  -- from any router: true
  -- "A route whose egress the hearer has no way to is not heard"
  pub no_way_not_heard : hears (cut_six (4 ∷ [])) (held start) 0 1 4 ≡ false  -- as a long way: true
  pub way_back_is_not_asked : hears (cut_six (5 ∷ [])) (held start) 3 5 5 ≡ true  -- by the sender's ways: false
  pub listed_reflector_not_heard : hears (cut_six (0 ∷ [])) (held start) 2 0 0 ≡ false  -- a listed router always heard: true
  pub listed_client_not_heard : hears (cut_six (3 ∷ [])) (held start) 5 3 3 ≡ false  -- a listed router always heard: true
  -- .. and that is all: reflector 2 has no way to 0, nor client 4 to 2, and each has one to 3
  pub no_way_to_the_sender : hears (cut_six (3 ∷ [])) (held (via 3 3 ∷ [])) 2 0 3 ≡ true  -- a way to the sender asked for too: false
  pub clients_no_way_to_the_sender : hears (cut_six (3 ∷ [])) (held (nothing ∷ nothing ∷ via 3 0 ∷ [])) 4 2 3 ≡ true  -- .. by a client: false
  pub no_way_to_the_hearer : advertises (cut_six (4 ∷ [])) 2 (via 4 4) 0 ≡ some 4  -- a way to the hearer asked for: none
  pub no_way_to_the_client : advertises (cut_six (4 ∷ [])) 1 (via 4 4) 5 ≡ some 4  -- .. to its client: none
  -- "the egress router itself is the sender if it is one of them, else the lowest number"
  pub egress_itself_is_the_sender : sender_of (λ v e. among (1 ∷ 2 ∷ 4 ∷ []) v) 6 4 ≡ some 4  -- the lowest always: some 1
  pub lowest_is_the_sender : sender_of (λ v e. among (1 ∷ 2 ∷ []) v) 6 4 ≡ some 1  -- the highest: some 2
  -- "An act of a listed router leaves its own route. An act of another leaves the best route announced to it, or nothing if there is
  -- none."
  pub listed_holds_its_own : choose reflector1_and34 1 (held start) ≡ via 1 1  -- as another does: via 4 4
  pub best_is_held : choose clients345 1 (held start) ≡ via 5 5  -- the lowest number: via 4 4
  pub nothing_is_held : choose client4 3 (held start) ≡ nothing  -- what it held: via 4 5
  pub only_route_without_a_way : choose (cut_six (4 ∷ [])) 0 (held start) ≡ nothing  -- no way as a very long way: via 4 1
  pub next_best_is_held : choose (cut_six (3 ∷ 4 ∷ 5 ∷ [])) 1 (held start) ≡ via 4 4  -- no way as a distance: via 5 5
  pub own_route_is_held : choose (cut_six (5 ∷ [])) 5 (held start) ≡ via 5 5  -- a way asked for: nothing
  -- "A client with no mesh around it may end with nothing": what 1 has from client 4 reaches reflector 0 and not client 5, and the
  -- session of clients 3 and 5 brings 5 what 3 has
  pub role3_is_heard : choose (skip_six (4 ∷ [])) 0 (held start) ≡ via 4 1  -- role 3 taken for a client: via 4 2
  pub client_without_a_mesh : choose (skip_six (4 ∷ [])) 5 (held start) ≡ nothing  -- told as by role 1: via 4 1
  pub client_mesh : choose (skip_six (3 ∷ 4 ∷ [])) 5 (held start) ≡ via 3 3
  -- "A listed router's entry names itself twice. Any other entry is 255 255, or an egress below n with a neighbour as sender."
  pub neighbour_as_sender : entry_ok client4 0 (via 5 1) ≡ true  -- with a listed egress only: false
  pub stranger_as_sender : entry_ok client4 0 (via 4 5) ≡ false  -- with any router below n: true
  pub egress_at_n : entry_ok client4 0 (via 6 1) ≡ false  -- with an egress at most n: true
  pub listed_from_another : entry_ok client4 4 (via 4 1) ≡ false  -- as another router's: true
  pub listed_with_nothing : entry_ok client4 4 nothing ≡ false  -- as another router's: true
  pub every_entry : table_ok client4 (nothing ∷ nothing ∷ nothing ∷ via 4 4 ∷ via 4 4 ∷ nothing ∷ []) ≡ false  -- without 3's: true
  -- "An act changes no entry but that of the router that acts": the last here, and neither another nor none
  pub act_changes_its_entry : activate client4 5 start ≡ nothing ∷ via 4 4 ∷ via 4 4 ∷ via 4 5 ∷ via 4 4 ∷ via 4 1 ∷ []
  -- "A run applies a sequence of acts": 0 acts, and then 3, which hears from 0; in the other order 3 holds nothing
  pub acts_in_order : run_acts client4 start (0 ∷ 3 ∷ []) ≡ via 4 1 ∷ via 4 4 ∷ via 4 4 ∷ via 4 0 ∷ via 4 4 ∷ nothing ∷ []
  -- "A round ends at the first act by which every router has acted since the round before ended."
  pub round_starts_anew : rounds 3 (0 ∷ 1 ∷ 2 ∷ 2 ∷ []) ≡ 1  -- since the start: 2
  pub every_router_acts : rounds 3 (0 ∷ 1 ∷ 1 ∷ 0 ∷ []) ≡ 0  -- by three acts: 1
  pub two_rounds : rounds 3 (0 ∷ 1 ∷ 1 ∷ 2 ∷ 0 ∷ 2 ∷ 1 ∷ []) ≡ 2  -- since the start: 4
  pub tally_of_every_router : (tally_acts 3 (fresh_tally 3) (0 ∷ 1 ∷ 1 ∷ 0 ∷ [])).ended ≡ 0  -- by three acts: 1
  pub tally_of_two_rounds : (tally_acts 3 (fresh_tally 3) (0 ∷ 1 ∷ 1 ∷ 2 ∷ 0 ∷ 2 ∷ 1 ∷ [])).ended ≡ 2
  -- "The best client of a reflector is the best, at that reflector, of the listed clients it neighbours."
  pub best_by_its_own_distances : best_client clients345 1 ≡ some 5  -- at router 0: some 4
  pub reflector_is_no_client : best_client reflector0 1 ≡ none  -- of the listed routers: some 0
  -- "A route whose egress the hearer has no way to .. is not a best client there"
  pub best_with_a_way : best_client (cut_six (3 ∷ 4 ∷ 5 ∷ [])) 1 ≡ some 4  -- no way as a distance: some 5
  pub only_client_without_a_way : best_client (cut_six (5 ∷ [])) 1 ≡ none  -- no way as a very long way: some 5
  pub way_back_from_a_client : best_client (cut_six (4 ∷ [])) 2 ≡ some 4  -- by the client's ways: none
  pub nothing_is_offered : offer (cut_six (5 ∷ [])) 1 ≡ none  -- no way as a very long way: some 5
  -- "A listed reflector offers itself; an unlisted one offers its best client, if any."
  pub listed_offers_itself : offer reflector1_and34 1 ≡ some 1  -- its best client always: some 4
  pub unlisted_offers_its_client : offer clients34 1 ≡ some 4  -- listed ones alone offer: none
  -- "better, at the relying one, than its own best client. With no best client, any offer counts as better."
  pub shared_client_is_not_better : better_offer clients34 1 false (some 4) (some 4) ≡ false  -- better than itself: true
  pub any_offer_is_better : better_offer client4 0 false (some 5) none ≡ true  -- no client as the best: false
  -- ".. and does not make a reflector relied on"
  pub offer_without_a_way : better_offer (cut_six (3 ∷ 4 ∷ [])) 0 false (some 4) (some 3) ≡ false  -- no way as a distance: true
  pub only_offer_without_a_way : better_offer (cut_six (4 ∷ [])) 0 false (some 4) none ≡ false  -- any offer counts as better: true
  -- "1. A listed router relies on no one."
  pub rule1 : relies reflector1_and34 1 4 ≡ false  -- as an unlisted one: true
  -- "2. An unlisted client relies on each neighbouring reflector and on each neighbouring listed client."
  pub rule2_reflector : relies clients34 5 1 ≡ true  -- on clients alone: false
  pub rule2_listed_client : relies clients34 5 3 ≡ true  -- on reflectors alone: false
  pub rule2_unlisted_client : relies client4 5 3 ≡ false  -- on every neighbour: true
  -- "A router's own route is unaffected, and so is rule 2 of the reliances."
  pub rule2_without_a_way : relies (cut_six (3 ∷ [])) 5 3 ≡ true  -- rule 2 asks for a way: false
  pub rule2_without_a_way_to_a_reflector : relies (cut_six (3 ∷ [])) 5 1 ≡ true  -- rule 2 asks for a way: false
  pub rule2_without_a_way_to_a_listed_reflector : relies (cut_six (1 ∷ [])) 5 1 ≡ true  -- a way asked for to listed ones: false
  -- "3. An unlisted reflector relies on its best client, and on each neighbouring reflector whose offer exists and is better, at the
  -- relying one, than its own best client."
  pub rule3_best_client : relies clients34 1 4 ≡ true  -- on reflectors alone: false
  pub rule3_tie : relies clients34 1 0 ≡ true  -- a tie as no reliance: false
  pub rule3_shared_client : relies clients34 1 2 ≡ false  -- a shared client as better than itself: true
  pub rule3_offer_by_its_own_distances : relies clients345 0 1 ≡ false  -- the offer by the distances of 0: true
  pub rule3_listed_reflector : relies reflector1_and34 0 1 ≡ false  -- the client of 1 as its offer: true
  pub rule3_without_a_way : relies (cut_six (3 ∷ 4 ∷ [])) 0 1 ≡ false  -- no way as a distance: true
  pub rule3_listed_reflector_without_a_way : relies (cut_six (0 ∷ [])) 2 0 ≡ false  -- a listed reflector's offer always counts: true
  -- .. a way to the offer counts, and none to the reflector that offers is asked for: 2 has none to 0, which offers 3
  pub rule3_without_a_way_to_the_reflector : relies (cut_six (3 ∷ [])) 2 0 ≡ true  -- a way to the reflector asked for: false
  pub rule3_better_without_a_way_to_it : relies (cut_six (3 ∷ 4 ∷ [])) 2 0 ≡ true  -- .. beside an own best client: false
  -- "It is otherwise a reflector in every rule, and rule 2 of the reliances is unchanged for its clients."
  pub role3_is_no_client : best_client (skip_six (1 ∷ [])) 0 ≡ none  -- role 3 taken for a client: some 1
  pub role3_has_a_best_client : best_client (skip_six (4 ∷ 5 ∷ [])) 1 ≡ some 5  -- a client has none: none
  pub role3_offers_its_client : offer (skip_six (4 ∷ 5 ∷ [])) 1 ≡ some 5  -- a client offers nothing: none
  pub rule2_on_role3 : relies (skip_six (4 ∷ [])) 5 1 ≡ true  -- on who can tell it something: false
  pub rule3_on_role3 : relies (skip_six (5 ∷ [])) 0 1 ≡ true  -- role 3 taken for a client: false
  pub rule3_of_role3 : relies (skip_six (3 ∷ 4 ∷ [])) 1 2 ≡ false  -- by rule 2, as a client: true
  pub rule3_of_role3_on_its_client : relies (skip_six (3 ∷ 4 ∷ [])) 1 4 ≡ true  -- on reflectors alone: false
