-- Examples that tell each rule from a misreading of it, over networks given by literal lists. Beside each stands what a misreading gives.
use Rattle.std.specs.Prelude.{ℕ, ◌-◌, ◌≡◌, true, false, ◌&&◌, List, [], ◌∷◌, leb}
use Rattle.std.proofs.Math.Option.{some}
use Rattle.base.specs.Below.{all_below}
use Rattle.base.specs.Tab.{tab}
use Rattle.route_rules.specs.Instance.{Instance}
use Rattle.route_rules.specs.Examples.{among, network}
use Rattle.route_theorems.specs.HopStep.{EveryReflectorSteps}
use Rattle.steady_rules.specs.Numbers.{numbers_where, bit_at}
use Rattle.hopset_rules.specs.Examples.{cycle_with_chord, two_around_one}
use Rattle.everylist_rules.specs.Pairs.{is_pair, leads_to, in_table, left_after, nearest_foreign, walk, found}
use Rattle.everylist_rules.specs.EveryList.{stable_for, every_list, suspect_list, sharing, SingleParents, Clusters, OwnClientsNearer}

-- Document 01, "Small plans": reflectors 0 and 1, and a client of each, 2 and 3, at 10 from it; p is from 0 to 3, q from 1 to 2. With any
-- routers with the hop step, any list, and for each router those that it has no way to.
unfoldable pub small : (p q : ℕ) (hopping listed : List ℕ) (cut : List (List ℕ)) → Instance
small p q hopping listed cut =
    network 4 (0 ∷ 1 ∷ []) [] hopping listed
    ((1 ∷ 2 ∷ []) ∷ (0 ∷ 3 ∷ []) ∷ (0 ∷ []) ∷ (1 ∷ []) ∷ [])
    ((0 ∷ 30 ∷ 10 ∷ p ∷ []) ∷ (30 ∷ 0 ∷ q ∷ 10 ∷ []) ∷ []) cut

abbrev pub m2 : Instance
m2 = small 6 14 [] [] []

abbrev pub m3 : Instance
m3 = small 6 6 [] [] []

-- M3's, and client 3 is a neighbour of 0 too
unfoldable pub own_too : Instance
own_too =
    network 4 (0 ∷ 1 ∷ []) [] [] []
    ((1 ∷ 2 ∷ 3 ∷ []) ∷ (0 ∷ 3 ∷ []) ∷ (0 ∷ []) ∷ (0 ∷ 1 ∷ []) ∷ [])
    ((0 ∷ 30 ∷ 10 ∷ 6 ∷ []) ∷ (30 ∷ 0 ∷ 6 ∷ 10 ∷ []) ∷ []) []

-- Reflectors 0, 1 and 2; client 3 of 2, 4 of 0 and 1, 5 of 0. With clients 5, 4 and 3 each prefers the next one's, 0 that of 2, 2 that of 1,
-- 1 that of 0. But where 4 is listed it is the best client of 0 too.
unfoldable pub two_parents : Instance
two_parents =
    network 6 (0 ∷ 1 ∷ 2 ∷ []) [] [] []
    ((1 ∷ 2 ∷ 4 ∷ 5 ∷ []) ∷ (0 ∷ 2 ∷ 4 ∷ []) ∷ (0 ∷ 1 ∷ 3 ∷ []) ∷ (2 ∷ []) ∷ (0 ∷ 1 ∷ []) ∷ (0 ∷ []) ∷ [])
    ((0 ∷ 0 ∷ 0 ∷ 6 ∷ 5 ∷ 10 ∷ []) ∷ (0 ∷ 0 ∷ 0 ∷ 30 ∷ 10 ∷ 6 ∷ []) ∷ (0 ∷ 0 ∷ 0 ∷ 10 ∷ 6 ∷ 30 ∷ []) ∷ []) []

-- M3's as reflectors 1 and 2 with clients 4 and 5, and one more client of 1, 6; reflector 0, with client 3, prefers 6
unfoldable pub into_the_pair : Instance
into_the_pair =
    network 7 (0 ∷ 1 ∷ 2 ∷ []) [] [] []
    ((1 ∷ 3 ∷ []) ∷ (0 ∷ 2 ∷ 4 ∷ 6 ∷ []) ∷ (1 ∷ 5 ∷ []) ∷ (0 ∷ []) ∷ (1 ∷ []) ∷ (2 ∷ []) ∷ (1 ∷ []) ∷ [])
    ((0 ∷ 0 ∷ 0 ∷ 10 ∷ 8 ∷ 30 ∷ 6 ∷ []) ∷ (0 ∷ 0 ∷ 0 ∷ 30 ∷ 10 ∷ 6 ∷ 20 ∷ []) ∷ (0 ∷ 0 ∷ 0 ∷ 30 ∷ 6 ∷ 10 ∷ 30 ∷ []) ∷ []) []

-- Reflectors 0 and 1 share clients 4 and 5, are both nearer to 5, and have sessions with reflectors 2 and 3. Of the clients of these, 7 and
-- 6, 0 is nearer to 7, and 1 to 6.
unfoldable pub shared_order_alone : Instance
shared_order_alone =
    network 8 (0 ∷ 1 ∷ 2 ∷ 3 ∷ []) [] [] []
    ((2 ∷ 3 ∷ 4 ∷ 5 ∷ []) ∷ (2 ∷ 3 ∷ 4 ∷ 5 ∷ []) ∷ (0 ∷ 1 ∷ 7 ∷ []) ∷ (0 ∷ 1 ∷ 6 ∷ []) ∷ (0 ∷ 1 ∷ []) ∷ (0 ∷ 1 ∷ []) ∷ (3 ∷ []) ∷ (2 ∷ []) ∷ [])
    ((0 ∷ 0 ∷ 0 ∷ 0 ∷ 15 ∷ 5 ∷ 20 ∷ 10 ∷ [])
    ∷ (0 ∷ 0 ∷ 0 ∷ 0 ∷ 20 ∷ 10 ∷ 5 ∷ 15 ∷ [])
    ∷ (0 ∷ 0 ∷ 0 ∷ 0 ∷ 10 ∷ 5 ∷ 20 ∷ 15 ∷ [])
    ∷ (0 ∷ 0 ∷ 0 ∷ 0 ∷ 5 ∷ 20 ∷ 15 ∷ 10 ∷ [])
    ∷ []) []

pub record EveryListExamples : Type 0 where
  -- M1, M2 and M4: yes; M3 and M5: no, with list 2,3
  pub of_m1 : every_list (small 14 14 [] [] []) ≡ 1
  pub of_m2 : every_list m2 ≡ 1  -- by the guideline alone: no yes, since 0 prefers a client of 1
  pub of_m3 : every_list m3 ≡ 0
  pub list_of_m3 : suspect_list m3 ≡ 2 ∷ 3 ∷ []
  pub of_m4 : every_list (small 10 10 [] [] []) ≡ 1  -- of equal distances either nearer: 0
  pub of_m5 : every_list (small 9 10 [] [] []) ≡ 0  -- of equal distances neither nearer: 1
  pub list_of_m5 : suspect_list (small 9 10 [] [] []) ≡ 2 ∷ 3 ∷ []
  -- the network's own list plays no part: with it M3's is stable
  pub own_list : stable_for m3 (among (3 ∷ [])) ≡ true
  pub not_own_list : every_list (small 6 6 [] (3 ∷ []) []) ≡ 0  -- yes from its own list alone: 1
  pub suspect_already : suspect_list (small 6 6 [] (2 ∷ 3 ∷ []) []) ≡ 2 ∷ 3 ∷ []
  -- a reflector with the step is in no pair
  pub step_no_pair : is_pair (small 6 6 (0 ∷ []) [] []) 0 2 ≡ false  -- pairs of reflectors with the step: true
  pub of_one_step : every_list (small 6 6 (0 ∷ []) [] []) ≡ 1  -- .. then pairs are left, and list 2,3 is stable: 2
  -- a client of the reflector's own is not foreign, also where another reflector has it too
  pub own_not_foreign : leads_to own_too 0 2 1 3 ≡ false  -- counted as foreign: true
  pub of_own_too : every_list own_too ≡ 1  -- .. then pairs are left, and list 2,3 is stable: 2
  -- no way to the other's client, or to the own one
  pub no_way_to_foreign : leads_to (small 6 6 [] [] ((3 ∷ []) ∷ [])) 0 2 1 3 ≡ false  -- a way forgotten: true
  pub of_no_way : every_list (small 6 6 [] [] ((3 ∷ []) ∷ [])) ≡ 1  -- .. then: 2
  pub no_way_to_own : is_pair (small 6 6 [] [] ((2 ∷ []) ∷ [])) 0 2 ≡ false  -- a way forgotten: true
  pub of_no_way_to_own : every_list (small 6 6 [] [] ((2 ∷ []) ∷ [])) ≡ 1
  -- no pair of two reflectors, nor of a client that the reflector is no neighbour of
  pub no_reflectors : is_pair m3 0 1 ≡ false
  pub no_stranger : is_pair m3 0 3 ≡ false
  -- M2: (1, 3) leads to none, and is taken away first; (0, 2) leads to it alone, and is taken away next
  pub first : tab (λ w. numbers_where (in_table (left_after m2 1) w) 4) 4 ≡ (2 ∷ []) ∷ [] ∷ [] ∷ [] ∷ []  -- both at once: none
  pub next : tab (λ w. numbers_where (in_table (left_after m2 2) w) 4) 4 ≡ [] ∷ [] ∷ [] ∷ [] ∷ []  -- once alone: (0, 2) is left
  -- a client with two parents: pairs are left, the list found is stable, and so is each list of clients, see `clients_alone`
  pub found_of_two : tab (found two_parents) 6 ≡ false ∷ false ∷ false ∷ true ∷ true ∷ true ∷ []
  pub found_stable : stable_for two_parents (found two_parents) ≡ true
  pub of_two_parents : every_list two_parents ≡ 2  -- undecided as yes: 1; pairs left as no: 0
  pub no_list : suspect_list two_parents ≡ []  -- a list given without being suspect: 3 4 5
  pub each_stable : all_below (λ x. stable_for two_parents (λ v. leb 3 v && bit_at x (v - 3))) 8 ≡ true
  -- two reflectors over one client are alike, and there is a list
  pub of_alike : every_list two_around_one ≡ 0
  pub list_of_alike : suspect_list two_around_one ≡ 3 ∷ 4 ∷ []
  -- two that are alike but for how they order the clients of others: undecided, though there is a suspect list
  pub of_shared_order : every_list shared_order_alone ≡ 2
  pub suspect_one : stable_for shared_order_alone (among (4 ∷ 6 ∷ 7 ∷ [])) ≡ false
  -- the nearest foreign client: a cycle of three, in which 2 prefers the clients of both others
  pub nearest_of2 : nearest_foreign cycle_with_chord 2 ≡ some 3  -- the lowest neighbour's, or the farthest: some 4
  pub list_of_three : suspect_list cycle_with_chord ≡ 3 ∷ 4 ∷ 5 ∷ []  -- the farthest foreign client: 4 5
  -- of several foreign clients; the walk comes to the cycle at its second step, and the list has the clients of the cycle alone
  pub nearest_of0 : nearest_foreign into_the_pair 0 ≡ some 6
  pub walked : tab (walk into_the_pair) 5 ≡ 0 ∷ 1 ∷ 2 ∷ 1 ∷ 2 ∷ []
  pub list_of_the_pair : suspect_list into_the_pair ≡ 4 ∷ 5 ∷ []  -- from the walk's first step: 4 5 6; all clients left: 3 4 5 6
  -- networks that the conditions hold of
  pub single : SingleParents m3
  pub shares : sharing two_around_one 0 1 ≡ true
  pub alike : Clusters two_around_one
  pub nearer_own : OwnClientsNearer (small 14 14 [] [] [])
  pub every_step : EveryReflectorSteps (small 6 6 (0 ∷ 1 ∷ []) [] [])
