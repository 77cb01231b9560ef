-- Examples that tell each sentence of document 02, "Reflectors with the hop step", from a misreading of it, over networks given by literal
-- lists. Beside each stands what a misreading gives.
use Rattle.std.specs.Prelude.{ℕ, ◌≡◌, true, false, List, [], ◌∷◌, pos}
use Rattle.std.proofs.Math.Option.{none, some}
use Rattle.route_rules.specs.Instance.{Instance, nothing, via}
use Rattle.route_rules.specs.Preference.{prefers, better, margin_of}
use Rattle.route_rules.specs.Activation.{reflects, choose, held}
use Rattle.route_rules.specs.Reliance.{best_client, better_offer, relies}
use Rattle.route_rules.specs.Examples.{network, six_with, six, start}

-- the network of the other examples: reflectors 0, 1, 2 and clients 3, 4, 5, where the given routers have the step. From 0 it is 19 to 3,
-- 11 to 4 and 258 to 5; from 1 it is 20 to 3 and to 4, and 10 to 5; from each client 30 to every other router
abbrev pub hop_six : (hopping listed : List ℕ) → Instance
hop_six = six_with [] []

-- .. where 0 has no way to 4 and 5, and 1 none to 5
abbrev pub cut_hop : (listed : List ℕ) → Instance
cut_hop = six_with ((4 ∷ 5 ∷ []) ∷ (5 ∷ []) ∷ []) [] (0 ∷ 1 ∷ [])

-- .. where 1 has role 5
abbrev pub role5 : (listed : List ℕ) → Instance
role5 = six_with [] (1 ∷ []) (1 ∷ [])

-- Reflectors 0, 1 and a client of each, 2 and 3, nearer to the other reflector: a cycle of 0 and 1 where neither has the step. From 0 it is
-- 7 to 1, 10 to 2, 6 to 3; from 1 it is 30 to 0, 6 to 2, 10 to 3.
unfoldable pub two : (hopping listed : List ℕ) → Instance
two hopping listed =
    network 4 (0 ∷ 1 ∷ []) [] hopping listed ((1 ∷ 2 ∷ []) ∷ (0 ∷ 3 ∷ []) ∷ (0 ∷ []) ∷ (1 ∷ []) ∷ [])
    ((0 ∷ 7 ∷ 10 ∷ 6 ∷ []) ∷ (30 ∷ 0 ∷ 6 ∷ 10 ∷ []) ∷ []) []

-- reflector 0 and its clients 1 and 2, of which the one with the lower number is nearer
unfoldable pub two_clients : (hopping listed : List ℕ) → Instance
two_clients hopping listed =
    network 3 (0 ∷ []) [] hopping listed ((1 ∷ 2 ∷ []) ∷ (0 ∷ []) ∷ (0 ∷ []) ∷ []) ((0 ∷ 5 ∷ 9 ∷ []) ∷ []) []

pub record HopExamples : Type 0 where
  -- "a route told by its own egress router beats one passed on"
  pub direct_beats_nearer : prefers (hop_six (0 ∷ []) []) 0 3 true 4 false ≡ true  -- by the distance: false
  pub nearer_passed_on : prefers (hop_six (0 ∷ []) []) 0 4 false 3 true ≡ false  -- by the distance: true
  pub direct_beats_lower : prefers (hop_six (1 ∷ []) []) 1 4 true 3 false ≡ true  -- by the number: false
  -- "and only then distance and number count"
  pub both_direct : prefers (hop_six (0 ∷ []) []) 0 4 true 3 true ≡ true  -- two direct ones as the same, or by the number: false
  pub both_direct_farther : prefers (hop_six (0 ∷ []) []) 0 3 true 4 true ≡ false  -- a direct one beats every other: true
  pub both_passed_on : prefers (hop_six (0 ∷ []) []) 0 3 false 4 false ≡ false  -- by the number: true
  pub tie_of_two_direct : prefers (hop_six (1 ∷ []) []) 1 3 true 4 true ≡ true  -- a tie as no preference: false
  pub tie_of_two_passed_on : prefers (hop_six (1 ∷ []) []) 1 4 false 3 false ≡ false  -- a tie to the higher number: true
  -- "on reflectors only. Roles 4 and 5 are roles 1 and 3 with that step"
  pub role1_has_no_step : prefers (six []) 0 3 true 4 false ≡ false  -- every reflector with the step: true
  pub client_has_no_step : prefers (hop_six (5 ∷ []) []) 5 4 true 3 false ≡ false  -- a client with the step: true
  pub role5_has_the_step : prefers (role5 []) 1 4 true 3 false ≡ true  -- as role 3: false
  pub role5_skips : reflects (role5 []) 1 (via 4 4) 5 ≡ none  -- as role 4: some 4
  pub role5_to_a_reflector : reflects (role5 []) 1 (via 4 4) 0 ≡ some 4  -- to no one: none
  pub role4_does_not_skip : reflects (hop_six (1 ∷ []) []) 1 (via 4 4) 5 ≡ some 4  -- as role 5: none
  pub role4_not_from_a_third : reflects (hop_six (1 ∷ []) []) 1 (via 4 2) 0 ≡ none  -- to every neighbour: some 4
  -- "A way still beats none"
  pub way_beats_none : better (cut_hop []) 1 4 false 5 true ≡ true  -- the step before the way: false
  pub none_beats_no_way : better (cut_hop []) 1 5 true 4 false ≡ false  -- the step before the way: true
  pub neither_has_a_way : better (cut_hop []) 0 5 true 4 false ≡ false  -- by the step: true
  pub both_have_a_way : better (cut_hop []) 1 4 true 3 false ≡ true  -- by the number: false
  -- "two routes of one egress are still the same"
  pub one_egress : prefers (hop_six (0 ∷ []) []) 0 3 true 3 false ≡ false  -- the one that its egress told: true
  pub one_egress_compared : better (hop_six (0 ∷ []) []) 0 3 true 3 false ≡ false  -- .. compared: true
  -- "the margin is worked out as before"
  pub margin_as_before : margin_of (hop_six (0 ∷ []) []) 0 3 4 ≡ some (pos 8)  -- none where the step decides: none; zero there: some (pos 0)
  -- "and at such a reflector a zero may also mean that the step decided": from 1 it is 20 to 3 and to 4
  pub zero_margin : margin_of (hop_six (1 ∷ []) []) 1 4 3 ≡ some (pos 0)
  pub step_decided : better (hop_six (1 ∷ []) []) 1 4 true 3 false ≡ true  -- the numbers decide: false
  pub step_decided_against : better (hop_six (1 ∷ []) []) 1 3 false 4 true ≡ false  -- the numbers decide: true
  pub numbers_decided : better (hop_six (1 ∷ []) []) 1 3 false 4 false ≡ true  -- by the step: false
  -- an activation: 0 hears 3 from 3 itself, and 4, which is nearer, from 1 and 2
  pub direct_is_held : choose (hop_six (0 ∷ []) (3 ∷ 4 ∷ [])) 0 (held start) ≡ via 3 3  -- by the distance: via 4 1
  pub nearest_is_held : choose (six (3 ∷ 4 ∷ [])) 0 (held start) ≡ via 4 1  -- every reflector with the step: via 3 3
  pub passed_on_is_held : choose (hop_six (0 ∷ []) (4 ∷ [])) 0 (held start) ≡ via 4 1  -- passed on ones as not heard: nothing
  -- .. 0 hears 5 from 1, and 4, which is nearer, from 2
  pub nearest_passed_on :
      choose (hop_six (0 ∷ []) (4 ∷ 5 ∷ [])) 0 (held (nothing ∷ via 5 5 ∷ via 4 4 ∷ [])) ≡ via 4 2  -- the lowest sender: via 5 1
  -- .. 1 hears 4 from 4 itself and from 2, and 3, as near and of a lower number, from 0
  pub direct_and_passed_on : choose (hop_six (1 ∷ []) (3 ∷ 4 ∷ [])) 1 (held (via 3 3 ∷ nothing ∷ via 4 4 ∷ [])) ≡ via 4 4
      -- told by another too as passed on, or by the number: via 3 0
  -- .. of a listed reflector too: 0 hears 2 from 2 itself, and 4, which is nearer, from 1
  pub told_by_a_reflector : choose (hop_six (0 ∷ []) (2 ∷ 4 ∷ [])) 0 (held (nothing ∷ via 4 4 ∷ [])) ≡ via 2 2
      -- by the distance, or a reflector's own route as passed on: via 4 1
  -- .. 0 hears reflector 1 and client 2 each from itself: 7 and 10
  pub reflector_and_client : choose (two (0 ∷ []) (1 ∷ 2 ∷ [])) 0 (held []) ≡ via 1 1  -- a reflector's own route as passed on: via 2 2
  -- .. client 3 hears 5 from 5 itself, and 4, as near and of a lower number, from 0
  pub client_by_the_number : choose (hop_six (3 ∷ []) (4 ∷ 5 ∷ [])) 3 (held (via 4 1 ∷ [])) ≡ via 4 0  -- a client with the step: via 5 5
  -- "told by its own egress router", left-over entries included: 2, not listed, tells a route to itself, and 1 a nearer one to 4
  pub left_over_to_itself : choose (hop_six (0 ∷ []) (4 ∷ [])) 0 (held (nothing ∷ via 4 4 ∷ via 2 4 ∷ [])) ≡ via 2 2
      -- told by listed egress routers alone: via 4 1
  -- .. 1 tells a route to 2, which is a neighbour and tells one to 4
  pub neighbour_does_not_tell : choose (hop_six (0 ∷ []) (4 ∷ [])) 0 (held (nothing ∷ via 2 4 ∷ via 4 4 ∷ [])) ≡ via 4 2
      -- a neighbour's route as told by it: via 2 1
  -- a best client tells its own route, as the others do: from 1 it is 20 to 4 and 10 to 5
  pub nearest_client : best_client (hop_six (1 ∷ []) (4 ∷ 5 ∷ [])) 1 ≡ some 5  -- by the number: some 4
  pub nearest_and_lower : best_client (two_clients (0 ∷ []) (1 ∷ 2 ∷ [])) 0 ≡ some 1  -- the later one as told, the earlier as passed on: some 2
  -- "Rule 3 uses this order at such a reflector, for its best client against an offer": what an unlisted reflector offers is passed on
  pub cycle_of_role1 : relies (two [] (2 ∷ 3 ∷ [])) 0 1 ≡ true  -- every reflector with the step: false
  pub cycle_back : relies (two [] (2 ∷ 3 ∷ [])) 1 0 ≡ true
  pub cycle_broken : relies (two (0 ∷ []) (2 ∷ 3 ∷ [])) 0 1 ≡ false  -- by the distance: true
  pub step_of_the_relying_one : relies (two (0 ∷ []) (2 ∷ 3 ∷ [])) 1 0 ≡ true  -- by the step of who offers: false
  pub on_its_best_client : relies (two (0 ∷ []) (2 ∷ 3 ∷ [])) 0 2 ≡ true  -- on none: false
  -- .. and a listed reflector tells its own route: then distance and number count. From 0 it is 7 to 1 and 10 to 2
  pub listed_and_nearer : relies (two (0 ∷ []) (1 ∷ 2 ∷ [])) 0 1 ≡ true  -- every offer as passed on: false
  -- .. from 1 it is 30 to 0 and 10 to 3
  pub listed_and_farther : relies (two (1 ∷ []) (0 ∷ 3 ∷ [])) 1 0 ≡ false  -- the own best client as passed on: true
  -- .. "With no best client, any offer counts as better."
  pub any_offer : relies (two (0 ∷ []) (3 ∷ [])) 0 1 ≡ true  -- no passed on offer at such a reflector: false
  pub any_offer_with_a_way : better_offer (cut_hop (4 ∷ [])) 0 true (some 4) none ≡ false  -- whatever its egress tells: true
  -- .. "two routes of one egress are still the same": the offer is the own best client
  pub shared_client : better_offer (hop_six (1 ∷ []) (4 ∷ [])) 1 true (some 4) (some 4) ≡ false  -- every direct offer counts: true
