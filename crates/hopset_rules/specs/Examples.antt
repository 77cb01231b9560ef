-- Examples that tell each rule from a misreading of it, over networks given by literal lists. Beside each stands what a misreading gives.
use Rattle.std.specs.Prelude.{◌≡◌, true, false, [], ◌∷◌}
use Rattle.base.specs.Tab.{tab}
use Rattle.route_rules.specs.Instance.{Instance}
use Rattle.route_rules.specs.Reliance.{relies}
use Rattle.route_rules.specs.Examples.{among, network}
use Rattle.steady_rules.specs.Examples.{pair, m3, beside_listed, two_pairs, one_between_pairs}
use Rattle.hopset_rules.specs.HopSet.{with_step, serves, left, set_of, reflectors_in, lowest_by, least_size, hop_set}

-- reflectors 0, 1, 2 and a client of each, 3, 4, 5: a cycle 0, 1, 2, and 2 relies on 1 too
unfoldable pub cycle_with_chord : Instance
cycle_with_chord =
    network 6 (0 ∷ 1 ∷ 2 ∷ []) [] [] (3 ∷ 4 ∷ 5 ∷ [])
    ((1 ∷ 2 ∷ 3 ∷ []) ∷ (0 ∷ 2 ∷ 4 ∷ []) ∷ (0 ∷ 1 ∷ 5 ∷ []) ∷ (0 ∷ []) ∷ (1 ∷ []) ∷ (2 ∷ []) ∷ [])
    ((0 ∷ 0 ∷ 0 ∷ 10 ∷ 6 ∷ 30 ∷ []) ∷ (0 ∷ 0 ∷ 0 ∷ 30 ∷ 10 ∷ 6 ∷ []) ∷ (0 ∷ 0 ∷ 0 ∷ 6 ∷ 8 ∷ 10 ∷ []) ∷ []) []

-- reflectors 0 and 1 over client 3, and reflector 2 over client 4: each of the two and 2 rely on one another
unfoldable pub two_around_one : Instance
two_around_one =
    network 5 (0 ∷ 1 ∷ 2 ∷ []) [] [] (3 ∷ 4 ∷ [])
    ((2 ∷ 3 ∷ []) ∷ (2 ∷ 3 ∷ []) ∷ (0 ∷ 1 ∷ 4 ∷ []) ∷ (0 ∷ 1 ∷ []) ∷ (2 ∷ []) ∷ [])
    ((0 ∷ 0 ∷ 0 ∷ 10 ∷ 6 ∷ []) ∷ (0 ∷ 0 ∷ 0 ∷ 10 ∷ 6 ∷ []) ∷ (0 ∷ 0 ∷ 0 ∷ 6 ∷ 10 ∷ []) ∷ []) []

-- reflectors 0 to 4 in a row, in which neighbours rely on one another, and 2 relies on 0 and 4 too: clients 5 of 0 and 4, 6 of 1 and 3, 7 of
-- 2
unfoldable pub five_in_a_row : Instance
five_in_a_row =
    network 8 (0 ∷ 1 ∷ 2 ∷ 3 ∷ 4 ∷ []) [] [] (5 ∷ 6 ∷ 7 ∷ [])
    ((1 ∷ 2 ∷ 5 ∷ [])
    ∷ (0 ∷ 2 ∷ 6 ∷ [])
    ∷ (0 ∷ 1 ∷ 3 ∷ 4 ∷ 7 ∷ [])
    ∷ (2 ∷ 4 ∷ 6 ∷ [])
    ∷ (2 ∷ 3 ∷ 5 ∷ [])
    ∷ (0 ∷ 4 ∷ [])
    ∷ (1 ∷ 3 ∷ [])
    ∷ (2 ∷ [])
    ∷ [])
    ((0 ∷ 0 ∷ 0 ∷ 0 ∷ 0 ∷ 10 ∷ 6 ∷ 30 ∷ [])
    ∷ (0 ∷ 0 ∷ 0 ∷ 0 ∷ 0 ∷ 6 ∷ 10 ∷ 6 ∷ [])
    ∷ (0 ∷ 0 ∷ 0 ∷ 0 ∷ 0 ∷ 6 ∷ 6 ∷ 10 ∷ [])
    ∷ (0 ∷ 0 ∷ 0 ∷ 0 ∷ 0 ∷ 6 ∷ 10 ∷ 6 ∷ [])
    ∷ (0 ∷ 0 ∷ 0 ∷ 0 ∷ 0 ∷ 10 ∷ 6 ∷ 30 ∷ [])
    ∷ []) []

pub record HopSetExamples : Type 0 where
  -- "once their roles 1 and 3 become 4 and 5": its own step counts, and no other's
  pub step_taken : relies (with_step m3 (among (0 ∷ []))) 0 1 ≡ false  -- as before: true
  pub others_step : relies (with_step m3 (among (0 ∷ []))) 1 0 ≡ true  -- the step of whom it relies on: false
  -- a router of the set goes on relying on its best client and on listed reflectors
  pub on_its_client : relies (with_step m3 (among (0 ∷ []))) 0 2 ≡ true  -- on no one: false
  pub on_listed_reflector : relies (with_step beside_listed (among (0 ∷ []))) 0 4 ≡ true  -- on its best client alone: false
  pub left_of_one : tab (left beside_listed (among (0 ∷ [])) 0) 5 ≡ 0 ∷ 0 ∷ 1 ∷ 0 ∷ 1 ∷ []  -- without listed reflectors: 0 0 1 0 0
  pub left_of_another : tab (left beside_listed (among (0 ∷ [])) 1) 5 ≡ 1 ∷ 0 ∷ 0 ∷ 1 ∷ 0 ∷ []
  -- "makes the plan stable"
  pub one_serves : serves m3 (among (1 ∷ [])) ≡ true
  pub none_serves : serves m3 (among []) ≡ false  -- any set serves: true
  pub client_serves : serves m3 (among (2 ∷ [])) ≡ false  -- the step at a client: true
  -- "sets of the least size", of reflectors
  pub size_of_two : reflectors_in m3 (among (0 ∷ 1 ∷ 2 ∷ [])) ≡ 2  -- clients counted: 3
  -- "drawn from groups of two or more and given as a number in the bits of Slip 11": 2 is in none, so bit 2 is that of 3
  pub set_of_five :
      tab (set_of one_between_pairs 5) 8 ≡ true ∷ false ∷ false ∷ true ∷ false ∷ false ∷ false ∷ false ∷ []  -- bit i for router i: 0 and 2
  pub between_pairs : hop_set one_between_pairs ≡ 5  -- by the routers' own numbers: 9
  -- "a stable list gives 0"
  pub stable_list : hop_set (pair [] (3 ∷ [])) ≡ 0
  pub step_there : hop_set (pair (0 ∷ []) (2 ∷ 3 ∷ [])) ≡ 0  -- the step that is there forgotten: 1
  pub nobody_listed : hop_set (pair [] []) ≡ 0
  -- one of two
  pub one_of_two : hop_set m3 ≡ 1  -- the highest number: 2; all of a group: 3
  -- a cycle of three with a chord: 0 is in the cycle that the verdict shows, and does not serve alone
  pub with_chord : hop_set cycle_with_chord ≡ 2  -- the first router of each cycle shown: 3; the highest number: 4
  -- two groups
  pub of_two_pairs : hop_set two_pairs ≡ 3  -- one group alone: 1; the highest number: 12
  -- "a smallest set", and only then "the lowest number"
  pub around_one : hop_set two_around_one ≡ 4  -- the lowest number that serves, and the first router of each cycle shown: 3
  pub least_of_them : least_size two_around_one ≡ 1
  pub lowest_of_two : lowest_by two_around_one 2 ≡ 3
  pub none_of_none : lowest_by two_around_one 0 ≡ 8
  -- where the router with the most reliances is no help
  pub in_a_row : hop_set five_in_a_row ≡ 10  -- first the one that relies on most: 13, a set of three
