-- Examples that tell each rule from a misreading of it, over networks given by literal lists. Beside each stands what a misreading gives.
use Rattle.std.specs.Prelude.{ℕ, ◌≡◌, true, false, List, [], ◌∷◌}
use Rattle.std.proofs.Math.Option.{none, some}
use Rattle.base.specs.Tab.{tab}
use Rattle.route_rules.specs.Instance.{Instance, Route, nothing, via}
use Rattle.route_rules.specs.Activation.{activate}
use Rattle.route_rules.specs.Examples.{among, network}
use Rattle.steady_rules.specs.Equations.{completed, stage, turn, with_choice, solves_at}
use Rattle.steady_rules.specs.OwnRoutes.{own_bit, keeps_own, told}
use Rattle.steady_rules.specs.Steady.{bit_equations, grouped_in, bit_of, steady_numbers, steady_count, built_numbers}

-- M3's network: reflectors 0 and 1, and a client of each, 2 and 3, nearer to the other reflector; with any list, and any routers with the
-- hop step
unfoldable pub pair : (hopping listed : List ℕ) → Instance
pair hopping listed =
    network 4 (0 ∷ 1 ∷ []) [] hopping listed
    ((1 ∷ 2 ∷ []) ∷ (0 ∷ 3 ∷ []) ∷ (0 ∷ []) ∷ (1 ∷ []) ∷ [])
    ((0 ∷ 30 ∷ 10 ∷ 6 ∷ []) ∷ (30 ∷ 0 ∷ 6 ∷ 10 ∷ []) ∷ []) []

abbrev pub m3 : Instance
m3 = pair [] (2 ∷ 3 ∷ [])

-- reflectors 0, 1, 2 and a client of each, 3, 4, 5: each prefers the next one's client to its own, and its own to the third's
unfoldable pub three_in_a_cycle : Instance
three_in_a_cycle =
    network 6 (0 ∷ 1 ∷ 2 ∷ []) [] [] (3 ∷ 4 ∷ 5 ∷ [])
    ((1 ∷ 2 ∷ 3 ∷ []) ∷ (0 ∷ 2 ∷ 4 ∷ []) ∷ (0 ∷ 1 ∷ 5 ∷ []) ∷ (0 ∷ []) ∷ (1 ∷ []) ∷ (2 ∷ []) ∷ [])
    ((0 ∷ 0 ∷ 0 ∷ 10 ∷ 6 ∷ 30 ∷ []) ∷ (0 ∷ 0 ∷ 0 ∷ 30 ∷ 10 ∷ 6 ∷ []) ∷ (0 ∷ 0 ∷ 0 ∷ 6 ∷ 30 ∷ 10 ∷ []) ∷ []) []

-- M3's, and a listed reflector 4 that 0 neighbours, and prefers to its own client
unfoldable pub beside_listed : Instance
beside_listed =
    network 5 (0 ∷ 1 ∷ 4 ∷ []) [] [] (2 ∷ 3 ∷ 4 ∷ [])
    ((1 ∷ 2 ∷ 4 ∷ []) ∷ (0 ∷ 3 ∷ []) ∷ (0 ∷ []) ∷ (1 ∷ []) ∷ (0 ∷ []) ∷ [])
    ((0 ∷ 30 ∷ 10 ∷ 6 ∷ 8 ∷ []) ∷ (30 ∷ 0 ∷ 6 ∷ 10 ∷ 30 ∷ []) ∷ []) []

-- two pairs as M3's, 0 with 2 and 1 with 3, over two clients, 4 of 0 and 1, 5 of 2 and 3
unfoldable pub two_pairs : Instance
two_pairs =
    network 6 (0 ∷ 1 ∷ 2 ∷ 3 ∷ []) [] [] (4 ∷ 5 ∷ [])
    ((2 ∷ 4 ∷ []) ∷ (3 ∷ 4 ∷ []) ∷ (0 ∷ 5 ∷ []) ∷ (1 ∷ 5 ∷ []) ∷ (0 ∷ 1 ∷ []) ∷ (2 ∷ 3 ∷ []) ∷ [])
    ((0 ∷ 0 ∷ 0 ∷ 0 ∷ 10 ∷ 6 ∷ []) ∷ (0 ∷ 0 ∷ 0 ∷ 0 ∷ 10 ∷ 6 ∷ []) ∷ (0 ∷ 0 ∷ 0 ∷ 0 ∷ 6 ∷ 10 ∷ []) ∷ (0 ∷ 0 ∷ 0 ∷ 0 ∷ 6 ∷ 10 ∷ []) ∷ []) []

-- two pairs, 0 with 1 and 2 with 3, where 0 relies on 3 too: clients 4 of 2, 5 of 1 and 3, 6 of 0
unfoldable pub one_pair_on_another : Instance
one_pair_on_another =
    network 7 (0 ∷ 1 ∷ 2 ∷ 3 ∷ []) [] [] (4 ∷ 5 ∷ 6 ∷ [])
    ((1 ∷ 3 ∷ 6 ∷ []) ∷ (0 ∷ 5 ∷ []) ∷ (3 ∷ 4 ∷ []) ∷ (0 ∷ 2 ∷ 5 ∷ []) ∷ (2 ∷ []) ∷ (1 ∷ 3 ∷ []) ∷ (0 ∷ []) ∷ [])
    ((0 ∷ 0 ∷ 0 ∷ 0 ∷ 0 ∷ 6 ∷ 10 ∷ [])
    ∷ (0 ∷ 0 ∷ 0 ∷ 0 ∷ 0 ∷ 10 ∷ 6 ∷ [])
    ∷ (0 ∷ 0 ∷ 0 ∷ 0 ∷ 10 ∷ 6 ∷ 0 ∷ [])
    ∷ (0 ∷ 0 ∷ 0 ∷ 0 ∷ 6 ∷ 10 ∷ 30 ∷ [])
    ∷ []) []

-- two pairs, 0 with 1 and 3 with 4, and reflector 2 between them, which relies on 3 and on which 0 relies: clients 5 of 0 and 4, 6 of 1 and
-- 3, 7 of 2
unfoldable pub one_between_pairs : Instance
one_between_pairs =
    network 8 (0 ∷ 1 ∷ 2 ∷ 3 ∷ 4 ∷ []) [] [] (5 ∷ 6 ∷ 7 ∷ [])
    ((1 ∷ 2 ∷ 5 ∷ []) ∷ (0 ∷ 6 ∷ []) ∷ (0 ∷ 3 ∷ 7 ∷ []) ∷ (2 ∷ 4 ∷ 6 ∷ []) ∷ (3 ∷ 5 ∷ []) ∷ (0 ∷ 4 ∷ []) ∷ (1 ∷ 3 ∷ []) ∷ (2 ∷ []) ∷ [])
    ((0 ∷ 0 ∷ 0 ∷ 0 ∷ 0 ∷ 10 ∷ 6 ∷ 8 ∷ [])
    ∷ (0 ∷ 0 ∷ 0 ∷ 0 ∷ 0 ∷ 6 ∷ 10 ∷ 0 ∷ [])
    ∷ (0 ∷ 0 ∷ 0 ∷ 0 ∷ 0 ∷ 30 ∷ 6 ∷ 10 ∷ [])
    ∷ (0 ∷ 0 ∷ 0 ∷ 0 ∷ 0 ∷ 6 ∷ 10 ∷ 30 ∷ [])
    ∷ (0 ∷ 0 ∷ 0 ∷ 0 ∷ 0 ∷ 10 ∷ 6 ∷ 0 ∷ [])
    ∷ []) []

-- M3's, and an unlisted client 4 of both reflectors
unfoldable pub shared_client : Instance
shared_client =
    network 5 (0 ∷ 1 ∷ []) [] [] (2 ∷ 3 ∷ [])
    ((1 ∷ 2 ∷ 4 ∷ []) ∷ (0 ∷ 3 ∷ 4 ∷ []) ∷ (0 ∷ []) ∷ (1 ∷ []) ∷ (0 ∷ 1 ∷ []) ∷ [])
    ((0 ∷ 30 ∷ 10 ∷ 6 ∷ []) ∷ (30 ∷ 0 ∷ 6 ∷ 10 ∷ []) ∷ []) []

-- its tables where 0 holds its own client's route, and 4 the given one
unfoldable pub own_at0 : Route → List Route
own_at0 x = via 2 2 ∷ via 2 0 ∷ via 2 2 ∷ via 3 3 ∷ x ∷ []

-- what each router's act leaves of a table
abbrev pub acts : Instance → List Route → List (List Route)
acts I t = tab (λ w. activate I w t) I.n

pub record SteadyExamples : Type 0 where
  -- "hold their best client's own route"
  pub own_route : own_bit m3 0 (via 2 2) ≡ true
  pub through_another : own_bit m3 0 (via 2 1) ≡ false  -- by the egress alone: true
  pub from_its_client : own_bit m3 0 (via 3 2) ≡ false  -- by the sender alone: true
  pub anothers_client : own_bit m3 0 (via 3 3) ≡ false  -- any client's own route: true
  pub listed_client : own_bit m3 2 (via 2 2) ≡ false  -- any router's own route: true
  pub no_best_client : own_bit (pair [] (3 ∷ [])) 0 (via 2 2) ≡ false  -- any neighbouring client's: true
  -- a reflector that is relied on overrules exactly if it tells a route
  pub nobody_tells : keeps_own m3 (among []) 0 ≡ true  -- whoever is relied on overrules: false
  pub other_tells : keeps_own m3 (among (1 ∷ [])) 0 ≡ false  -- the best client always kept: true
  pub itself_tells : keeps_own m3 (among (0 ∷ [])) 0 ≡ true  -- every reflector that tells overrules: false
  pub client_is_no_reflector : keeps_own m3 (among (2 ∷ [])) 0 ≡ true  -- the best client relied on overrules: false
  pub listed_reflector_tells : keeps_own beside_listed (among []) 0 ≡ false  -- listed reflectors forgotten: true
  pub without_a_client : keeps_own (pair [] (3 ∷ [])) (among []) 0 ≡ false  -- no best client asked for: true
  pub listed_keeps_none : keeps_own (pair [] (0 ∷ 2 ∷ [])) (among []) 0 ≡ false  -- as an unlisted one: true
  pub client_keeps_none : keeps_own shared_client (among []) 4 ≡ false
  pub with_the_step : keeps_own (pair (0 ∷ []) (2 ∷ 3 ∷ [])) (among (1 ∷ [])) 0 ≡ true  -- the step forgotten: false
  -- what is told to reflectors
  pub listed_tells_itself : told beside_listed (among []) 4 ≡ some 4  -- by its bit: none
  pub set_tells_its_client : told m3 (among (0 ∷ [])) 0 ≡ some 2
  pub unset_tells_nothing : told m3 (among (1 ∷ [])) 0 ≡ none  -- whatever it holds: some 3
  -- "the routers in groups of two or more", "bit i .. is the i-th such router, lowest first": 2 is in none, so bit 2 is that of 3
  pub in_groups : tab (grouped_in one_between_pairs) 8 ≡ 1 ∷ 1 ∷ 0 ∷ 1 ∷ 1 ∷ 0 ∷ 0 ∷ 0 ∷ []  -- of one or more: 1 everywhere
  pub bit_of3 : bit_of one_between_pairs 3 ≡ 2  -- its number: 3; highest first: 1
  -- "M3's plan gives 1 and 2"
  pub two : steady_numbers m3 ≡ 1 ∷ 2 ∷ []  -- the first found alone: 1
  pub count_of_two : steady_count m3 ≡ 2
  -- none: each of three prefers the next one's client
  pub no_table : steady_numbers three_in_a_cycle ≡ []
  -- one: a listed reflector decides
  pub one_table : steady_numbers beside_listed ≡ 2 ∷ []  -- listed reflectors forgotten: 1 2; highest first: 1
  -- four: two pairs
  pub four_tables : steady_numbers two_pairs ≡ 3 ∷ 6 ∷ 9 ∷ 12 ∷ []  -- by groups, not sorted: 3 9 6 12
  pub four_built : built_numbers two_pairs ≡ 3 ∷ 9 ∷ 6 ∷ 12 ∷ []
  -- groups that rely on one another: that of 2 and 3 is worked out first
  pub on_another : steady_numbers one_pair_on_another ≡ 5 ∷ 6 ∷ 10 ∷ []  -- each group by itself: 5 6 9 10
  pub on_another_built : built_numbers one_pair_on_another ≡ 5 ∷ 6 ∷ 10 ∷ []  -- by labels alone: 5 9 6 10
  pub stages : tab (stage (bit_equations one_pair_on_another)) 7 ≡ 7 ∷ 7 ∷ 4 ∷ 4 ∷ 1 ∷ 1 ∷ 1 ∷ []  -- without the router itself: 7 7 4 4 0 0 0
  pub turns : tab (turn (bit_equations one_pair_on_another)) 7 ≡ 49 ∷ 49 ∷ 30 ∷ 30 ∷ 11 ∷ 12 ∷ 13 ∷ []
  -- a router outside such groups, between two of them: its bit is not in the number
  pub between :
      steady_numbers one_between_pairs
      ≡ 5 ∷ 6 ∷ 10 ∷ []  -- with a bit of its own: 9 10 22; as never set: 5 6 9 10; by a bit of the number: none
  pub between_built : built_numbers one_between_pairs ≡ 5 ∷ 6 ∷ 10 ∷ []
  -- .. and follows from the others: where 3 holds its own client's route, 2 does not, and else it does
  pub carried_unset :
      tab (completed (bit_equations one_between_pairs) 5) 8 ≡ true ∷ false ∷ false ∷ true ∷ false ∷ false ∷ false ∷ false ∷ []
  pub carried_set :
      tab (completed (bit_equations one_between_pairs) 10) 8 ≡ false ∷ true ∷ true ∷ false ∷ true ∷ false ∷ false ∷ false ∷ []
  -- a choice of the group at turn 30, routers 2 and 3: bit 0 of the choice is the lower of them; and which choices are steady
  pub choice_of_two :
      tab (with_choice (turn (bit_equations one_pair_on_another)) 30 1 (among (0 ∷ 3 ∷ []))) 5
      ≡ true ∷ false ∷ true ∷ false ∷ false ∷ []  -- the higher first: true false false true false
  pub steady_choice : solves_at (bit_equations one_pair_on_another) (turn (bit_equations one_pair_on_another)) 30 (among (2 ∷ [])) ≡ true
  pub no_steady_choice : solves_at (bit_equations one_pair_on_another) (turn (bit_equations one_pair_on_another)) 30 (among (2 ∷ 3 ∷ [])) ≡ false
  -- "A stable list gives 0 alone": also where reflectors outside such groups hold their best client's own route
  pub stable_list : steady_numbers (pair [] (3 ∷ [])) ≡ 0 ∷ []  -- with bits of every reflector: 2
  pub step_makes_stable : steady_numbers (pair (0 ∷ []) (2 ∷ 3 ∷ [])) ≡ 0 ∷ []
  pub nobody_listed : steady_numbers (pair [] []) ≡ 0 ∷ []
  -- "that no act changes": that of a client neither
  pub steady_table : acts shared_client (own_at0 (via 2 0)) ≡ tab (λ w. own_at0 (via 2 0)) 5
  pub client_changes : activate shared_client 4 (own_at0 nothing) ≡ own_at0 (via 2 0)  -- acts of reflectors alone: own_at0 nothing
  pub client_is_in_no_group : steady_numbers shared_client ≡ 1 ∷ 2 ∷ []
