-- Examples that tell each figure from a misreading of it, over networks and labels given by literal lists. Beside each stands what a
-- misreading gives.
use Rattle.std.specs.Prelude.{ℕ, ◌≡◌, List, [], ◌∷◌, get_or, Some, None}
use Rattle.base.specs.Tab.{tab}
use Rattle.route_rules.specs.Instance.{Instance}
use Rattle.route_rules.specs.Examples.{network}
use Rattle.steady_rules.specs.Steady.{grouped_in}
use Rattle.steady_rules.specs.Examples.{pair}
use Rattle.net_verdict.specs.Assessed.{labels_of, cycle_of}
use Rattle.figures_rules.specs.Sums.{total, group_size, group_sizes}
use Rattle.figures_rules.specs.Figures.{stable_lists, suspect_lists, highest_stable, stable_with, grouped_lists, figures_of}

-- M3's network with each of the lists
abbrev pub pair_with : (lists : List (List ℕ)) → ℕ → Instance
pair_with lists k = pair [] (get_or lists k [])

-- list 2,3, which is suspect; lists 3, 0, nobody and 3 again, with the highest ranks 3, 2, 1 and 3
abbrev pub year : ℕ → Instance
year = pair_with ((2 ∷ 3 ∷ []) ∷ (3 ∷ []) ∷ (0 ∷ []) ∷ [] ∷ (3 ∷ []) ∷ [])

-- list 2,3 twice
abbrev pub suspects : ℕ → Instance
suspects = pair_with ((2 ∷ 3 ∷ []) ∷ (2 ∷ 3 ∷ []) ∷ [])

-- list 2,3, then every router listed, so that none relies on another
abbrev pub everyone : ℕ → Instance
everyone = pair_with ((2 ∷ 3 ∷ []) ∷ (0 ∷ 1 ∷ 2 ∷ 3 ∷ []) ∷ [])

-- Reflectors 0 to 3 in two pairs, 0 with 1 and 2 with 3, where 0 relies on 3 too: clients 4 of 2, 5 of 1 and 3, 6 of 0. With list 4,5,6
-- there are two groups of two, of which the cycle shows one; with list 4,5 that of 2 and 3 alone.
unfoldable pub two_groups : ℕ → Instance
two_groups k =
    network 7 (0 ∷ 1 ∷ 2 ∷ 3 ∷ []) [] [] (get_or ((4 ∷ 5 ∷ 6 ∷ []) ∷ (4 ∷ 5 ∷ []) ∷ []) k [])
    ((1 ∷ 3 ∷ 6 ∷ []) ∷ (0 ∷ 5 ∷ []) ∷ (3 ∷ 4 ∷ []) ∷ (0 ∷ 2 ∷ 5 ∷ []) ∷ (2 ∷ []) ∷ (1 ∷ 3 ∷ []) ∷ (0 ∷ []) ∷ [])
    ((0 ∷ 0 ∷ 0 ∷ 0 ∷ 0 ∷ 6 ∷ 10 ∷ [])
    ∷ (0 ∷ 0 ∷ 0 ∷ 0 ∷ 0 ∷ 10 ∷ 6 ∷ [])
    ∷ (0 ∷ 0 ∷ 0 ∷ 0 ∷ 10 ∷ 6 ∷ 0 ∷ [])
    ∷ (0 ∷ 0 ∷ 0 ∷ 0 ∷ 6 ∷ 10 ∷ 30 ∷ [])
    ∷ []) []

-- labels of six routers: a group of three, one of one, one of two
abbrev pub labels : ℕ → ℕ
labels w = get_or (0 ∷ 0 ∷ 2 ∷ 0 ∷ 4 ∷ 4 ∷ []) w 9

pub record FiguresExamples : Type 0 where
  -- "stable lists, suspect lists"
  pub stable : stable_lists year 5 ≡ 4  -- the suspect ones: 1; those before the last: 3
  pub suspect : suspect_lists year 5 ≡ 1  -- the stable ones: 4
  -- "the highest rank among the stable ones"
  pub highest : highest_stable year 5 ≡ Some 3  -- the lowest: Some 1; with suspect lists: Some 4
  pub not_the_last : highest_stable year 4 ≡ Some 3  -- that of the last list: Some 1
  -- "With no stable list the highest rank is reported as absent."
  pub absent : highest_stable suspects 2 ≡ None  -- 0: Some 0; from suspect lists: Some 4
  pub zero_is_a_rank : highest_stable everyone 2 ≡ Some 0  -- 0 for absent: None
  pub no_lists : highest_stable year 0 ≡ None
  -- "how many stable lists had each rank from 0 to n minus 1 as their highest"
  pub by_rank : tab (stable_with year 5) 4 ≡ 0 ∷ 1 ∷ 1 ∷ 2 ∷ []  -- that rank or a higher one: 4 4 3 2; list 0 alone: 0 0 0 0
  pub rank_zero : tab (stable_with everyone 2) 4 ≡ 1 ∷ 0 ∷ 0 ∷ 0 ∷ []
  pub none_by_rank : tab (stable_with suspects 2) 4 ≡ 0 ∷ 0 ∷ 0 ∷ 0 ∷ []  -- a cycle's length for a rank: 0 0 2 0
  pub no_suspect_rank : stable_with year 5 4 ≡ 0  -- chains of a suspect list counted as ranks: 1
  -- "it was in a group of two or more": both groups, of which the cycle shows one
  pub in_groups : tab (grouped_in (two_groups 0)) 7 ≡ 1 ∷ 1 ∷ 1 ∷ 1 ∷ 0 ∷ 0 ∷ 0 ∷ []  -- of one or more: 1 everywhere
  pub cycle_is_one : cycle_of (two_groups 0) ≡ 0 ∷ 1 ∷ []
  -- "for each router in how many lists"
  pub by_router : tab (grouped_lists two_groups 2) 7 ≡ 1 ∷ 1 ∷ 2 ∷ 2 ∷ 0 ∷ 0 ∷ 0 ∷ []  -- by cycles: 1 1 1 1 0 0 0; list 0 alone: 1 1 1 1 0 0 0
  pub of_the_pair : tab (grouped_lists year 5) 4 ≡ 1 ∷ 1 ∷ 0 ∷ 0 ∷ []  -- of the last list: 0 0 0 0
  pub in_every_list : tab (grouped_lists suspects 2) 4 ≡ 2 ∷ 2 ∷ 0 ∷ 0 ∷ []  -- in some list: 1 1 0 0
  -- "the sizes of all such groups over all lists, counted from the verdicts"
  pub labels_of_two : labels_of (two_groups 0) ≡ 0 ∷ 0 ∷ 2 ∷ 2 ∷ 4 ∷ 5 ∷ 6 ∷ []
  pub sizes : tab (group_size labels 6) 6 ≡ 3 ∷ 0 ∷ 1 ∷ 0 ∷ 2 ∷ 0 ∷ []  -- up to the router before the last: 3 0 1 0 1 0
  pub sizes_sum : group_sizes labels 6 ≡ 5  -- once a group: 2; labels that differ: 3; with groups of one: 6; above two: 3
  pub routers_sum : total (grouped_lists two_groups 2) 7 ≡ 6  -- once a group: 3
  -- what is returned, as one
  pub together : figures_of year 5 ≡ record { stable = 4; suspect = 1; highest = Some 3 }
