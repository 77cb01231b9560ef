-- Examples that tell the rules of document 02, "The plan's year in figures", from a misreading of them, in literal bytes and numbers. After
-- "Misread" stands the answer that a misreading gives.
use Rattle.std.specs.Prelude.{ℕ, List, [], ◌∷◌, set, replicate, Option, Some, None}
use Rattle.plan_examples.specs.Plans.{small_plan, m3_plan, m3_with_nobody}
use Rattle.call_figures.specs.declared.figures.FiguresAnswer.TheVariants.{Refused, Counted}
use Rattle.checker_examples.specs.Questions.{Question, figures_asked, Answer, figures_is, Example, example, Hold}
use Rattle.checker_examples.specs.WideExamples.{wide_cycle}

-- The small plans' routers with M3's distances. List 2,3 alone; twice; every router listed, after list 2,3.
abbrev pub suspect_once : List ℕ
suspect_once = small_plan 6 6 (1 ∷ 2 ∷ 2 ∷ 3 ∷ [])

abbrev pub suspect_twice : List ℕ
suspect_twice = small_plan 6 6 (2 ∷ 2 ∷ 2 ∷ 3 ∷ 2 ∷ 2 ∷ 3 ∷ [])

abbrev pub everyone_listed : List ℕ
everyone_listed = small_plan 6 6 (2 ∷ 2 ∷ 2 ∷ 3 ∷ 4 ∷ 0 ∷ 1 ∷ 2 ∷ 3 ∷ [])

-- Reflectors 0, 1, 2, where 1 has a session with each of the two others; client 3 of 0 and 2, and client 4 of 1. Each reflector is at 10
-- from its own client and at 6 from the other; every other distance is 30. With list 3,4 each of 0 and 2 relies on 1, and 1 on both; list 4
-- is stable.
unfoldable pub three_in_a_group : List ℕ
three_in_a_group =
    82 ∷ 82 ∷ 80 ∷ 49 ∷ 5 ∷ 4  -- the letters RRP1, n, the number of contents entries
    ∷ 1 ∷ 26 ∷ 0 ∷ 25 ∷ 0  -- contents: kind, offset, length of the routers
    ∷ 2 ∷ 51 ∷ 0 ∷ 10 ∷ 0  -- .. of the sessions
    ∷ 3 ∷ 61 ∷ 0 ∷ 50 ∷ 0  -- .. of the distances
    ∷ 4 ∷ 111 ∷ 0 ∷ 6 ∷ 0  -- .. of the lists
    ∷ 1 ∷ 10 ∷ 0 ∷ 0 ∷ 0 ∷ 1 ∷ 20 ∷ 0 ∷ 0 ∷ 0 ∷ 1 ∷ 30 ∷ 0 ∷ 0 ∷ 0  -- router 0: role, identifier; 1, 2
    ∷ 2 ∷ 40 ∷ 0 ∷ 0 ∷ 0 ∷ 2 ∷ 50 ∷ 0 ∷ 0 ∷ 0
    ∷ 0 ∷ 1 ∷ 0 ∷ 3 ∷ 1 ∷ 2 ∷ 1 ∷ 4 ∷ 2 ∷ 3  -- sessions
    ∷ 0 ∷ 0 ∷ 30 ∷ 0 ∷ 30 ∷ 0 ∷ 10 ∷ 0 ∷ 6 ∷ 0  -- distances from 0
    ∷ 30 ∷ 0 ∷ 0 ∷ 0 ∷ 30 ∷ 0 ∷ 6 ∷ 0 ∷ 10 ∷ 0
    ∷ 30 ∷ 0 ∷ 30 ∷ 0 ∷ 0 ∷ 0 ∷ 10 ∷ 0 ∷ 6 ∷ 0
    ∷ 30 ∷ 0 ∷ 30 ∷ 0 ∷ 30 ∷ 0 ∷ 0 ∷ 0 ∷ 30 ∷ 0
    ∷ 30 ∷ 0 ∷ 30 ∷ 0 ∷ 30 ∷ 0 ∷ 30 ∷ 0 ∷ 0 ∷ 0
    ∷ 2 ∷ 2 ∷ 3 ∷ 4 ∷ 1 ∷ 4  -- m; count and numbers of each list
    ∷ []

-- one router, a reflector, and 64 lists: the first names it, the others nobody
unfoldable pub sixty_four_lists : List ℕ
sixty_four_lists =
    82 ∷ 82 ∷ 80 ∷ 49 ∷ 1 ∷ 4
    ∷ 1 ∷ 26 ∷ 0 ∷ 5 ∷ 0
    ∷ 2 ∷ 31 ∷ 0 ∷ 0 ∷ 0
    ∷ 3 ∷ 31 ∷ 0 ∷ 2 ∷ 0
    ∷ 4 ∷ 33 ∷ 0 ∷ 66 ∷ 0
    ∷ 1 ∷ 10 ∷ 0 ∷ 0 ∷ 0
    ∷ 0 ∷ 0
    ∷ 64 ∷ 1 ∷ 0
    ∷ replicate 63 0

-- one byte more is lent in each buffer than the call needs
abbrev pub figures_of_four : Question
figures_of_four = figures_asked (9 ∷ 9 ∷ 9 ∷ 9 ∷ 9 ∷ []) (9 ∷ 9 ∷ 9 ∷ 9 ∷ 9 ∷ [])

abbrev pub counted : (stable suspect : ℕ) (highest : Option ℕ) (ranks routers : List ℕ) → Answer
counted stable suspect highest ranks routers =
    figures_is (Counted (record { stable = stable; suspect = suspect; highest = highest })) ranks routers

-- "stable lists, suspect lists, the highest rank among the stable ones": lists 2,3, suspect, and 3 and 0, with highest ranks 3 and 2.
-- Misread from list 0 alone: 0 1 absent; with a cycle's length for a rank: ranks 0 0 2 1; with bytes after n written: 0 for the last 9.
abbrev pub several_lists : Example
several_lists = example m3_plan figures_of_four (counted 2 1 (Some 3) (0 ∷ 0 ∷ 1 ∷ 1 ∷ 9 ∷ []) (1 ∷ 1 ∷ 0 ∷ 0 ∷ 9 ∷ []))

-- With a list of nobody, whose highest rank is 1. Misread with that list as no list: 1 1, ranks 0 0 1 0.
abbrev pub with_an_empty_list : Example
with_an_empty_list = example m3_with_nobody figures_of_four (counted 2 1 (Some 2) (0 ∷ 1 ∷ 1 ∷ 0 ∷ 9 ∷ []) (1 ∷ 1 ∷ 0 ∷ 0 ∷ 9 ∷ []))

-- "With no stable list the highest rank is reported as absent." Misread as 0: Some 0.
abbrev pub no_stable_list : Example
no_stable_list = example suspect_once figures_of_four (counted 0 1 None (0 ∷ 0 ∷ 0 ∷ 0 ∷ 9 ∷ []) (1 ∷ 1 ∷ 0 ∷ 0 ∷ 9 ∷ []))

-- A router in a group in every list. Misread as in some list: 1 1 0 0.
abbrev pub in_a_group_in_every_list : Example
in_a_group_in_every_list = example suspect_twice figures_of_four (counted 0 2 None (0 ∷ 0 ∷ 0 ∷ 0 ∷ 9 ∷ []) (2 ∷ 2 ∷ 0 ∷ 0 ∷ 9 ∷ []))

-- Rank 0 is a rank. Misread with 0 for absent: None.
abbrev pub highest_is_zero : Example
highest_is_zero = example everyone_listed figures_of_four (counted 1 1 (Some 0) (1 ∷ 0 ∷ 0 ∷ 0 ∷ 9 ∷ []) (1 ∷ 1 ∷ 0 ∷ 0 ∷ 9 ∷ []))

-- A group of three, of which the cycle shows two. Misread by the cycle: 1 1 0 0 0; once a group, at its label: 1 0 0 0 0.
abbrev pub group_beyond_the_cycle : Example
group_beyond_the_cycle =
    example three_in_a_group (figures_asked (replicate 6 9) (replicate 6 9))
    (counted 1 1 (Some 3) (0 ∷ 0 ∷ 0 ∷ 1 ∷ 0 ∷ 9 ∷ []) (1 ∷ 1 ∷ 1 ∷ 0 ∷ 0 ∷ 9 ∷ []))

-- 64 lists. Misread with counts from 0 to 63: 0.
abbrev pub as_many_lists_as_there_may_be : Example
as_many_lists_as_there_may_be = example sixty_four_lists (figures_asked (9 ∷ 9 ∷ []) (9 ∷ [])) (counted 64 0 (Some 0) (64 ∷ 9 ∷ []) (0 ∷ []))

-- .. of four-byte distances. Misread with two bytes each: stable.
abbrev pub figures_of_a_wide_plan : Example
figures_of_a_wide_plan = example wide_cycle figures_of_four (counted 0 1 None (0 ∷ 0 ∷ 0 ∷ 0 ∷ 9 ∷ []) (1 ∷ 1 ∷ 0 ∷ 0 ∷ 9 ∷ []))

-- "The call needs n bytes for the counts by rank and n for those by router". Misread with one long buffer enough: not refused. A
-- refused call changes no byte; misread with the counts cleared first: 0 0 0 0.
abbrev pub rank_counts_too_short : Example
rank_counts_too_short =
    example m3_plan (figures_asked (9 ∷ 9 ∷ 9 ∷ []) (9 ∷ 9 ∷ 9 ∷ 9 ∷ [])) (figures_is (Refused 9) (9 ∷ 9 ∷ 9 ∷ []) (9 ∷ 9 ∷ 9 ∷ 9 ∷ []))

abbrev pub router_counts_too_short : Example
router_counts_too_short =
    example m3_plan (figures_asked (9 ∷ 9 ∷ 9 ∷ 9 ∷ []) (9 ∷ 9 ∷ 9 ∷ [])) (figures_is (Refused 9) (9 ∷ 9 ∷ 9 ∷ 9 ∷ []) (9 ∷ 9 ∷ 9 ∷ []))

-- "the first check in order that fails now decides": the plan's rows come before 9. Misread: 9.
abbrev pub figures_of_a_broken_plan : Example
figures_of_a_broken_plan = example (set m3_plan 4 0) (figures_asked [] (9 ∷ [])) (figures_is (Refused 2) [] (9 ∷ []))

unfoldable pub figures_examples : List Example
figures_examples =
    several_lists ∷ with_an_empty_list ∷ no_stable_list ∷ in_a_group_in_every_list ∷ highest_is_zero ∷ group_beyond_the_cycle
    ∷ as_many_lists_as_there_may_be ∷ figures_of_a_wide_plan ∷ rank_counts_too_short ∷ router_counts_too_short ∷ figures_of_a_broken_plan ∷ []

-- The call gives each entry's answer.
abbrev pub FiguresExamplesHold : Type 0
FiguresExamplesHold = Hold figures_examples
