-- Examples that tell the rule of document 02, "No more than four parents", and its place among the checks from a misreading of them, in
-- literal bytes and numbers. After "Misread" stands the answer that a misreading gives.
use Rattle.std.specs.Prelude.{ℕ, List, [], ◌∷◌, ◌++◌, set, replicate}
use Rattle.checker_examples.specs.Questions.{check_asked, activate_asked, check_is, activate_is, Example, example, Hold}

-- Client 2 has a session with each of 0, 1, 3, 4 and 5, all reflectors: router 5 has the given role. Every distance is 0.
unfoldable pub around : (role : ℕ) → List ℕ
around role =
    (82 ∷ 82 ∷ 80 ∷ 49 ∷ 6 ∷ 4  -- the letters RRP1, n, the number of contents entries
    ∷ 1 ∷ 26 ∷ 0 ∷ 30 ∷ 0  -- contents: kind, offset, length of the routers
    ∷ 2 ∷ 56 ∷ 0 ∷ 10 ∷ 0  -- .. of the sessions
    ∷ 3 ∷ 66 ∷ 0 ∷ 72 ∷ 0  -- .. of the distances
    ∷ 4 ∷ 138 ∷ 0 ∷ 3 ∷ 0  -- .. of the lists
    ∷ 1 ∷ 10 ∷ 0 ∷ 0 ∷ 0 ∷ 1 ∷ 20 ∷ 0 ∷ 0 ∷ 0 ∷ 2 ∷ 30 ∷ 0 ∷ 0 ∷ 0  -- routers: role, identifier
    ∷ 1 ∷ 40 ∷ 0 ∷ 0 ∷ 0 ∷ 1 ∷ 50 ∷ 0 ∷ 0 ∷ 0 ∷ role ∷ 60 ∷ 0 ∷ 0 ∷ 0
    ∷ 0 ∷ 2 ∷ 1 ∷ 2 ∷ 2 ∷ 3 ∷ 2 ∷ 4 ∷ 2 ∷ 5  -- sessions
    ∷ [])
    ++ replicate 72 0
    ++ (1 ∷ 1 ∷ 2 ∷ [])  -- m; list 0: count, number

-- .. with the given role for router 2
unfoldable pub in_the_middle : (role : ℕ) → List ℕ
in_the_middle role = set (around 1) 36 role

-- .. with the first session 0-2 as 0-0; with the first distance, from 0 to itself, as 1; with 0 for m
unfoldable pub session_broken : List ℕ
session_broken = set (around 1) 57 0

unfoldable pub distance_broken : List ℕ
distance_broken = set (around 1) 66 1

unfoldable pub lists_broken : List ℕ
lists_broken = set (around 1) 138 0

-- "if a client has five or more". Misread as six or more: 0; by the lower or the higher numbers alone: 0.
abbrev pub five_are_refused : Example
five_are_refused = example (around 1) check_asked (check_is 13)

-- "neighbouring reflectors": role 3 is one, a client is none. Misread with role 1 alone: 0; with clients counted: 13.
abbrev pub five_with_role3 : Example
five_with_role3 = example (around 3) check_asked (check_is 13)

abbrev pub four_are_read : Example
four_are_read = example (around 2) check_asked (check_is 0)

-- "if a client has five or more": router 2 as a reflector, of role 3 and of role 1, has five such neighbours. Misread with role 3 held to
-- it too: 13; with every router: 13.
abbrev pub role3_with_five : Example
role3_with_five = example (in_the_middle 3) check_asked (check_is 0)

abbrev pub role1_with_five : Example
role1_with_five = example (in_the_middle 1) check_asked (check_is 0)

-- "after 5 and before 6". Misread with 13 before 5: 13; after 6: 6; after 7: 7.
abbrev pub five_before_thirteen : Example
five_before_thirteen = example session_broken check_asked (check_is 5)

abbrev pub thirteen_before_six : Example
thirteen_before_six = example distance_broken check_asked (check_is 13)

abbrev pub thirteen_before_seven : Example
thirteen_before_seven = example lists_broken check_asked (check_is 13)

-- "the first check in order that fails now decides, not the lowest number": the router asked for is n and the table too short. Misread by
-- the lowest number: 8.
abbrev pub thirteen_before_eight : Example
thirteen_before_eight = example (around 1) (activate_asked 0 6 (255 ∷ [])) (activate_is 13 (255 ∷ []))

unfoldable pub parents_examples : List Example
parents_examples =
    five_are_refused ∷ five_with_role3 ∷ four_are_read ∷ role3_with_five ∷ role1_with_five ∷ five_before_thirteen ∷ thirteen_before_six
    ∷ thirteen_before_seven ∷ thirteen_before_eight ∷ []

-- The calls give each entry's answer.
abbrev pub ParentsExamplesHold : Type 0
ParentsExamplesHold = Hold parents_examples
