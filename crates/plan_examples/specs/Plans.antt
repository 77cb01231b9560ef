-- Plans in literal bytes, for the examples of more than one crate. Nothing is claimed of them here.
use Rattle.std.specs.Prelude.{ℕ, List, [], ◌∷◌, ◌++◌, length, set}

-- Document 01, "Small plans": "Routers 0, 1 reflectors; 2, 3 clients; sessions 0-1, 0-2, 1-3; identifiers 10, 20, 30, 40." The distances
-- from each router are given, two bytes each, and the body of kind 4: m, then count and numbers of each list.
unfoldable pub four_routers : (from0 from1 from2 from3 lists : List ℕ) → List ℕ
four_routers from0 from1 from2 from3 lists =
    (82 ∷ 82 ∷ 80 ∷ 49 ∷ 4 ∷ 4  -- the letters RRP1, n, the number of contents entries
    ∷ 1 ∷ 26 ∷ 0 ∷ 20 ∷ 0  -- contents: kind, offset, length of the routers
    ∷ 2 ∷ 46 ∷ 0 ∷ 6 ∷ 0  -- .. of the sessions
    ∷ 3 ∷ 52 ∷ 0 ∷ 32 ∷ 0  -- .. of the distances
    ∷ 4 ∷ 84 ∷ 0 ∷ length lists ∷ 0  -- .. of the lists
    ∷ 1 ∷ 10 ∷ 0 ∷ 0 ∷ 0  -- router 0: role, identifier
    ∷ 1 ∷ 20 ∷ 0 ∷ 0 ∷ 0
    ∷ 2 ∷ 30 ∷ 0 ∷ 0 ∷ 0
    ∷ 2 ∷ 40 ∷ 0 ∷ 0 ∷ 0
    ∷ 0 ∷ 1 ∷ 0 ∷ 2 ∷ 1 ∷ 3  -- sessions
    ∷ [])
    ++ from0 ++ from1 ++ from2 ++ from3
    ++ lists

-- "Distances 0 to 2 and 1 to 3 are 10, p is 0 to 3, q is 1 to 2, other off-diagonal ones 30."
abbrev pub small_from0 : (p : ℕ) → List ℕ
small_from0 p = 0 ∷ 0 ∷ 30 ∷ 0 ∷ 10 ∷ 0 ∷ p ∷ 0 ∷ []

abbrev pub small_from1 : (q : ℕ) → List ℕ
small_from1 q = 30 ∷ 0 ∷ 0 ∷ 0 ∷ q ∷ 0 ∷ 10 ∷ 0 ∷ []

abbrev pub small_from2 : List ℕ
small_from2 = 30 ∷ 0 ∷ 30 ∷ 0 ∷ 0 ∷ 0 ∷ 30 ∷ 0 ∷ []

abbrev pub small_from3 : List ℕ
small_from3 = 30 ∷ 0 ∷ 30 ∷ 0 ∷ 30 ∷ 0 ∷ 0 ∷ 0 ∷ []

unfoldable pub small_plan : (p q : ℕ) (lists : List ℕ) → List ℕ
small_plan p q lists = four_routers (small_from0 p) (small_from1 q) small_from2 small_from3 lists

-- lists 0, 1 and 2 of a plan, which the cases name by their numbers: list 2,3, list 3 and list 0
abbrev pub small_lists : List ℕ
small_lists = 3 ∷ 2 ∷ 2 ∷ 3 ∷ 1 ∷ 3 ∷ 1 ∷ 0 ∷ []

-- "M3: p = q = 6"
unfoldable pub m3_plan : List ℕ
m3_plan = small_plan 6 6 small_lists

-- .. with the given roles for routers 0 and 1, in bytes 26 and 31
unfoldable pub m3_with_roles : (role₀ role₁ : ℕ) → List ℕ
m3_with_roles role₀ role₁ = set (set m3_plan 26 role₀) 31 role₁

-- .. with lists 2,3, then of nobody, then 0
unfoldable pub m3_with_nobody : List ℕ
m3_with_nobody = small_plan 6 6 (3 ∷ 2 ∷ 2 ∷ 3 ∷ 0 ∷ 1 ∷ 0 ∷ [])

-- Reflector 0, clients 1 and 2, of which 2 has a session with client 1 alone, and so no parent. The body of kind 4 is given.
abbrev pub three_with : (lists : List ℕ) → List ℕ
three_with lists =
    (82 ∷ 82 ∷ 80 ∷ 49 ∷ 3 ∷ 4
    ∷ 1 ∷ 26 ∷ 0 ∷ 15 ∷ 0
    ∷ 2 ∷ 41 ∷ 0 ∷ 4 ∷ 0
    ∷ 3 ∷ 45 ∷ 0 ∷ 18 ∷ 0
    ∷ 4 ∷ 63 ∷ 0 ∷ length lists ∷ 0
    ∷ 1 ∷ 10 ∷ 0 ∷ 0 ∷ 0
    ∷ 2 ∷ 20 ∷ 0 ∷ 0 ∷ 0
    ∷ 2 ∷ 30 ∷ 0 ∷ 0 ∷ 0
    ∷ 0 ∷ 1 ∷ 1 ∷ 2  -- sessions
    ∷ 0 ∷ 0 ∷ 5 ∷ 0 ∷ 2 ∷ 1  -- distances from 0: that to 2 is 258
    ∷ 7 ∷ 0 ∷ 0 ∷ 0 ∷ 9 ∷ 0
    ∷ 3 ∷ 0 ∷ 4 ∷ 0 ∷ 0 ∷ 0
    ∷ [])
    ++ lists

-- its lists: m, then count and numbers of lists 0 and 1
unfoldable pub three_routers : List ℕ
three_routers = three_with (2 ∷ 1 ∷ 1 ∷ 2 ∷ 1 ∷ 2 ∷ [])

-- .. and a list of nobody between the two, list 1
unfoldable pub nobody_between : List ℕ
nobody_between = three_with (3 ∷ 1 ∷ 1 ∷ 0 ∷ 2 ∷ 1 ∷ 2 ∷ [])

-- Three clients without a session, in an RRP2 plan. From 0 it is 4,294,967,294 to 1 and 65,535 to 2; from 1 there is no way to 0, and it is
-- 7 to 2; from 2 it is 70,000 to 0, which a reader of two bytes takes for 4,464, and 5,000 to 1.
unfoldable pub wide_ends : List ℕ
wide_ends =
    82 ∷ 82 ∷ 80 ∷ 50 ∷ 3 ∷ 4
    ∷ 1 ∷ 26 ∷ 0 ∷ 15 ∷ 0
    ∷ 2 ∷ 41 ∷ 0 ∷ 0 ∷ 0
    ∷ 3 ∷ 41 ∷ 0 ∷ 36 ∷ 0
    ∷ 4 ∷ 77 ∷ 0 ∷ 3 ∷ 0
    ∷ 2 ∷ 10 ∷ 0 ∷ 0 ∷ 0 ∷ 2 ∷ 20 ∷ 0 ∷ 0 ∷ 0 ∷ 2 ∷ 30 ∷ 0 ∷ 0 ∷ 0
    ∷ 0 ∷ 0 ∷ 0 ∷ 0 ∷ 254 ∷ 255 ∷ 255 ∷ 255 ∷ 255 ∷ 255 ∷ 0 ∷ 0
    ∷ 255 ∷ 255 ∷ 255 ∷ 255 ∷ 0 ∷ 0 ∷ 0 ∷ 0 ∷ 7 ∷ 0 ∷ 0 ∷ 0
    ∷ 112 ∷ 17 ∷ 1 ∷ 0 ∷ 136 ∷ 19 ∷ 0 ∷ 0 ∷ 0 ∷ 0 ∷ 0 ∷ 0
    ∷ 1 ∷ 1 ∷ 0
    ∷ []

-- The first 26 bytes of a plan of twelve routers with no session: the distances have 32 + 256 bytes, and the lists start at 118 + 256.
unfoldable pub first_of_twelve : List ℕ
first_of_twelve =
    82 ∷ 82 ∷ 80 ∷ 49 ∷ 12 ∷ 4
    ∷ 1 ∷ 26 ∷ 0 ∷ 60 ∷ 0
    ∷ 2 ∷ 86 ∷ 0 ∷ 0 ∷ 0
    ∷ 3 ∷ 86 ∷ 0 ∷ 32 ∷ 1
    ∷ 4 ∷ 118 ∷ 1 ∷ 3 ∷ 0
    ∷ []
