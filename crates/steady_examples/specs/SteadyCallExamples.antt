-- Examples that tell the rules of document 02, "Which steady tables a suspect plan has", from a misreading of them, in literal bytes and
-- numbers. After "Misread" stands the answer that a misreading gives.
use Rattle.std.specs.Prelude.{ℕ, false, List, [], ◌∷◌, ◌++◌, set, replicate}
use Rattle.plan_examples.specs.Plans.{m3_plan, m3_with_roles, m3_with_nobody}
use Rattle.call_steady.specs.declared.steady.SteadyAnswer.TheVariants.{Refused, Listed}
use Rattle.checker_examples.specs.Questions.{steady_asked, run_asked, steady_is, run_is, Example, example, Hold}
use Rattle.checker_examples.specs.ParentsExamples.{around}
use Rattle.checker_examples.specs.WideExamples.{wide_cycle}

-- Reflectors 0, 1, 2, in sessions with one another, and a client of each, 3, 4, 5. Each is nearer to the next one's client, at 6, than to
-- its own, at 10, and farther from the third's, at 30. The list is 3,4,5.
unfoldable pub three_in_turn : List ℕ
three_in_turn =
    (82 ∷ 82 ∷ 80 ∷ 49 ∷ 6 ∷ 4  -- the letters RRP1, n, the number of contents entries
    ∷ 1 ∷ 26 ∷ 0 ∷ 30 ∷ 0  -- contents: kind, offset, length of the routers
    ∷ 2 ∷ 56 ∷ 0 ∷ 12 ∷ 0  -- .. of the sessions
    ∷ 3 ∷ 68 ∷ 0 ∷ 72 ∷ 0  -- .. of the distances
    ∷ 4 ∷ 140 ∷ 0 ∷ 5 ∷ 0  -- .. of the lists
    ∷ 1 ∷ 10 ∷ 0 ∷ 0 ∷ 0 ∷ 1 ∷ 20 ∷ 0 ∷ 0 ∷ 0 ∷ 1 ∷ 30 ∷ 0 ∷ 0 ∷ 0  -- routers: role, identifier
    ∷ 2 ∷ 40 ∷ 0 ∷ 0 ∷ 0 ∷ 2 ∷ 50 ∷ 0 ∷ 0 ∷ 0 ∷ 2 ∷ 60 ∷ 0 ∷ 0 ∷ 0
    ∷ 0 ∷ 1 ∷ 0 ∷ 2 ∷ 0 ∷ 3 ∷ 1 ∷ 2 ∷ 1 ∷ 4 ∷ 2 ∷ 5  -- sessions
    ∷ 0 ∷ 0 ∷ 30 ∷ 0 ∷ 30 ∷ 0 ∷ 10 ∷ 0 ∷ 6 ∷ 0 ∷ 30 ∷ 0  -- distances from 0
    ∷ 30 ∷ 0 ∷ 0 ∷ 0 ∷ 30 ∷ 0 ∷ 30 ∷ 0 ∷ 10 ∷ 0 ∷ 6 ∷ 0
    ∷ 30 ∷ 0 ∷ 30 ∷ 0 ∷ 0 ∷ 0 ∷ 6 ∷ 0 ∷ 30 ∷ 0 ∷ 10 ∷ 0
    ∷ [])
    ++ replicate 36 0  -- .. from the clients
    ++ (1 ∷ 3 ∷ 3 ∷ 4 ∷ 5 ∷ [])  -- m; count and numbers of the list

-- Two pairs of reflectors, 0 with 1 and 3 with 4, and reflector 2 between them, in sessions with 0 and 3; client 5 of 0 and 4, client 6 of 1
-- and 3, client 7 of 2. In each pair one is nearer to the other's client, at 6, than to its own, at 10. From 0 and from 3 it is 8 to 2; from
-- 0 it is 8 to 7; from 2 it is 6 to 6 and 10 to 7. The lists are 5,6,7 and 5,6 and 2,5,6 and 5.
unfoldable pub pairs_and_one : List ℕ
pairs_and_one =
    (82 ∷ 82 ∷ 80 ∷ 49 ∷ 8 ∷ 4
    ∷ 1 ∷ 26 ∷ 0 ∷ 40 ∷ 0
    ∷ 2 ∷ 66 ∷ 0 ∷ 18 ∷ 0
    ∷ 3 ∷ 84 ∷ 0 ∷ 128 ∷ 0
    ∷ 4 ∷ 212 ∷ 0 ∷ 14 ∷ 0
    ∷ 1 ∷ 10 ∷ 0 ∷ 0 ∷ 0 ∷ 1 ∷ 20 ∷ 0 ∷ 0 ∷ 0 ∷ 1 ∷ 30 ∷ 0 ∷ 0 ∷ 0 ∷ 1 ∷ 40 ∷ 0 ∷ 0 ∷ 0 ∷ 1 ∷ 50 ∷ 0 ∷ 0 ∷ 0
    ∷ 2 ∷ 60 ∷ 0 ∷ 0 ∷ 0 ∷ 2 ∷ 70 ∷ 0 ∷ 0 ∷ 0 ∷ 2 ∷ 80 ∷ 0 ∷ 0 ∷ 0
    ∷ 0 ∷ 1 ∷ 0 ∷ 2 ∷ 0 ∷ 5 ∷ 1 ∷ 6 ∷ 2 ∷ 3 ∷ 2 ∷ 7 ∷ 3 ∷ 4 ∷ 3 ∷ 6 ∷ 4 ∷ 5  -- sessions
    ∷ 0 ∷ 0 ∷ 30 ∷ 0 ∷ 8 ∷ 0 ∷ 30 ∷ 0 ∷ 30 ∷ 0 ∷ 10 ∷ 0 ∷ 6 ∷ 0 ∷ 8 ∷ 0  -- distances from 0
    ∷ 30 ∷ 0 ∷ 0 ∷ 0 ∷ 30 ∷ 0 ∷ 30 ∷ 0 ∷ 30 ∷ 0 ∷ 6 ∷ 0 ∷ 10 ∷ 0 ∷ 30 ∷ 0
    ∷ 30 ∷ 0 ∷ 30 ∷ 0 ∷ 0 ∷ 0 ∷ 30 ∷ 0 ∷ 30 ∷ 0 ∷ 30 ∷ 0 ∷ 6 ∷ 0 ∷ 10 ∷ 0
    ∷ 30 ∷ 0 ∷ 30 ∷ 0 ∷ 8 ∷ 0 ∷ 0 ∷ 0 ∷ 30 ∷ 0 ∷ 6 ∷ 0 ∷ 10 ∷ 0 ∷ 30 ∷ 0
    ∷ 30 ∷ 0 ∷ 30 ∷ 0 ∷ 30 ∷ 0 ∷ 30 ∷ 0 ∷ 0 ∷ 0 ∷ 10 ∷ 0 ∷ 6 ∷ 0 ∷ 30 ∷ 0
    ∷ [])
    ++ replicate 48 0
    ++ (4 ∷ 3 ∷ 5 ∷ 6 ∷ 7 ∷ 2 ∷ 5 ∷ 6 ∷ 3 ∷ 2 ∷ 5 ∷ 6 ∷ 1 ∷ 5 ∷ [])

-- Two pairs of reflectors, 0 with 1 and 2 with 3; client 4 of 2, client 5 of 1 and 3, client 6 of 0. In each pair one is nearer to the
-- other's client, at 6, than to its own, at 10. 0 has a session with 3 too, whose best client is 5, so that it relies on 3. The list is
-- 4,5,6.
unfoldable pub pair_on_pair : List ℕ
pair_on_pair =
    (82 ∷ 82 ∷ 80 ∷ 49 ∷ 7 ∷ 4
    ∷ 1 ∷ 26 ∷ 0 ∷ 35 ∷ 0
    ∷ 2 ∷ 61 ∷ 0 ∷ 14 ∷ 0
    ∷ 3 ∷ 75 ∷ 0 ∷ 98 ∷ 0
    ∷ 4 ∷ 173 ∷ 0 ∷ 5 ∷ 0
    ∷ 1 ∷ 10 ∷ 0 ∷ 0 ∷ 0 ∷ 1 ∷ 20 ∷ 0 ∷ 0 ∷ 0 ∷ 1 ∷ 30 ∷ 0 ∷ 0 ∷ 0 ∷ 1 ∷ 40 ∷ 0 ∷ 0 ∷ 0
    ∷ 2 ∷ 50 ∷ 0 ∷ 0 ∷ 0 ∷ 2 ∷ 60 ∷ 0 ∷ 0 ∷ 0 ∷ 2 ∷ 70 ∷ 0 ∷ 0 ∷ 0
    ∷ 0 ∷ 1 ∷ 0 ∷ 3 ∷ 0 ∷ 6 ∷ 1 ∷ 5 ∷ 2 ∷ 3 ∷ 2 ∷ 4 ∷ 3 ∷ 5  -- sessions
    ∷ 0 ∷ 0 ∷ 30 ∷ 0 ∷ 30 ∷ 0 ∷ 30 ∷ 0 ∷ 30 ∷ 0 ∷ 6 ∷ 0 ∷ 10 ∷ 0  -- distances from 0
    ∷ 30 ∷ 0 ∷ 0 ∷ 0 ∷ 30 ∷ 0 ∷ 30 ∷ 0 ∷ 30 ∷ 0 ∷ 10 ∷ 0 ∷ 6 ∷ 0
    ∷ 30 ∷ 0 ∷ 30 ∷ 0 ∷ 0 ∷ 0 ∷ 30 ∷ 0 ∷ 10 ∷ 0 ∷ 6 ∷ 0 ∷ 30 ∷ 0
    ∷ 30 ∷ 0 ∷ 30 ∷ 0 ∷ 30 ∷ 0 ∷ 0 ∷ 0 ∷ 6 ∷ 0 ∷ 10 ∷ 0 ∷ 30 ∷ 0
    ∷ [])
    ++ replicate 42 0
    ++ (1 ∷ 3 ∷ 4 ∷ 5 ∷ 6 ∷ [])

-- the distances from a reflector of `thirteen_in_a_row`: 0 to the reflectors, and those to the four clients
abbrev pub to_clients : (a b c d : ℕ) → List ℕ
to_clients a b c d = replicate 26 0 ++ (a ∷ 0 ∷ b ∷ 0 ∷ c ∷ 0 ∷ d ∷ 0 ∷ [])

-- .. from four reflectors, one of each client
abbrev pub four_of_them : List ℕ
four_of_them = to_clients 10 6 6 6 ++ to_clients 6 10 6 6 ++ to_clients 6 6 10 6 ++ to_clients 6 6 6 10

-- Thirteen reflectors, each in a session with the next, and clients 13, 14, 15, 16, which they have in turn. Each is nearer to every other
-- client, at 6, than to its own, at 10: all are one group. The list is 13,14,15,16.
unfoldable pub thirteen_in_a_row : List ℕ
thirteen_in_a_row =
    (82 ∷ 82 ∷ 80 ∷ 49 ∷ 17 ∷ 4
    ∷ 1 ∷ 26 ∷ 0 ∷ 85 ∷ 0
    ∷ 2 ∷ 111 ∷ 0 ∷ 50 ∷ 0
    ∷ 3 ∷ 161 ∷ 0 ∷ 66 ∷ 2
    ∷ 4 ∷ 227 ∷ 2 ∷ 6 ∷ 0
    ∷ 1 ∷ 1 ∷ 0 ∷ 0 ∷ 0 ∷ 1 ∷ 2 ∷ 0 ∷ 0 ∷ 0 ∷ 1 ∷ 3 ∷ 0 ∷ 0 ∷ 0 ∷ 1 ∷ 4 ∷ 0 ∷ 0 ∷ 0 ∷ 1 ∷ 5 ∷ 0 ∷ 0 ∷ 0
    ∷ 1 ∷ 6 ∷ 0 ∷ 0 ∷ 0 ∷ 1 ∷ 7 ∷ 0 ∷ 0 ∷ 0 ∷ 1 ∷ 8 ∷ 0 ∷ 0 ∷ 0 ∷ 1 ∷ 9 ∷ 0 ∷ 0 ∷ 0 ∷ 1 ∷ 10 ∷ 0 ∷ 0 ∷ 0
    ∷ 1 ∷ 11 ∷ 0 ∷ 0 ∷ 0 ∷ 1 ∷ 12 ∷ 0 ∷ 0 ∷ 0 ∷ 1 ∷ 13 ∷ 0 ∷ 0 ∷ 0
    ∷ 2 ∷ 14 ∷ 0 ∷ 0 ∷ 0 ∷ 2 ∷ 15 ∷ 0 ∷ 0 ∷ 0 ∷ 2 ∷ 16 ∷ 0 ∷ 0 ∷ 0 ∷ 2 ∷ 17 ∷ 0 ∷ 0 ∷ 0
    ∷ 0 ∷ 1 ∷ 0 ∷ 13 ∷ 1 ∷ 2 ∷ 1 ∷ 14 ∷ 2 ∷ 3 ∷ 2 ∷ 15 ∷ 3 ∷ 4 ∷ 3 ∷ 16  -- sessions
    ∷ 4 ∷ 5 ∷ 4 ∷ 13 ∷ 5 ∷ 6 ∷ 5 ∷ 14 ∷ 6 ∷ 7 ∷ 6 ∷ 15 ∷ 7 ∷ 8 ∷ 7 ∷ 16
    ∷ 8 ∷ 9 ∷ 8 ∷ 13 ∷ 9 ∷ 10 ∷ 9 ∷ 14 ∷ 10 ∷ 11 ∷ 10 ∷ 15 ∷ 11 ∷ 12 ∷ 11 ∷ 16
    ∷ 12 ∷ 13
    ∷ [])
    ++ four_of_them ++ four_of_them ++ four_of_them ++ to_clients 10 6 6 6
    ++ replicate 136 0
    ++ (1 ∷ 4 ∷ 13 ∷ 14 ∷ 15 ∷ 16 ∷ [])

-- .. with role 4 for router 12, in byte 86, which has a group of its own then
unfoldable pub twelve_in_a_row : List ℕ
twelve_in_a_row = set thirteen_in_a_row 86 4

-- "M3's plan gives 1 and 2", "two bytes for each number listed, low byte first, and leaves the rest untouched". Misread with the first found
-- alone: Listed 1, 1 0; the high byte first: 0 1 0 2; a byte a number: 1 2.
abbrev pub one_and_two : Example
one_and_two = example m3_plan (steady_asked 0 (9 ∷ 9 ∷ 9 ∷ 9 ∷ 9 ∷ [])) (steady_is (Listed 2) (1 ∷ 0 ∷ 2 ∷ 0 ∷ 9 ∷ []))

-- .. with a reflector of role 3, and of four-byte distances. Misread with the hop step at role 3: 0 alone; by the low two bytes: 0 alone.
abbrev pub one_and_two_with_role3 : Example
one_and_two_with_role3 = example (m3_with_roles 1 3) (steady_asked 0 (9 ∷ 9 ∷ 9 ∷ 9 ∷ [])) (steady_is (Listed 2) (1 ∷ 0 ∷ 2 ∷ 0 ∷ []))

abbrev pub wide_one_and_two : Example
wide_one_and_two = example wide_cycle (steady_asked 0 (9 ∷ 9 ∷ 9 ∷ 9 ∷ [])) (steady_is (Listed 2) (1 ∷ 0 ∷ 2 ∷ 0 ∷ []))

-- The tables of the two: "no act changes" what M8's acts leave, in which 0 holds its client's own route, and what M9's leave, in which 1
-- does.
abbrev pub table_of_one : Example
table_of_one =
    example m3_plan (run_asked 0 (3 ∷ 2 ∷ 1 ∷ 0 ∷ []) 4 (2 ∷ 2 ∷ 2 ∷ 0 ∷ 2 ∷ 2 ∷ 3 ∷ 3 ∷ []))
    (run_is 0 4 1 false (2 ∷ 2 ∷ 2 ∷ 0 ∷ 2 ∷ 2 ∷ 3 ∷ 3 ∷ []))

abbrev pub table_of_two : Example
table_of_two =
    example m3_plan (run_asked 0 (3 ∷ 2 ∷ 1 ∷ 0 ∷ []) 4 (3 ∷ 1 ∷ 3 ∷ 3 ∷ 2 ∷ 2 ∷ 3 ∷ 3 ∷ []))
    (run_is 0 4 1 false (3 ∷ 1 ∷ 3 ∷ 3 ∷ 2 ∷ 2 ∷ 3 ∷ 3 ∷ []))

-- "A stable list gives 0 alone": list 3, list 0, a list of nobody, and list 2,3 where a reflector has the hop step. Misread as no table to
-- list: Listed 0; with bits of every reflector: 2 0 of list 3, and 1 0 where 0 has the step.
abbrev pub zero_for_a_client : Example
zero_for_a_client = example m3_plan (steady_asked 1 (9 ∷ 9 ∷ 9 ∷ [])) (steady_is (Listed 1) (0 ∷ 0 ∷ 9 ∷ []))

abbrev pub zero_for_a_reflector : Example
zero_for_a_reflector = example m3_plan (steady_asked 2 (9 ∷ 9 ∷ 9 ∷ [])) (steady_is (Listed 1) (0 ∷ 0 ∷ 9 ∷ []))

abbrev pub zero_for_nobody : Example
zero_for_nobody = example m3_with_nobody (steady_asked 1 (9 ∷ 9 ∷ 9 ∷ [])) (steady_is (Listed 1) (0 ∷ 0 ∷ 9 ∷ []))

abbrev pub zero_with_the_step : Example
zero_with_the_step = example (m3_with_roles 4 1) (steady_asked 0 (9 ∷ 9 ∷ 9 ∷ [])) (steady_is (Listed 1) (0 ∷ 0 ∷ 9 ∷ []))

-- "A suspect plan may rest in one table, several, or none.": none, with bytes lent and without. Misread as 0 alone: Listed 1, 0 0 9, and 9
-- without bytes.
abbrev pub no_table : Example
no_table = example three_in_turn (steady_asked 0 (9 ∷ 9 ∷ 9 ∷ [])) (steady_is (Listed 0) (9 ∷ 9 ∷ 9 ∷ []))

abbrev pub no_table_no_byte : Example
no_table_no_byte = example three_in_turn (steady_asked 0 []) (steady_is (Listed 0) [])

-- .. it keeps moving: a round of acts, and another like it, which leads back. Misread as at rest: each leaves what it found.
abbrev pub moves_on : Example
moves_on =
    example three_in_turn (run_asked 0 (5 ∷ 4 ∷ 3 ∷ 2 ∷ 1 ∷ 0 ∷ []) 6 (3 ∷ 3 ∷ 5 ∷ 2 ∷ 5 ∷ 5 ∷ 3 ∷ 3 ∷ 4 ∷ 4 ∷ 5 ∷ 5 ∷ []))
    (run_is 0 6 1 false (4 ∷ 1 ∷ 4 ∷ 4 ∷ 3 ∷ 0 ∷ 3 ∷ 3 ∷ 4 ∷ 4 ∷ 5 ∷ 5 ∷ []))

abbrev pub moves_back : Example
moves_back =
    example three_in_turn (run_asked 0 (5 ∷ 4 ∷ 3 ∷ 2 ∷ 1 ∷ 0 ∷ []) 6 (4 ∷ 1 ∷ 4 ∷ 4 ∷ 3 ∷ 0 ∷ 3 ∷ 3 ∷ 4 ∷ 4 ∷ 5 ∷ 5 ∷ []))
    (run_is 0 6 1 false (3 ∷ 3 ∷ 5 ∷ 2 ∷ 5 ∷ 5 ∷ 3 ∷ 3 ∷ 4 ∷ 4 ∷ 5 ∷ 5 ∷ []))

-- One: a listed reflector decides. 2 is listed and nearer to 0 and to 3 than their clients, so that 1 and 4 hold their own clients' routes.
-- Misread with listed reflectors forgotten: Listed 4, 5 6 9 10; with the highest router first: 5.
abbrev pub one_table : Example
one_table = example pairs_and_one (steady_asked 2 (9 ∷ 9 ∷ 9 ∷ [])) (steady_is (Listed 1) (10 ∷ 0 ∷ 9 ∷ []))

-- Several: two pairs, each in one of two ways, "numbers rising". Misread in the order of the groups: 5 9 6 10; with a bit of router 2: 9 10
-- 17 18.
abbrev pub four_tables : Example
four_tables =
    example pairs_and_one (steady_asked 1 (9 ∷ 9 ∷ 9 ∷ 9 ∷ 9 ∷ 9 ∷ 9 ∷ 9 ∷ 9 ∷ []))
    (steady_is (Listed 4) (5 ∷ 0 ∷ 6 ∷ 0 ∷ 9 ∷ 0 ∷ 10 ∷ 0 ∷ 9 ∷ []))

-- "against each choice of the groups it relies on": where 3 holds its own client's route, 0 hears it and does not hold its own. Misread
-- with each group by itself: 5 6 9 10.
abbrev pub pairs_in_turn : Example
pairs_in_turn =
    example pair_on_pair (steady_asked 0 (9 ∷ 9 ∷ 9 ∷ 9 ∷ 9 ∷ 9 ∷ 9 ∷ []))
    (steady_is (Listed 3) (5 ∷ 0 ∷ 6 ∷ 0 ∷ 10 ∷ 0 ∷ 9 ∷ []))

-- Router 2 is in no group of two or more, and between two of them: it holds its client's own route exactly if 3 does not hold its own, and
-- where it does, 0 hears it. Misread with a bit of its own: 9 10 22; as never holding its client's: 5 6 9 10.
abbrev pub one_between : Example
one_between =
    example pairs_and_one (steady_asked 0 (9 ∷ 9 ∷ 9 ∷ 9 ∷ 9 ∷ 9 ∷ 9 ∷ []))
    (steady_is (Listed 3) (5 ∷ 0 ∷ 6 ∷ 0 ∷ 10 ∷ 0 ∷ 9 ∷ []))

-- Twelve in a group: 11 hears client 13 from 12 in every table, and of the others, in a row, each holds its own client's route exactly if
-- neither neighbour does. Misread with 15 at twelve: refused; in a byte a number: 73 74 82 and so on.
abbrev pub twelve_listed : Example
twelve_listed =
    example twelve_in_a_row (steady_asked 0 (replicate 43 9))
    (steady_is (Listed 21)
    (73 ∷ 2 ∷ 74 ∷ 2 ∷ 82 ∷ 2 ∷ 85 ∷ 2 ∷ 146 ∷ 2 ∷ 149 ∷ 2 ∷ 165 ∷ 2 ∷ 169 ∷ 2 ∷ 170 ∷ 2  -- 585, 586, 594, ..
    ∷ 146 ∷ 4 ∷ 149 ∷ 4 ∷ 165 ∷ 4 ∷ 169 ∷ 4 ∷ 170 ∷ 4  -- 1170, 1173, ..
    ∷ 37 ∷ 5 ∷ 41 ∷ 5 ∷ 42 ∷ 5 ∷ 73 ∷ 5 ∷ 74 ∷ 5 ∷ 82 ∷ 5 ∷ 85 ∷ 5  -- 1317, 1321, ..
    ∷ 9 ∷ []))

-- "It refuses with 15 if more than 12 routers lie in such groups, after 8 and before 9.": thirteen, with one byte lent. Misread with 15 after
-- 9, or with groups counted: 9.
abbrev pub thirteen_refused : Example
thirteen_refused = example thirteen_in_a_row (steady_asked 0 (9 ∷ [])) (steady_is (Refused 15) (9 ∷ []))

-- The list asked for is m. Misread with the last list in its place: 15.
abbrev pub eight_before_fifteen : Example
eight_before_fifteen = example thirteen_in_a_row (steady_asked 1 (9 ∷ [])) (steady_is (Refused 8) (9 ∷ []))

-- "The call needs two bytes for each number listed": two numbers, three bytes. Misread with what fits written: 1 0 9; with a byte a
-- number: 1 2 9.
abbrev pub three_bytes : Example
three_bytes = example m3_plan (steady_asked 0 (9 ∷ 9 ∷ 9 ∷ [])) (steady_is (Refused 9) (9 ∷ 9 ∷ 9 ∷ []))

-- the plan's own rows come first: a client has five parents. Misread by the list asked for: 8.
abbrev pub plan_first : Example
plan_first = example (around 1) (steady_asked 7 []) (steady_is (Refused 13) [])

unfoldable pub steady_call_examples : List Example
steady_call_examples =
    one_and_two ∷ one_and_two_with_role3 ∷ wide_one_and_two ∷ table_of_one ∷ table_of_two ∷ zero_for_a_client ∷ zero_for_a_reflector ∷ zero_for_nobody
    ∷ zero_with_the_step ∷ no_table ∷ no_table_no_byte ∷ moves_on ∷ moves_back ∷ one_table ∷ four_tables ∷ pairs_in_turn ∷ one_between ∷ twelve_listed
    ∷ thirteen_refused ∷ eight_before_fifteen ∷ three_bytes ∷ plan_first ∷ []

-- The calls give each entry's answer.
abbrev pub SteadyCallExamplesHold : Type 0
SteadyCallExamplesHold = Hold steady_call_examples
