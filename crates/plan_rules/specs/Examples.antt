-- Examples that tell each rule of the four bodies from a misreading of it, in literal bytes. Beside each stands what a misreading
-- gives.
use Rattle.std.specs.Prelude.{ℕ, zero, suc, ◌≡◌, true, false, List, [], ◌∷◌, set, replicate}
use Rattle.plan_rules.specs.Routers.{identifier, reflector_in, routers_ok}
use Rattle.plan_rules.specs.Sessions.{sessions_ok, in_session}
use Rattle.plan_rules.specs.Parents.{parents_ok}
use Rattle.plan_rules.specs.Distances.{distance_in, way_in, distances_ok}
use Rattle.plan_rules.specs.Lists.{lists_ok, list_place, member}

-- client 2 among reflectors 0, 1, 3, 4 and 5, and a session with each
unfoldable pub around_client2 : List ℕ
around_client2 =
    1 ∷ 1 ∷ 0 ∷ 0 ∷ 0  -- router 0: role, identifier
    ∷ 1 ∷ 2 ∷ 0 ∷ 0 ∷ 0
    ∷ 2 ∷ 3 ∷ 0 ∷ 0 ∷ 0
    ∷ 1 ∷ 4 ∷ 0 ∷ 0 ∷ 0
    ∷ 1 ∷ 5 ∷ 0 ∷ 0 ∷ 0
    ∷ 1 ∷ 6 ∷ 0 ∷ 0 ∷ 0
    ∷ []

unfoldable pub all_with2 : List ℕ
all_with2 = 0 ∷ 2 ∷ 1 ∷ 2 ∷ 2 ∷ 3 ∷ 2 ∷ 4 ∷ 2 ∷ 5 ∷ []

-- the 4-byte distances of two routers: those bytes from 0 to 1, and 7 back
unfoldable pub wide_row : (a b c d : ℕ) → List ℕ
wide_row a b c d = 0 ∷ 0 ∷ 0 ∷ 0 ∷ a ∷ b ∷ c ∷ d ∷ 7 ∷ 0 ∷ 0 ∷ 0 ∷ 0 ∷ 0 ∷ 0 ∷ 0 ∷ []

-- a body of so many lists, each of router 0 alone
unfoldable pub lists_of_one : ℕ → List ℕ
lists_of_one zero = []
lists_of_one (suc k) = 1 ∷ 0 ∷ lists_of_one k

pub record BodiesExamples : Type 0 where
  -- "role (1 reflector, 2 client), then a 4-byte identifier, low byte first": 4 + 3 * 256 + 2 * 65,536 + 16,777,216
  pub four_bytes : identifier (1 ∷ 0 ∷ 0 ∷ 0 ∷ 0 ∷ 2 ∷ 4 ∷ 3 ∷ 2 ∷ 1 ∷ []) 1 ≡ 16909060  -- by two bytes: 772
  -- "Identifiers rise strictly"
  pub low_bytes_fall : routers_ok (1 ∷ 9 ∷ 0 ∷ 0 ∷ 0 ∷ 2 ∷ 8 ∷ 0 ∷ 1 ∷ 0 ∷ []) 2 ≡ true  -- by two bytes: false
  pub low_bytes_rise : routers_ok (1 ∷ 4 ∷ 0 ∷ 1 ∷ 0 ∷ 2 ∷ 5 ∷ 0 ∷ 0 ∷ 0 ∷ []) 2 ≡ false  -- by two bytes: true
  pub low_three_fall : routers_ok (1 ∷ 9 ∷ 0 ∷ 9 ∷ 0 ∷ 2 ∷ 8 ∷ 0 ∷ 8 ∷ 1 ∷ []) 2 ≡ true  -- by three bytes: false
  pub equal_identifiers : routers_ok (1 ∷ 9 ∷ 0 ∷ 0 ∷ 0 ∷ 2 ∷ 9 ∷ 0 ∷ 0 ∷ 0 ∷ []) 2 ≡ false  -- not strictly: true
  -- "Refusal 4 now admits 1 to 5."
  pub role_zero : routers_ok (0 ∷ 9 ∷ 0 ∷ 0 ∷ 0 ∷ []) 1 ≡ false  -- any role to 5: true
  pub role_three : routers_ok (3 ∷ 9 ∷ 0 ∷ 0 ∷ 0 ∷ []) 1 ≡ true  -- 1 and 2 alone: false
  pub role_four : routers_ok (4 ∷ 9 ∷ 0 ∷ 0 ∷ 0 ∷ []) 1 ≡ true  -- 1 to 3: false
  pub role_five : routers_ok (5 ∷ 9 ∷ 0 ∷ 0 ∷ 0 ∷ []) 1 ≡ true  -- 1 to 4: false
  pub role_six : routers_ok (6 ∷ 9 ∷ 0 ∷ 0 ∷ 0 ∷ []) 1 ≡ false  -- any role from 1: true
  -- "role (1 reflector, 2 client)"; "Role 3 is such a reflector"; "Roles 4 and 5 are roles 1 and 3 with that step"
  pub client : reflector_in (2 ∷ 9 ∷ 0 ∷ 0 ∷ 0 ∷ []) 1 0 ≡ false  -- role 2 for reflector: true
  pub third_role : reflector_in (3 ∷ 9 ∷ 0 ∷ 0 ∷ 0 ∷ []) 1 0 ≡ true  -- role 3 for client: false
  pub fourth_role : reflector_in (4 ∷ 9 ∷ 0 ∷ 0 ∷ 0 ∷ []) 1 0 ≡ true  -- roles 1 and 3 alone: false
  pub fifth_role : reflector_in (5 ∷ 9 ∷ 0 ∷ 0 ∷ 0 ∷ []) 1 0 ≡ true  -- roles 1 and 3 alone: false
  -- "pairs of router numbers, one byte each and below n, the first below the second, pairs rising strictly"
  pub by_first_then_second : sessions_ok (0 ∷ 2 ∷ 1 ∷ 2 ∷ 1 ∷ 3 ∷ []) 4 ≡ true  -- by the second number: false
  pub second_falls : sessions_ok (0 ∷ 2 ∷ 0 ∷ 1 ∷ []) 4 ≡ false  -- by the first number: true
  pub higher_first : sessions_ok (1 ∷ 0 ∷ []) 4 ≡ false  -- in either order: true
  pub number_at_n : sessions_ok (0 ∷ 4 ∷ []) 4 ≡ false  -- at most n: true
  pub no_session : sessions_ok [] 4 ≡ true  -- one at least: false
  -- "Two routers of a pair are neighbours."
  pub in_either_order : in_session (0 ∷ 1 ∷ 1 ∷ 2 ∷ []) 2 1 ≡ true  -- in one order alone: false
  pub strangers : in_session (0 ∷ 1 ∷ 1 ∷ 2 ∷ []) 0 2 ≡ false  -- a neighbour's neighbour: true
  -- "It refuses with 13 if a client has five or more"
  pub four : parents_ok around_client2 (0 ∷ 2 ∷ 1 ∷ 2 ∷ 2 ∷ 3 ∷ 2 ∷ 4 ∷ []) 6 ≡ true  -- four or more: false
  pub five : parents_ok around_client2 all_with2 6 ≡ false  -- six or more: true; by the lower or the higher numbers alone: true
  pub five_of_role3 : parents_ok (set around_client2 25 3) all_with2 6 ≡ false  -- reflectors of role 1 alone: true
  pub four_and_a_client : parents_ok (set around_client2 25 2) all_with2 6 ≡ true  -- clients counted too: false
  pub five_of_a_reflector : parents_ok (set around_client2 10 1) all_with2 6 ≡ true  -- reflectors held to it too: false
  pub five_of_a_role3_reflector : parents_ok (set around_client2 10 3) all_with2 6 ≡ true  -- role 3 held to it too: false
  pub three_each : parents_ok (set around_client2 15 2) (0 ∷ 2 ∷ 0 ∷ 3 ∷ 1 ∷ 2 ∷ 1 ∷ 3 ∷ 2 ∷ 4 ∷ 3 ∷ 5 ∷ []) 6 ≡ true  -- of all clients: false
  -- "row u, column e is the distance from u to e", two bytes, low byte first
  pub high_byte : distance_in 2 (0 ∷ 0 ∷ 2 ∷ 1 ∷ 7 ∷ 0 ∷ 0 ∷ 0 ∷ []) 2 0 1 ≡ 258  -- by the low byte: 2; high byte first: 513
  pub row_then_column : distance_in 2 (0 ∷ 0 ∷ 2 ∷ 1 ∷ 7 ∷ 0 ∷ 0 ∷ 0 ∷ []) 2 1 0 ≡ 7  -- column, then row: 258
  -- "0 to 65,534"; "The distance 65,535 off the diagonal now means 'no way'"
  pub farthest : distance_in 2 (0 ∷ 0 ∷ 254 ∷ 255 ∷ 7 ∷ 0 ∷ 0 ∷ 0 ∷ []) 2 0 1 ≡ 65534  -- no way from 65,534 on: 4,294,967,295
  pub farthest_is_a_way : way_in 2 (0 ∷ 0 ∷ 254 ∷ 255 ∷ 7 ∷ 0 ∷ 0 ∷ 0 ∷ []) 2 0 1 ≡ true  -- below 65,534: false
  pub no_way : way_in 2 (0 ∷ 0 ∷ 255 ∷ 255 ∷ 7 ∷ 0 ∷ 0 ∷ 0 ∷ []) 2 0 1 ≡ false  -- a very long way: true
  pub no_way_number : distance_in 2 (0 ∷ 0 ∷ 255 ∷ 255 ∷ 7 ∷ 0 ∷ 0 ∷ 0 ∷ []) 2 0 1 ≡ 4294967295  -- as two bytes have it: 65,535
  pub way_back : way_in 2 (0 ∷ 0 ∷ 255 ∷ 255 ∷ 7 ∷ 0 ∷ 0 ∷ 0 ∷ []) 2 1 0 ≡ true  -- cut off both ways: false
  pub cut_off : distances_ok 2 (0 ∷ 0 ∷ 255 ∷ 255 ∷ 7 ∷ 0 ∷ 0 ∷ 0 ∷ []) 2 ≡ true  -- 65,535 refused: false
  -- "The diagonal is 0."; "refusal 6 covers 65,535 on the diagonal only"
  pub diagonal : distances_ok 2 (0 ∷ 0 ∷ 2 ∷ 1 ∷ 7 ∷ 0 ∷ 0 ∷ 1 ∷ []) 2 ≡ false  -- by the low byte: true
  pub cut_off_from_itself : distances_ok 2 (0 ∷ 0 ∷ 2 ∷ 1 ∷ 7 ∷ 0 ∷ 255 ∷ 255 ∷ []) 2 ≡ false  -- 65,535 anywhere: true
  -- "4-byte distances, low byte first, up to 4,294,967,294; 4,294,967,295 is no way"
  pub four_byte_distance : distance_in 4 (wide_row 4 3 2 1) 2 0 1 ≡ 16909060  -- high byte first: 67,305,985; cut to two bytes: 772
  pub wide_row_then_column : distance_in 4 (wide_row 4 3 2 1) 2 1 0 ≡ 7
  pub wide_farthest : distance_in 4 (wide_row 254 255 255 255) 2 0 1 ≡ 4294967294
  pub wide_farthest_is_a_way : way_in 4 (wide_row 254 255 255 255) 2 0 1 ≡ true  -- below 4,294,967,294: false
  pub wide_no_way : way_in 4 (wide_row 255 255 255 255) 2 0 1 ≡ false  -- a very long way: true
  pub two_bytes_full : distance_in 4 (wide_row 255 255 0 0) 2 0 1 ≡ 65535  -- no way by 65,535: 4,294,967,295
  pub two_bytes_full_is_a_way : way_in 4 (wide_row 255 255 0 0) 2 0 1 ≡ true  -- no way by 65,535: false
  pub wide_cut_off : distances_ok 4 (wide_row 255 255 255 255) 2 ≡ true  -- 4,294,967,295 refused: false
  -- "The diagonal is 0.", in all four bytes
  pub wide_diagonal : distances_ok 4 (set (wide_row 4 3 2 1) 2 1) 2 ≡ false  -- by two bytes: true
  pub wide_cut_off_from_itself : distances_ok 4 (0 ∷ 0 ∷ 0 ∷ 0 ∷ 7 ∷ 0 ∷ 0 ∷ 0 ∷ 7 ∷ 0 ∷ 0 ∷ 0 ∷ 255 ∷ 255 ∷ 255 ∷ 255 ∷ []) 2 ≡ false  -- no way anywhere: true
  -- "one byte m, 1 to 64, then m lists, each a count byte c .. to n and c router numbers below n, rising strictly"
  pub second_list : list_place (2 ∷ 2 ∷ 0 ∷ 1 ∷ 1 ∷ 3 ∷ []) 1 ≡ 4  -- by lists of one number: 3
  pub its_number : member (2 ∷ 2 ∷ 0 ∷ 1 ∷ 1 ∷ 3 ∷ []) 4 0 ≡ 3  -- the count byte: 1
  pub last_number : lists_ok (2 ∷ 2 ∷ 0 ∷ 1 ∷ 1 ∷ 3 ∷ []) 4 ≡ true  -- below n - 1: false
  pub listed_at_n : lists_ok (2 ∷ 2 ∷ 0 ∷ 1 ∷ 1 ∷ 4 ∷ []) 4 ≡ false  -- at most n: true
  pub numbers_fall : lists_ok (1 ∷ 2 ∷ 1 ∷ 0 ∷ []) 4 ≡ false  -- in any order: true
  pub every_router : lists_ok (1 ∷ 2 ∷ 0 ∷ 1 ∷ []) 2 ≡ true  -- below n: false
  pub one_more_than_n : lists_ok (1 ∷ 3 ∷ 0 ∷ 1 ∷ 2 ∷ []) 2 ≡ false
  pub sixty_five_lists : lists_ok (65 ∷ lists_of_one 65) 4 ≡ false  -- to 65: true
  pub no_list : lists_ok (0 ∷ []) 4 ≡ false  -- from 0: true
  pub empty_body : lists_ok [] 4 ≡ false  -- as no list: true
  -- "A list with count 0 is now legal": alone, and before, between and after others
  pub empty_list : lists_ok (1 ∷ 0 ∷ []) 4 ≡ true  -- count 0 refused: false
  pub empty_list_of_one : lists_ok (1 ∷ 0 ∷ []) 1 ≡ true  -- from 1 where n is 1: false
  pub empty_first : lists_ok (2 ∷ 0 ∷ 1 ∷ 3 ∷ []) 4 ≡ true  -- count 0 ending the lists: false
  pub empty_between : lists_ok (3 ∷ 1 ∷ 2 ∷ 0 ∷ 1 ∷ 3 ∷ []) 4 ≡ true  -- .. : false
  pub empty_last : lists_ok (2 ∷ 1 ∷ 3 ∷ 0 ∷ []) 4 ≡ true  -- numbers after every count byte: false
  pub after_an_empty_list : list_place (3 ∷ 1 ∷ 2 ∷ 0 ∷ 1 ∷ 3 ∷ []) 2 ≡ 4  -- no count byte for an empty list: 3
  pub empty_is_counted : lists_ok (2 ∷ 0 ∷ []) 4 ≡ false  -- count 0 ending the lists: true
  pub sixty_four_empty : lists_ok (64 ∷ replicate 64 0) 4 ≡ true
  pub sixty_five_empty : lists_ok (65 ∷ replicate 65 0) 4 ≡ false  -- lists of someone alone counted: true
  pub byte_after_an_empty_list : lists_ok (1 ∷ 0 ∷ 3 ∷ []) 4 ≡ false  -- .. : true
  -- "Nothing follows."
  pub one_byte_after : lists_ok (1 ∷ 1 ∷ 3 ∷ 0 ∷ []) 4 ≡ false  -- with bytes after: true
