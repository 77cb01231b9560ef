-- Document 01, "Kind 4": one byte m, then m lists, each a count byte c and c router numbers. `s` is the body of kind 4.
use Rattle.std.specs.Prelude.{ℕ, zero, suc, ◌+◌, List, Bool, ◌&&◌, leb, ltb, eqb, length, get_or}
use Rattle.base.specs.Below.{all_below}
use Rattle.plan_rules.specs.Rising.{rises_at}

-- m, the number of lists
abbrev pub list_count_in : List ℕ → ℕ
list_count_in s = get_or s 0 0

-- where list k's count byte stands: after m, and after every list before
unfoldable pub list_place : List ℕ → ℕ → ℕ
list_place s zero = 1
list_place s (suc k) = list_place s k + 1 + get_or s (list_place s k) 0

-- of the list whose count byte stands at `place`: its count and its numbers
abbrev pub member_count : List ℕ → ℕ → ℕ
member_count s place = get_or s place 0

abbrev pub member : List ℕ → ℕ → ℕ → ℕ
member s place j = get_or s (place + 1 + j) 0

-- "c router numbers below n, rising strictly"
abbrev pub member_before : List ℕ → ℕ → ℕ → ℕ → Bool
member_before s place i j = ltb (member s place i) (member s place j)

unfoldable pub member_ok : List ℕ → ℕ → ℕ → ℕ → Bool
member_ok s n place j = ltb (member s place j) n && rises_at (member_before s place) j

-- "each a count byte c .. to n and c router numbers", all within the body. Document 01 has c "from 1"; document 02, "Prefix gone
-- everywhere": "A list with count 0 is now legal: no outside route is left. Refusal 7 no longer covers it."
unfoldable pub list_at_ok : List ℕ → ℕ → ℕ → Bool
list_at_ok s n place =
    ltb place (length s)
    && leb (member_count s place) n
    && leb (place + 1 + member_count s place) (length s)
    && all_below (member_ok s n place) (member_count s place)

unfoldable pub list_ok : List ℕ → ℕ → ℕ → Bool
list_ok s n k = list_at_ok s n (list_place s k)

-- "m lists .. Nothing follows."
unfoldable pub each_list_ok : List ℕ → ℕ → ℕ → Bool
each_list_ok s n m = all_below (list_ok s n) m && eqb (list_place s m) (length s)

-- "one byte m, 1 to 64"; row 7 refuses "kind 4 is broken, its body being empty included".
unfoldable pub lists_ok : List ℕ → ℕ → Bool
lists_ok s n =
    leb 1 (length s) && leb 1 (list_count_in s) && leb (list_count_in s) 64 && each_list_ok s n (list_count_in s)
