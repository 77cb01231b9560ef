-- Document 01, "Kind 2, sessions": pairs of router numbers, one byte each. `s` is the body of kind 2, `j` a pair's place, from 0.
use Rattle.std.specs.Prelude.{ℕ, ◌+◌, ◌*◌, ◌/◌, List, Bool, ◌&&◌, ◌||◌, ltb, eqb, length, get_or}
use Rattle.base.specs.Below.{all_below, any_below}
use Rattle.plan_rules.specs.Rising.{rises_at, pair_before}

abbrev pub session_count : List ℕ → ℕ
session_count s = length s / 2

abbrev pub session_first : List ℕ → ℕ → ℕ
session_first s j = get_or s (2 * j) 0

abbrev pub session_second : List ℕ → ℕ → ℕ
session_second s j = get_or s (2 * j + 1) 0

-- "pairs rising strictly": by the first number, and then by the second
abbrev pub session_before : List ℕ → ℕ → ℕ → Bool
session_before s = pair_before (session_first s) (session_second s)

-- "below n, the first below the second, pairs rising strictly"
unfoldable pub session_ok : List ℕ → ℕ → ℕ → Bool
session_ok s n j =
    ltb (session_second s j) n && ltb (session_first s j) (session_second s j) && rises_at (session_before s) j

-- Row 5 refuses "a session breaks kind 2".
unfoldable pub sessions_ok : List ℕ → ℕ → Bool
sessions_ok s n = all_below (session_ok s n) (session_count s)

-- "Two routers of a pair are neighbours": w and v are those of session j, in either order
unfoldable pub pairs : List ℕ → ℕ → ℕ → ℕ → Bool
pairs s w v j =
    (eqb (session_first s j) w && eqb (session_second s j) v) || (eqb (session_second s j) w && eqb (session_first s j) v)

unfoldable pub in_session : List ℕ → ℕ → ℕ → Bool
in_session s w v = any_below (pairs s w v) (session_count s)
