-- Document 01, "The plan's bytes": the first six bytes and the plan's length; document 02, "Wider distances".
use Rattle.std.specs.Prelude.{ℕ, List, Bool, cond, ◌&&◌, ◌||◌, leb, eqb, length, get_or}

-- the mark, 1 or 2 after the letters RRP
abbrev pub mark : List ℕ → ℕ
mark plan = get_or plan 3 0

-- "A plan has at most 16,731 bytes"; a plan that starts RRP2 "may have 24,923 bytes, while an RRP1 plan keeps its 16,731"
unfoldable pub mark_ok : ℕ → ℕ → Bool
mark_ok letter plan_length = (eqb letter 49 && leb plan_length 16731) || (eqb letter 50 && leb plan_length 24923)

-- "bytes 0 to 3: the letters RRP1", or RRP2; "byte 5: 4, the number of contents entries".
-- Row 1 refuses "fewer than 26 or more than 16,731 bytes, or bytes 0 to 3 or byte 5 differ from the above".
unfoldable pub header_ok : List ℕ → Bool
header_ok plan =
    leb 26 (length plan)
    && eqb (get_or plan 0 0) 82
    && eqb (get_or plan 1 0) 82
    && eqb (get_or plan 2 0) 80
    && mark_ok (mark plan) (length plan)
    && eqb (get_or plan 5 0) 4

-- "Plans that start RRP2 have 4-byte distances": how many bytes a distance has. Of a plan that is refused by row 1 nothing is read by it.
abbrev pub width_of : ℕ → ℕ
width_of letter = cond (eqb letter 50) 4 2

abbrev pub width : List ℕ → ℕ
width plan = width_of (mark plan)

-- "byte 4: n, the number of routers, 1 to 64"
abbrev pub router_count : List ℕ → ℕ
router_count plan = get_or plan 4 0

-- Row 2 refuses "n is 0 or above 64".
unfoldable pub router_count_ok : ℕ → Bool
router_count_ok n = leb 1 n && leb n 64
