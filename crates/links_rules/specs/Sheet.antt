-- Document 02, "Distances from the link sheet": the links' bytes. `s` is the sheet, `k` a link's place, from 0.
use Rattle.std.specs.Prelude.{ℕ, ◌+◌, ◌*◌, ◌/◌, ◌%◌, List, Bool, ◌&&◌, leb, ltb, eqb, length, get_or}
use Rattle.base.specs.Below.{all_below}
use Rattle.base.specs.Bytes.{little_endian}
use Rattle.plan_rules.specs.Rising.{rises_at, pair_before}

-- "each from, to (a byte each ..) and weight (two bytes ..)": four bytes a link, the weight's low byte first
abbrev pub link_count : List ℕ → ℕ
link_count s = length s / 4

abbrev pub link_from : List ℕ → ℕ → ℕ
link_from s k = get_or s (4 * k) 0

abbrev pub link_to : List ℕ → ℕ → ℕ
link_to s k = get_or s (4 * k + 1) 0

abbrev pub link_weight : List ℕ → ℕ → ℕ
link_weight s k = little_endian 2 s (4 * k + 2)

-- "rising strictly by from and then to"
abbrev pub link_before : List ℕ → ℕ → ℕ → Bool
link_before s = pair_before (link_from s) (link_to s)

-- "from, to (a byte each, below n) and weight (two bytes, 1 to 65,535), rising strictly by from and then to"
unfoldable pub link_ok : List ℕ → ℕ → ℕ → Bool
link_ok s n k =
    ltb (link_from s k) n && ltb (link_to s k) n && leb 1 (link_weight s k) && rises_at (link_before s) k

-- "up to 512 links"
abbrev pub links_most : ℕ
links_most = 512

-- 11 is given "if a link breaks these rules, the links' bytes are no multiple of four or there are more than 512 links"
unfoldable pub sheet_ok : List ℕ → ℕ → Bool
sheet_ok s n = eqb (length s % 4) 0 && leb (link_count s) links_most && all_below (link_ok s n) (link_count s)
