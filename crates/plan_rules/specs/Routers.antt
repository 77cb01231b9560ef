-- Document 01, "Kind 1, routers": role (1 reflector, 2 client), then a 4-byte identifier, low byte first. Document 02, "Reflectors that
-- skip their own clients" (role 3) and "Reflectors with the hop step": "Refusal 4 now admits 1 to 5."
-- `s` is the body of kind 1, `v` a router's number: its place, from 0.
use Rattle.std.specs.Prelude.{ℕ, ◌+◌, ◌*◌, List, Bool, not, ◌&&◌, leb, ltb, eqb, get_or}
use Rattle.base.specs.Below.{all_below}
use Rattle.base.specs.Bytes.{little_endian}
use Rattle.plan_rules.specs.Rising.{rises_at}

abbrev pub role : List ℕ → ℕ → ℕ
role s v = get_or s (5 * v) 0

abbrev pub identifier : List ℕ → ℕ → ℕ
identifier s v = little_endian 4 s (5 * v + 1)

-- "role (1 reflector, 2 client)"; "Role 3 is such a reflector"; "Roles 4 and 5 are roles 1 and 3 with that step": each of the n routers
-- that is no client
abbrev pub reflector_in : List ℕ → ℕ → ℕ → Bool
reflector_in s n v = ltb v n && not (eqb (role s v) 2)

-- "Identifiers rise strictly"
abbrev pub identifier_before : List ℕ → ℕ → ℕ → Bool
identifier_before s u v = ltb (identifier s u) (identifier s v)

unfoldable pub router_ok : List ℕ → ℕ → Bool
router_ok s v = leb 1 (role s v) && leb (role s v) 5 && rises_at (identifier_before s) v

-- Row 4 refuses "a role or identifier breaks kind 1".
unfoldable pub routers_ok : List ℕ → ℕ → Bool
routers_ok s n = all_below (router_ok s) n
