-- Document 01, "The plan's bytes": the table of contents and the four bodies.
use Rattle.std.specs.Prelude.{ℕ, ◌+◌, ◌*◌, ◌%◌, List, [], ◌∷◌, Bool, ◌&&◌, eqb, get_or, take, drop}
use Rattle.base.specs.Bytes.{little_endian}
use Rattle.plan_contents.specs.declared.entries.Entry.{Entry}

-- "four entries of kind (1 byte), offset (2), length (2)"; the length is called size here
abbrev pub entry_at : List ℕ → ℕ → Entry
entry_at plan at =
    record { kind = get_or plan at 0; offset = little_endian 2 plan (at + 1); size = little_endian 2 plan (at + 3) }

-- "bytes 6 to 25: the table of contents"
abbrev pub contents_of : List ℕ → List Entry
contents_of plan = entry_at plan 6 ∷ entry_at plan 11 ∷ entry_at plan 16 ∷ entry_at plan 21 ∷ []

-- what `get_or` gives past the table's end; no entry of a table of four is read there
abbrev pub no_entry : Entry
no_entry = record { kind = 0; offset = 0; size = 0 }

-- the entry of each kind, and where its body ends
abbrev pub routers_entry : List Entry → Entry
routers_entry table = get_or table 0 no_entry

abbrev pub sessions_entry : List Entry → Entry
sessions_entry table = get_or table 1 no_entry

abbrev pub distances_entry : List Entry → Entry
distances_entry table = get_or table 2 no_entry

abbrev pub lists_entry : List Entry → Entry
lists_entry table = get_or table 3 no_entry

abbrev pub end : Entry → ℕ
end e = e.offset + e.size

-- "The kinds are 1, 2, 3, 4 in that order."
unfoldable pub kinds_ok : List Entry → Bool
kinds_ok table =
    eqb (routers_entry table).kind 1
    && eqb (sessions_entry table).kind 2
    && eqb (distances_entry table).kind 3
    && eqb (lists_entry table).kind 4

-- "The first offset is 26, each next offset is the end of the body before, and the last body ends with the plan."
unfoldable pub places_ok : List Entry → ℕ → Bool
places_ok table plan_length =
    eqb (routers_entry table).offset 26
    && eqb (sessions_entry table).offset (end (routers_entry table))
    && eqb (distances_entry table).offset (end (sessions_entry table))
    && eqb (lists_entry table).offset (end (distances_entry table))
    && eqb (end (lists_entry table)) plan_length

-- "Kind 1, routers, 5n bytes", "Kind 2, sessions: pairs", "Kind 3, distances, 2n² bytes"; with 4-byte distances "kind 3 has 4n² bytes"
unfoldable pub sizes_ok : List Entry → ℕ → ℕ → Bool
sizes_ok table width n =
    eqb (routers_entry table).size (5 * n)
    && eqb ((sessions_entry table).size % 2) 0
    && eqb (distances_entry table).size (width * (n * n))

-- Row 3 refuses "a contents entry breaks its rule, kind 1 or 3 has another length, or kind 2 an odd one".
unfoldable pub contents_ok : List Entry → ℕ → ℕ → ℕ → Bool
contents_ok table width n plan_length = kinds_ok table && places_ok table plan_length && sizes_ok table width n

-- "Each body is read as a part of the plan that starts at its offset."
abbrev pub body : List ℕ → Entry → List ℕ
body plan e = take e.size (drop e.offset plan)

abbrev pub routers_body : List ℕ → List ℕ
routers_body plan = body plan (routers_entry (contents_of plan))

abbrev pub sessions_body : List ℕ → List ℕ
sessions_body plan = body plan (sessions_entry (contents_of plan))

abbrev pub distances_body : List ℕ → List ℕ
distances_body plan = body plan (distances_entry (contents_of plan))

abbrev pub lists_body : List ℕ → List ℕ
lists_body plan = body plan (lists_entry (contents_of plan))
