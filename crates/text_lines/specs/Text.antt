-- The lines of the verdict program (document 01, "Small plans") and of the margin program (document 02, "The margin with its sign").
use Rattle.std.specs.Prelude.{ℕ, List, [], ◌∷◌, ◌++◌, map, length, ℤ}
use Rattle.text_fields.specs.Fields.{decimal, signed_decimal, spaced}

-- a line of a first field and others, "each line ended by byte 10"
abbrev pub line : List ℕ → List (List ℕ) → List ℕ
line first others = first ++ spaced others ++ (10 ∷ [])

-- the words of a line, letter by letter
abbrev pub routers_word : List ℕ
routers_word = 114 ∷ 111 ∷ 117 ∷ 116 ∷ 101 ∷ 114 ∷ 115 ∷ []

abbrev pub lists_word : List ℕ
lists_word = 108 ∷ 105 ∷ 115 ∷ 116 ∷ 115 ∷ []

abbrev pub refused_word : List ℕ
refused_word = 114 ∷ 101 ∷ 102 ∷ 117 ∷ 115 ∷ 101 ∷ 100 ∷ []

abbrev pub stable_word : List ℕ
stable_word = 115 ∷ 116 ∷ 97 ∷ 98 ∷ 108 ∷ 101 ∷ []

abbrev pub suspect_word : List ℕ
suspect_word = 115 ∷ 117 ∷ 115 ∷ 112 ∷ 101 ∷ 99 ∷ 116 ∷ []

abbrev pub none_word : List ℕ
none_word = 110 ∷ 111 ∷ 110 ∷ 101 ∷ []

-- "The first line gives n and m after their words."
unfoldable pub head_line : ℕ → ℕ → List ℕ
head_line n m = line routers_word (decimal n ∷ lists_word ∷ decimal m ∷ [])

-- "A refused plan gives the single line `refused`, a space and its number."
unfoldable pub refused_line : ℕ → List ℕ
refused_line number = line refused_word (decimal number ∷ [])

-- "In each later line the fields are list number, verdict, then .. highest rank."
unfoldable pub stable_line : ℕ → ℕ → List ℕ
stable_line list highest = line (decimal list) (stable_word ∷ decimal highest ∷ [])

-- "In each later line the fields are list number, verdict, then ring length and ring". Here the ring is a cycle.
unfoldable pub suspect_line : ℕ → List ℕ → List ℕ
suspect_line list cycle = line (decimal list) (suspect_word ∷ decimal (length cycle) ∷ map decimal cycle)

-- "one line ended by byte 10: the margin, minus four as -4"
unfoldable pub margin_line : ℤ → List ℕ
margin_line margin = line (signed_decimal margin) []

-- "or `none`"
unfoldable pub none_line : List ℕ
none_line = line none_word []

-- room for any line: of a suspect list with a number of three digits, and 64 members of three digits
abbrev pub line_room : ℕ
line_room = 272
