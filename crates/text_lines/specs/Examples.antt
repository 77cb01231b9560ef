-- Examples that tell the lines from a misreading of them: numbers and lines, and their literal bytes.
use Rattle.std.specs.Prelude.{ℕ, ◌≡◌, List, [], ◌∷◌, map, pos, neg_ℤ}
use Rattle.text_fields.specs.Fields.{decimal, signed_decimal}
use Rattle.text_lines.specs.Text.{head_line, refused_line, stable_line, suspect_line, margin_line, none_line}

pub record Example : Type 0 where
  pub text : List ℕ
  pub bytes : List ℕ

abbrev pub spelt : List ℕ → List ℕ → Example
spelt text bytes = record { text = text; bytes = bytes }

unfoldable pub examples : List Example
examples =
    -- "routers 4 lists 2"
    spelt (head_line 4 2)
    (114 ∷ 111 ∷ 117 ∷ 116 ∷ 101 ∷ 114 ∷ 115 ∷ 32 ∷ 52 ∷ 32 ∷ 108 ∷ 105 ∷ 115 ∷ 116 ∷ 115 ∷ 32 ∷ 50 ∷ 10 ∷ [])
    -- "0 suspect 2 0 1"
    ∷ spelt (suspect_line 0 (0 ∷ 1 ∷ []))
    (48 ∷ 32 ∷ 115 ∷ 117 ∷ 115 ∷ 112 ∷ 101 ∷ 99 ∷ 116 ∷ 32 ∷ 50 ∷ 32 ∷ 48 ∷ 32 ∷ 49 ∷ 10 ∷ [])
    -- "1 stable 3"
    ∷ spelt (stable_line 1 3) (49 ∷ 32 ∷ 115 ∷ 116 ∷ 97 ∷ 98 ∷ 108 ∷ 101 ∷ 32 ∷ 51 ∷ 10 ∷ [])
    -- refused 2
    ∷ spelt (refused_line 2) (114 ∷ 101 ∷ 102 ∷ 117 ∷ 115 ∷ 101 ∷ 100 ∷ 32 ∷ 50 ∷ 10 ∷ [])
    -- no leading zero, and inner ones are kept
    ∷ spelt (decimal 9) (57 ∷ [])
    ∷ spelt (decimal 10) (49 ∷ 48 ∷ [])
    ∷ spelt (decimal 99) (57 ∷ 57 ∷ [])
    ∷ spelt (decimal 100) (49 ∷ 48 ∷ 48 ∷ [])
    -- "-4"; a margin of 0 and one above it have no sign
    ∷ spelt (margin_line (neg_ℤ (pos 4))) (45 ∷ 52 ∷ 10 ∷ [])
    ∷ spelt (margin_line (pos 0)) (48 ∷ 10 ∷ [])
    ∷ spelt (margin_line (pos 4)) (52 ∷ 10 ∷ [])
    -- "none"
    ∷ spelt none_line (110 ∷ 111 ∷ 110 ∷ 101 ∷ 10 ∷ [])
    -- the least and the greatest margin, 65534 apart from 0; numbers of ten digits
    ∷ spelt (signed_decimal (neg_ℤ (pos 65534))) (45 ∷ 54 ∷ 53 ∷ 53 ∷ 51 ∷ 52 ∷ [])
    ∷ spelt (signed_decimal (pos 65534)) (54 ∷ 53 ∷ 53 ∷ 51 ∷ 52 ∷ [])
    ∷ spelt (signed_decimal (neg_ℤ (pos 4294967294))) (45 ∷ 52 ∷ 50 ∷ 57 ∷ 52 ∷ 57 ∷ 54 ∷ 55 ∷ 50 ∷ 57 ∷ 52 ∷ [])
    ∷ []

-- The definitions give each example's bytes. The theorem is `line-examples`.
abbrev pub LineExamplesHold : Type 0
LineExamplesHold = map (λ e. e.text) examples ≡ map (λ e. e.bytes) examples
