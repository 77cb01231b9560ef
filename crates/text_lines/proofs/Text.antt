-- Laws of the text: each line as its parts.
use Prim.Native.Nat.{ℕ}
use mathlib.Core.Path.{◌≡◌, ◌∙◌, sym, ap}
use mathlib.Core.List.{List, [], ◌∷◌, ◌++◌, append_assoc, append-nil, map}
use lib.ListN.{length}
use lib.IntN.{ℤ}
use Rattle.text_fields.specs.Fields.{decimal, signed_decimal, spaced, number_fields}
use Rattle.text_lines.specs.Text.{line, routers_word, lists_word, refused_word, stable_word, suspect_word, none_word, head_line, refused_line, stable_line, suspect_line, margin_line, none_line}

-- a field more before the others
line-next : (first field : List ℕ) (fields : List (List ℕ)) → line (first ++ (32 ∷ field)) fields ≡ line first (field ∷ fields)
unfolding spaced
line-next first field fields = ap (λ t. t ++ (10 ∷ [])) (append_assoc first (32 ∷ field) (spaced fields))

-- the last field, with the line's end
line-last : (first field : List ℕ) → first ++ ((32 ∷ field) ++ (10 ∷ [])) ≡ line first (field ∷ [])
unfolding spaced
line-last first field =
    sym (append_assoc first (32 ∷ field) (10 ∷ [])) ∙ ap (λ t. first ++ t ++ (10 ∷ [])) (sym (append-nil (32 ∷ field)))

-- the only field, with the line's end
line-only : (field : List ℕ) → field ++ (10 ∷ []) ≡ line field []
unfolding spaced
line-only field = ap (λ t. t ++ (10 ∷ [])) (sym (append-nil field))

-- each line, as its parts are written one after the other
pub head-parts :
    (n m : ℕ) →
    routers_word ++ (32 ∷ decimal n) ++ (32 ∷ lists_word) ++ ((32 ∷ decimal m) ++ (10 ∷ [])) ≡ head_line n m
unfolding head_line
head-parts n m =
    line-last (routers_word ++ (32 ∷ decimal n) ++ (32 ∷ lists_word)) (decimal m)
    ∙ line-next (routers_word ++ (32 ∷ decimal n)) lists_word (decimal m ∷ [])
    ∙ line-next routers_word (decimal n) (lists_word ∷ decimal m ∷ [])

pub refused-parts : (number : ℕ) → refused_word ++ ((32 ∷ decimal number) ++ (10 ∷ [])) ≡ refused_line number
unfolding refused_line
refused-parts number = line-last refused_word (decimal number)

pub stable-parts :
    (list highest : ℕ) →
    decimal list ++ (32 ∷ stable_word) ++ ((32 ∷ decimal highest) ++ (10 ∷ [])) ≡ stable_line list highest
unfolding stable_line
stable-parts list highest =
    line-last (decimal list ++ (32 ∷ stable_word)) (decimal highest) ∙ line-next (decimal list) stable_word (decimal highest ∷ [])

pub suspect-parts :
    (list : ℕ) (cycle : List ℕ) →
    decimal list ++ (32 ∷ suspect_word) ++ (32 ∷ decimal (length cycle)) ++ number_fields cycle ++ (10 ∷ [])
    ≡ suspect_line list cycle
unfolding suspect_line
suspect-parts list cycle =
    line-next (decimal list ++ (32 ∷ suspect_word)) (decimal (length cycle)) (map decimal cycle)
    ∙ line-next (decimal list) suspect_word (decimal (length cycle) ∷ map decimal cycle)

pub margin-parts : (margin : ℤ) → signed_decimal margin ++ (10 ∷ []) ≡ margin_line margin
unfolding margin_line
margin-parts margin = line-only (signed_decimal margin)

pub none-parts : none_word ++ (10 ∷ []) ≡ none_line
unfolding none_line
none-parts = line-only none_word
