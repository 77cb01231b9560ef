-- Laws of fields one after another.
use Prim.Native.Nat.{ℕ, ◌+◌, ◌<◌}
use native.Mathlib.Numerals.{add-one}
use mathlib.Core.Path.{◌≡◌, refl, ◌∙◌, sym, ap}
use mathlib.Core.List.{List, [], ◌∷◌, ◌++◌, append_assoc, append-nil, map-append}
use lib.ListN.{length, get_or, take}
use lib.Seq.{take-suc}
use Rattle.text_fields.specs.Fields.{decimal, spaced, number_fields}

spaced-append : (fs gs : List (List ℕ)) → spaced (fs ++ gs) ≡ spaced fs ++ spaced gs
unfolding spaced
spaced-append [] gs = refl
spaced-append (f ∷ fs) gs = ap (λ t. (32 ∷ f) ++ t) (spaced-append fs gs) ∙ sym (append_assoc (32 ∷ f) (spaced fs) (spaced gs))

-- a number more
pub spaced-more :
    (s : List ℕ) (i : ℕ) → i < length s → number_fields (take (i + 1) s) ≡ number_fields (take i s) ++ (32 ∷ decimal (get_or s i 0))
unfolding spaced
spaced-more s i h =
    rw (add-one, take-suc s i 0 h, map-append, spaced-append)
    (ap (λ t. number_fields (take i s) ++ t) (append-nil (32 ∷ decimal (get_or s i 0))))
