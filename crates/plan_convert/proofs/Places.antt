-- The distances of a plan one after the other, by their places in the body.
use Prim.Native.Nat.{ℕ, ◌*◌}
use mathlib.Core.Path.{◌≡◌, refl, ◌∙◌, sym, ap}
use mathlib.Core.Bool.{Bool, true, false}
use mathlib.Core.List.{List}
use mathlib.Core.Logic.{⊎_elim}
use borrow.Author.Tests.{eqb-true}
use lib.Dec.{eqb}
use Rattle.base.specs.Below.{all_below}
use Rattle.base.specs.Buffer.{written}
use Rattle.base.specs.Bytes.{bytes_of}
use Rattle.base.specs.Tab.{joined}
use Rattle.base.proofs.Below.{all-rows}
use Rattle.base.proofs.Joined.{joined-cong, joined-rows}
use Rattle.plan_contents.specs.Header.{width, router_count}
use Rattle.plan_contents.specs.Contents.{distances_body}
use Rattle.plan_rules.specs.Distances.{no_way, row_of, body_of, placed, TwoOrFour}
use Rattle.plan_rules.specs.Converted.{converted_number, distance_fits, distances_fit}
use Rattle.plan_rules.proofs.DistanceNumbers.{number_of}

-- no way has the same bytes as the highest number of so many
number-bytes : (to : ℕ) → TwoOrFour to → (d : ℕ) → bytes_of to (number_of to d) ≡ bytes_of to d
number-bytes to t d = go (eqb d no_way) refl
  where
    go : (b : Bool) → eqb d no_way ≡ b → bytes_of to (number_of to d) ≡ bytes_of to d
    go true h = rw (eqb-true d no_way h) (⊎_elim (λ (e : to ≡ 2). rw e) (λ (e : to ≡ 4). rw e) t)
    go false h = rw h

module _ (to : ℕ) (plan : List ℕ) where
  abbrev distance : ℕ → ℕ
  distance i = placed (width plan) (distances_body plan) i

  abbrev n : ℕ
  n = router_count plan

  body-places : TwoOrFour to → body_of to (converted_number to plan) n ≡ joined (λ i. bytes_of to (distance i)) (n * n)
  unfolding body_of row_of
  body-places t =
      joined-cong _ _ n (λ u l. joined-cong _ _ n (λ e m. number-bytes to t _)) ∙ joined-rows (λ i. bytes_of to (distance i)) n n

  -- of a body, a width and a count that are the plan's
  module _ {bytes count : ℕ} {s : List ℕ} (b : bytes ≡ width plan) (q : s ≡ distances_body plan) (c : count ≡ n) where
    pub fit-by-places : {r : Bool} → r ≡ all_below (λ i. distance_fits to (placed bytes s i)) (count * count) → r ≡ distances_fit to plan
    unfolding distances_fit
    fit-by-places e = e ∙ rw (b, q, c) (sym (all-rows (λ i. distance_fits to (distance i)) n n))

    pub body-by-places : TwoOrFour to → (d : List ℕ) {l : List ℕ} (at : ℕ) → l ≡ written d at (joined (λ i. bytes_of to (placed bytes s i)) (count * count))
        → l ≡ written d at (body_of to (converted_number to plan) n)
    body-by-places t d at e = e ∙ rw (b, q, c) (ap (written d at) (sym (body-places t)))
