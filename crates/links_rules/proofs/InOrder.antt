-- Each refusal number of the call is given exactly if its check is the first that fails.
use Prim.Native.Nat.{ℕ, ◌*◌, ◌≤◌, ◌<◌}
use native.Mathlib.Omega.{arith}
use mathlib.Core.Path.{◌≡◌, refl, ◌∙◌, sym}
use mathlib.Core.Bool.{Bool, true}
use mathlib.Core.List.{List, [], ◌∷◌}
use mathlib.Core.Logic.{⊎_elim}
use borrow.Author.Tests.{leb-true, le-leb}
use lib.Dec.{leb}
use lib.ListN.{get_or}
use Rattle.base.proofs.Numbers.{true-or-false, lt-or-le}
use Rattle.plan_contents.specs.Header.{router_count_ok}
use Rattle.plan_contents.specs.HeaderFacts.{RouterCount}
use Rattle.plan_contents.proofs.Facts.{count-facts, count-holds}
use Rattle.plan_rules.proofs.Table.{first_failing, among, distinct, Decide, AllOf, FirstFails, first-fails, all_held, none-given, held_none, held-too}
use Rattle.links_rules.specs.Sheet.{sheet_ok}
use Rattle.links_rules.specs.Sums.{least_sums}
use Rattle.links_rules.specs.Distances.{sums_ok, distances_refusal}
use Rattle.links_rules.specs.SheetFacts.{Sheet, AllNear, SomeFar, FirstDecides}
use Rattle.links_rules.proofs.Facts.{sheet-facts, sheet-holds, sums-facts, sums-holds, sums_far, far-not-near}

module _ (n : ℕ) (s : List ℕ) (room : ℕ) where
  abbrev numbers : List ℕ
  numbers = 2 ∷ 11 ∷ 12 ∷ 9 ∷ []

  abbrev checks : List Bool
  checks = router_count_ok n ∷ sheet_ok s n ∷ sums_ok (least_sums s n) n ∷ leb (2 * (n * n)) room ∷ []

  -- the facts of the checks, and of those after the first, the second and the third
  abbrev facts₃ : List (Type 0)
  facts₃ = (2 * (n * n) ≤ room) ∷ []

  abbrev facts₂ : List (Type 0)
  facts₂ = AllNear s n ∷ facts₃

  abbrev facts₁ : List (Type 0)
  facts₁ = Sheet s n ∷ facts₂

  abbrev facts : List (Type 0)
  facts = RouterCount n ∷ facts₁

  numbers-distinct : distinct numbers ≡ true
  unfolding distinct among
  numbers-distinct = refl

  refusal_is : distances_refusal n s room ≡ first_failing numbers checks
  unfolding distances_refusal first_failing
  refusal_is = refl

  decide : Decide checks facts
  unfolding Decide
  decide = (
    (count-facts n, count-holds n),
    λ _. (
      (sheet-facts s n, sheet-holds s n),
      λ f. (
        (sums-facts s n f, sums-holds s n f),
        λ _. ((leb-true _ _, le-leb _ _), λ _. tt),
      ),
    ),
  )

  first : (at : ℕ) → at < 4 → FirstFails facts at (distances_refusal n s room) (get_or numbers at 0)
  first at l = rw refusal_is (first-fails numbers checks facts numbers-distinct decide at l l)

  -- some pair is far where not all are near
  some-far : Sheet s n → (AllNear s n → ⊥) → SomeFar s n
  some-far f h = ⊎_elim (λ t. absurd (h (sums-facts s n f t))) (sums_far s n f) (true-or-false (sums_ok (least_sums s n) n))

  no_room : (2 * (n * n) ≤ room → ⊥) → room < 2 * (n * n)
  no_room h = ⊎_elim (λ l. l) (λ l. absurd (h l)) (lt-or-le room (2 * (n * n)))

  pub first-decides : FirstDecides n s room (distances_refusal n s room)
  unfolding AllOf
  first-decides = record {
    two = ((first 0 (omega arith)).fails, (first 0 (omega arith)).given (held_none facts));
    eleven = (
      λ e. ((first 1 (omega arith)).before e 0 (omega arith), (first 1 (omega arith)).fails e),
      λ h. (first 1 (omega arith)).given (held-too facts₁ h.0 (held_none facts₁)) h.1,
    );
    twelve = (
      λ e.
          let sheet : Sheet s n = (first 2 (omega arith)).before e 1 (omega arith) in
          ((first 2 (omega arith)).before e 0 (omega arith), sheet, some-far sheet ((first 2 (omega arith)).fails e)),
      λ h. (first 2 (omega arith)).given (held-too facts₁ h.0 (held-too facts₂ h.1 (held_none facts₂))) (far-not-near s n h.1 h.2),
    );
    nine = (
      λ e. (
        (first 3 (omega arith)).before e 0 (omega arith),
        (first 3 (omega arith)).before e 1 (omega arith),
        (first 3 (omega arith)).before e 2 (omega arith),
        no_room ((first 3 (omega arith)).fails e),
      ),
      λ h. (first 3 (omega arith)).given (held-too facts₁ h.0 (held-too facts₂ h.1 (held-too facts₃ h.2 (held_none facts₃)))) (λ l. omega (arith, h.3)),
    );
    none = (
      λ e.
          let f = all_held numbers checks facts numbers-distinct refl decide (sym refusal_is ∙ e) in
          (f.0, f.1.0, f.1.1.0, f.1.1.1.0),
      λ h. refusal_is ∙ none-given numbers checks facts decide (h.0, (h.1, (h.2, (h.3, tt)))),
    );
  }
