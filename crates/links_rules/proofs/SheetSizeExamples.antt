-- A sheet of 512 links passes, and one of 513 does not: by the plain facts, since to work out so long a sheet takes long.
use Prim.Native.Nat.{ℕ, ◌+◌, ◌*◌, ◌/◌, ◌%◌, ◌≤◌, ◌<◌}
use native.Mathlib.Omega.{arith}
use mathlib.Core.Path.{◌≡◌, refl, ◌∙◌, ap}
use mathlib.Core.Bool.{Bool, true, false}
use mathlib.Core.List.{[], ◌∷◌}
use mathlib.Core.Logic.{inl, inr, ⊎_elim}
use lib.ListN.{length, get_or}
use Rattle.base.proofs.Joined.{length-joined, get_or-joined}
use Rattle.base.proofs.Numbers.{lt-or-le}
use Rattle.plan_rules.specs.Rising.{PairBefore}
use Rattle.links_rules.specs.Sheet.{link_from, link_to, link_weight, sheet_ok}
use Rattle.links_rules.specs.SheetFacts.{Sheet}
use Rattle.links_rules.specs.SheetSizeExamples.{first_links, SheetSizeExamples}
use Rattle.links_rules.proofs.Facts.{sheet-facts, sheet-holds}

module _ (m : ℕ) where
  long : length (first_links m) ≡ 4 * m
  long = length-joined (λ k. k / 23 ∷ k % 23 ∷ 1 ∷ 0 ∷ []) 4 (λ k. refl) m

  module _ (k : ℕ) (l : k < m) where
    byte : (i b : ℕ) → i ≡ 4 * k + b → b < 4 → get_or (first_links m) i 0 ≡ get_or (k / 23 ∷ k % 23 ∷ 1 ∷ 0 ∷ []) b 0
    byte i b e h =
        ap (λ i. get_or (first_links m) i 0) e ∙ get_or-joined (λ k. k / 23 ∷ k % 23 ∷ 1 ∷ 0 ∷ []) 4 (λ k. refl) m k b 0 l h

    from_is : link_from (first_links m) k ≡ k / 23
    from_is = byte (4 * k) 0 (omega arith) (omega arith)

    to_is : link_to (first_links m) k ≡ k % 23
    to_is = byte (4 * k + 1) 1 refl (omega arith)

    weight_is : link_weight (first_links m) k ≡ 1
    weight_is = omega (arith, byte (4 * k + 2) 2 refl (omega arith), byte (4 * k + 2 + 1) 3 (omega arith) (omega arith))

  rises : (i j : ℕ) → i < j → j < m → PairBefore (link_from (first_links m)) (link_to (first_links m)) i j
  rises i j l h =
      ⊎_elim (λ (q : i / 23 < j / 23). inl (omega (arith, from_is i (omega arith), from_is j h)))
      (λ (q : j / 23 ≤ i / 23). inr (
        omega (arith, from_is i (omega arith), from_is j h),
        omega (arith, to_is i (omega arith), to_is j h),
      ))
      (lt-or-le (i / 23) (j / 23))

  -- of at most 512, and so of at most 23 times 23
  fits : m ≤ 512 → Sheet (first_links m) 23
  fits h =
      record {
        whole = omega (arith, long);
        most = omega (arith, long);
        froms = λ k l. omega (arith, long, from_is k (omega (arith, long)));
        tos = λ k l. omega (arith, long, to_is k (omega (arith, long)));
        weights = λ k l. omega (arith, long, weight_is k (omega (arith, long)));
        rising = λ i j l g. rises i j l (omega (arith, long));
      }

one-more : (b : Bool) → sheet_ok (first_links 513) 23 ≡ b → sheet_ok (first_links 513) 23 ≡ false
one-more true e = absurd (omega (arith, long 513, (sheet-facts (first_links 513) 23 e).most))
one-more false e = e

pub sheet-size-examples : SheetSizeExamples
sheet-size-examples =
    record { most_links = sheet-holds (first_links 512) 23 (fits 512 (omega arith)); one_link_more = one-more (sheet_ok (first_links 513) 23) refl }
