-- What the call's answer means: the body that it writes, and every byte that it leaves.
use Prim.Native.Nat.{ℕ, zero, suc, ◌+◌, ◌*◌, ◌≤◌, ◌<◌}
use native.Mathlib.Omega.{arith}
use mathlib.Core.Path.{◌≡◌, refl, ◌∙◌, sym, ap}
use mathlib.Core.Bool.{true, false}
use mathlib.Core.List.{List, ◌++◌}
use mathlib.Core.Logic.{◌⊎◌, inl, inr, ◌↔◌}
use mathlib.Core.Option.{Option, none, some}
use borrow.Author.Tests.{eq-eqb, ne_eqb}
use lib.ListN.{length, drop}
use lib.Seq.{take_at, drop_at}
use Rattle.base.proofs.Numbers.{not-both}
use Rattle.plan_rules.specs.Distances.{no_way, as_distance, number_at, is_way, distance_in}
use Rattle.plan_rules.proofs.Facts.{distances-holds}
use Rattle.plan_rules.proofs.KindThree.{length-body, number_read}
use Rattle.links_rules.specs.Walks.{Walk, stay, sum, Least, LeastIs}
use Rattle.links_rules.specs.Sums.{least_sums}
use Rattle.links_rules.specs.Distances.{distance_of, sheet_body, distances_refusal, distances_after, DistancesCall}
use Rattle.links_rules.specs.SheetFacts.{Sheet, Near, AllNear, LeastBody, CallMeans}
use Rattle.links_rules.proofs.Facts.{near-most, computed-least}
use Rattle.links_rules.proofs.InOrder.{first-decides}
use Rattle.links_rules.proofs.Returns.{after-refused, after-made}

-- the walk of no link
least-itself : (s : List ℕ) (u d : ℕ) → Least s u u d → d ≡ 0
unfolding sum
least-itself s u d l = omega (arith, l.least (stay refl))

-- what the number d in row u, column e is: a least sum that is a distance, or 65,535 where there is no walk
abbrev Entry : List ℕ → ℕ → ℕ → ℕ → Type 0
Entry s u e d = (Least s u e d × (d ≤ 65534)) ⊎ ((Walk s u e → ⊥) × (d ≡ 65535))

module _ (s : List ℕ) (u e d : ℕ) where
  entry-small : Entry s u e d → d < 65536
  entry-small (inl h) = omega (arith, h.1)
  entry-small (inr h) = omega (arith, h.1)

  entry-walked : Entry s u e d → Walk s u e → Least s u e (as_distance 2 d)
  entry-walked (inl h) w = rw (ne_eqb d 65535 (λ q. omega (arith, h.1))) h.0
  entry-walked (inr h) w = absurd (h.0 w)

  entry-none : Entry s u e d → (d ≡ 65535) ↔ (Walk s u e → ⊥)
  entry-none (inl h) = (λ q. absurd (omega (arith, h.1)), λ q. absurd (q h.0.walk))
  entry-none (inr h) = (λ q. h.0, λ q. h.1)

  entry-way : Entry s u e d → (is_way (as_distance 2 d) ≡ true) ↔ Walk s u e
  entry-way (inl h) = (λ q. h.0.walk, λ w. rw (ne_eqb d 65535 (λ q. omega (arith, h.1)), ne_eqb d no_way (λ q. omega (arith, h.1))))
  entry-way (inr h) = (λ q. not-both false (rw (eq-eqb d 65535 h.1) at q) refl, λ w. absurd (h.0 w))

module _ (s : List ℕ) (n : ℕ) where
  body-length : length (sheet_body s n) ≡ 2 * (n * n)
  unfolding sheet_body
  body-length = length-body 2 _ n

  module _ (sheet : Sheet s n) (all : AllNear s n) where
    -- an entry as it is computed
    entry-least : (u e : ℕ) (x : Option ℕ) → LeastIs s u e x → (Walk s u e → Near s u e) → Entry s u e (distance_of x)
    unfolding LeastIs
    entry-least u e none l h = inr (l, refl)
    entry-least u e (some d) l h = inl (l, near-most s u e d l h)

    entry-is : (u e : ℕ) → u < n → e < n → Entry s u e (number_at 2 (sheet_body s n) (u * n + e))
    unfolding sheet_body
    entry-is u e l m =
        let entry = entry-least u e (least_sums s n u e) (computed-least s n sheet u e l m) (all u e l m) in
        rw (number_read 2 (λ u e. distance_of (least_sums s n u e)) n u e l m (entry-small s u e _ entry)) entry

    pub least-body : LeastBody s n (sheet_body s n)
    least-body =
        let zeros : (u : ℕ) → u < n → distance_in 2 (sheet_body s n) n u u ≡ 0 =
        λ u l. least-itself s u _ (entry-walked s u u _ (entry-is u u l l) (stay refl))
        in
        record {
          long = body-length;
          least = λ u e l m. entry-walked s u e _ (entry-is u e l m);
          no_walk = λ u e l m. entry-none s u e _ (entry-is u e l m);
          ways = λ u e l m. entry-way s u e _ (entry-is u e l m);
          diagonal = zeros;
          passes = distances-holds 2 (sheet_body s n) n (record { diagonal = zeros });
        }

pub call-means : (n : ℕ) (s : List ℕ) (r : ℕ) (out after : List ℕ) → DistancesCall n s r out after → CallMeans n s r out after
call-means n s r out after c = record {
  decided = rw c.number (first-decides n s (length out));
  unchanged = λ h. c.bytes ∙ kept r c.number h;
  body =
      λ z.
      let f = (first-decides n s (length out)).none.0 (sym c.number ∙ z) in
      rw (made z, take_at (sheet_body s n) (drop (2 * (n * n)) out) (2 * (n * n)) (body-length s n)) (least-body s n f.1 f.2);
  rest = λ z. ap (drop (2 * (n * n))) (made z) ∙ drop_at (sheet_body s n) (drop (2 * (n * n)) out) (2 * (n * n)) (body-length s n);
}
  where
    kept : (number : ℕ) → number ≡ distances_refusal n s (length out) → (number ≡ 0 → ⊥) → distances_after n s out ≡ out
    kept zero e h = absurd (h refl)
    kept (suc number) e h = after-refused n s out number (sym e)

    made : r ≡ 0 → after ≡ sheet_body s n ++ drop (2 * (n * n)) out
    made z = c.bytes ∙ after-made n s out (sym c.number ∙ z)
