-- "the same distances": what is read of a converted plan's distances is what is read of the plan's.
use Prim.Native.Nat.{ℕ, ◌+◌, ◌*◌, ◌/◌, ◌%◌, ◌≤◌, ◌<◌}
use native.Mathlib.Nat.{mod-lt, div-add-mod', div-lt_iff_lt-mul, mul-le-mul_left}
use native.Mathlib.Omega.{arith}
use mathlib.Core.Path.{◌≡◌, ◌∙◌, sym, ap, ap₂}
use mathlib.Core.Bool.{true}
use mathlib.Core.List.{List}
use mathlib.Core.Logic.{⊎_elim}
use borrow.Author.Tests.{ne_eqb}
use lib.Dec.{lit<}
use lib.ListN.{length}
use Rattle.base.specs.Bytes.{Bytes}
use Rattle.base.proofs.Below.{all-at, all-intro}
use Rattle.base.proofs.Bytes.{part_bytes, little-past, little-below}
use Rattle.base.proofs.Numbers.{lt-or-le}
use Rattle.plan_contents.specs.Header.{mark, width, router_count}
use Rattle.plan_contents.specs.Contents.{contents_of, distances_entry, distances_body}
use Rattle.plan_rules.specs.Distances.{highest, as_distance, number_at, placed, distance_in, TwoOrFour}
use Rattle.plan_rules.specs.Converted.{converted_number, converted, distance_fits, distances_fit}
use Rattle.plan_rules.specs.Passed.{Passed}
use Rattle.plan_rules.proofs.Widths.{width-of-mark, highest-above}
use Rattle.plan_rules.proofs.DistanceNumbers.{number_small, number-reads, number_fits}
use Rattle.plan_rules.proofs.KindThree.{length-body, number_read}
use Rattle.plan_rules.proofs.Passed.{part_length}
use Rattle.plan_rules.proofs.ConvertedParts.{width-is, count-is, distances-body}

-- past the end of a body every distance reads 0
placed_past : (width : ℕ) → TwoOrFour width → (s : List ℕ) (n i : ℕ) → length s ≡ width * n → n ≤ i → placed width s i ≡ 0
placed_past width t s n i long h =
    ap (as_distance width) (little-past width s (width * i) (omega (arith, mul-le-mul_left width h)))
    ∙ rw (ne_eqb 0 (highest width) (λ e. omega (arith, highest-above width t)))

pub distances-bytes : (plan : List ℕ) → Bytes plan → Bytes (distances_body plan)
distances-bytes plan bytes =
    part_bytes plan bytes (distances_entry (contents_of plan)).size (distances_entry (contents_of plan)).offset

-- the distances of a plan of bytes fit into as many bytes as they have, and into more
pub fit-more : (to : ℕ) (plan : List ℕ) → Bytes plan → highest (width plan) ≤ highest to → distances_fit to plan ≡ true
unfolding distances_fit
fit-more to plan bytes h =
    let w = width plan in
    let n = router_count plan in
    let s = distances_body plan in
    all-intro _ n
    (λ u l.
    all-intro _ n
    (λ e m.
    number_fits w (width-of-mark (mark plan)) (number_at w s (u * n + e)) (little-below s (distances-bytes plan bytes) w (w * (u * n + e))) to h))

module _ (to : ℕ) (t : TwoOrFour to) (plan : List ℕ) (p : Passed plan) (fit : distances_fit to plan ≡ true) where
  abbrev n : ℕ
  n = router_count plan

  abbrev distance : ℕ → ℕ → ℕ
  distance = distance_in (width plan) (distances_body plan) n

  fits-at : (u e : ℕ) → u < n → e < n → distance_fits to (distance u e) ≡ true
  unfolding distances_fit
  fits-at u e l m = all-at _ n (all-at _ n fit u l) e m

  same-cell : (u e : ℕ) → u < n → e < n → distance_in to (distances_body (converted to plan)) n u e ≡ distance u e
  same-cell u e l m =
      let fits = fits-at u e l m in
      ap (λ s. distance_in to s n u e) (distances-body to t plan p)
      ∙ ap (as_distance to) (number_read to (converted_number to plan) n u e l m (number_small to t (distance u e) fits))
      ∙ number-reads to t (distance u e) fits

  pub same-placed : (i : ℕ) → placed to (distances_body (converted to plan)) i ≡ placed (width plan) (distances_body plan) i
  same-placed i = ⊎_elim inside outside (lt-or-le i (n * n))
    where
      inside : i < n * n → placed to (distances_body (converted to plan)) i ≡ placed (width plan) (distances_body plan) i
      inside l =
          let some : 0 < n = p.count.some in
          let place = div-add-mod' i n in
          rw place at (same-cell (i / n) (i % n) ((div-lt_iff_lt-mul some).1 l) (mod-lt i some))

      outside : n * n ≤ i → placed to (distances_body (converted to plan)) i ≡ placed (width plan) (distances_body plan) i
      outside h =
          placed_past to t (distances_body (converted to plan)) (n * n) i (ap length (distances-body to t plan p) ∙ length-body to (converted_number to plan) n) h
          ∙ sym (placed_past (width plan) (width-of-mark (mark plan)) (distances_body plan) (n * n) i (part_length plan p 2 (lit< tt) ∙ p.contents.distances_size) h)

  pub same-distance : (u e : ℕ) →
      distance_in (width (converted to plan)) (distances_body (converted to plan)) (router_count (converted to plan)) u e
      ≡ distance_in (width plan) (distances_body plan) (router_count plan) u e
  same-distance u e =
      ap₂ (λ w n. distance_in w (distances_body (converted to plan)) n u e) (width-is to t plan) (count-is to t plan)
      ∙ same-placed (u * router_count plan + e)
