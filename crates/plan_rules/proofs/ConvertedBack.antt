-- "and back again to identical bytes".
use Prim.Native.Nat.{ℕ, ◌+◌, ◌*◌, ◌≤◌, ◌<◌}
use native.Mathlib.Omega.{arith}
use mathlib.Core.Path.{◌≡◌, refl, ◌∙◌, sym, ap, ap₂}
use mathlib.Core.Bool.{true}
use mathlib.Core.List.{List, [], ◌∷◌, ◌++◌}
use mathlib.Core.Logic.{⊎_elim}
use lib.Dec.{lit<, lit≤}
use lib.ListN.{length, get_or, take, drop}
use lib.Seq.{take-add, take-length, drop-cons, drop-drop}
use Rattle.base.specs.Bytes.{Bytes, little_endian, bytes_of}
use Rattle.base.proofs.Bytes.{little-below, bytes_back}
use Rattle.plan_contents.specs.Header.{mark, width, router_count}
use Rattle.plan_contents.specs.Contents.{contents_of, entry_at, routers_entry, sessions_entry, distances_entry, lists_entry, distances_body}
use Rattle.plan_rules.specs.Distances.{number_at, body_of, TwoOrFour}
use Rattle.plan_rules.specs.Converted.{mark_of, entry_bytes, converted_distances_entry, converted_lists_entry, converted_number, converted, distances_fit}
use Rattle.plan_rules.specs.Passed.{Passed}
use Rattle.plan_rules.proofs.Widths.{width-of-mark}
use Rattle.plan_rules.proofs.DistanceNumbers.{number_of, number-kept}
use Rattle.plan_rules.proofs.KindThree.{body-cong, body_back}
use Rattle.plan_rules.proofs.Passed.{part_length}
use Rattle.plan_rules.proofs.ConvertedParts.{count-is, routers-entry, sessions-entry, distances-entry, lists-entry, routers-body, sessions-body, lists-body}
use Rattle.plan_rules.proofs.ConvertedDistances.{distances-bytes, same-distance}

-- a plan is converted to the same bytes as what it was converted to before
pub converted-again :
    (to : ℕ) → TwoOrFour to → (plan : List ℕ) → Passed plan → distances_fit to plan ≡ true →
    (next : ℕ) → converted next (converted to plan) ≡ converted next plan
unfolding converted
converted-again to t plan p fit next =
    let count : router_count (converted to plan) ≡ router_count plan = count-is to t plan in
    λ i.
    (82 ∷ 82 ∷ 80 ∷ mark_of next ∷ count i ∷ 4 ∷ [])
    ++ entry_bytes (routers-entry to t plan p i)
    ++ entry_bytes (sessions-entry to t plan p i)
    ++ entry_bytes (record { kind = 3; offset = (distances-entry to t plan p i).offset; size = next * (count i * count i) })
    ++ entry_bytes
    (record {
      kind = 4;
      offset = (distances-entry to t plan p i).offset + next * (count i * count i);
      size = (lists-entry to t plan p i).size;
    })
    ++ routers-body to t plan p i
    ++ sessions-body to t plan p i
    ++ body_of next (λ u e. number_of next (same-distance to t plan p fit u e i)) (count i)
    ++ lists-body to t plan p i

-- one part of a list more
next-part : (s : List ℕ) {front part : List ℕ} (at size next : ℕ) → front ≡ take at s → part ≡ take size (drop at s) → at + size ≡ next
    → front ++ part ≡ take next s
next-part s at size next f q e = ap₂ ◌++◌ f q ∙ sym (take-add at size s) ∙ ap (λ k. take k s) e

one-part : (s : List ℕ) (at : ℕ) → at < length s → get_or s at 0 ∷ [] ≡ take 1 (drop at s)
one-part s at l = sym (ap (take 1) (drop-cons s at 0 l))

-- an entry's bytes are those that it was read of
entry-bytes : (plan : List ℕ) → Bytes plan → (at : ℕ) → at + 5 ≤ length plan → entry_bytes (entry_at plan at) ≡ take 5 (drop at plan)
unfolding entry_bytes
entry-bytes plan bytes at l =
    let s = drop at plan in
    let offset : bytes_of 2 (little_endian 2 plan (at + 1)) ≡ take 2 (drop 1 s) =
    bytes_back plan bytes 2 (at + 1) (omega arith) ∙ ap (take 2) (sym (drop-drop 1 at plan)) in
    let size : bytes_of 2 (little_endian 2 plan (at + 3)) ≡ take 2 (drop 3 s) =
    bytes_back plan bytes 2 (at + 3) (omega arith) ∙ ap (take 2) (sym (drop-drop 3 at plan)) in
    next-part s 3 2 5 (next-part s 1 2 3 (one-part plan at (omega arith)) offset refl) size refl

module _ (plan : List ℕ) (bytes : Bytes plan) (p : Passed plan) where
  own-mark : mark_of (width plan) ≡ mark plan
  own-mark =
      ⊎_elim (λ (h : (mark plan ≡ 49) × (length plan ≤ 16731)). rw h.0)
      (λ (h : (mark plan ≡ 50) × (length plan ≤ 24923)). rw h.0)
      p.header.marked

  first-six : 82 ∷ 82 ∷ 80 ∷ mark_of (width plan) ∷ router_count plan ∷ 4 ∷ [] ≡ take 6 plan
  first-six =
      let six : (k : ℕ) → k < 6 → get_or plan k 0 ∷ [] ≡ take 1 (drop k plan) = λ k l. one-part plan k (omega (arith, p.header.least)) in
      let two = next-part plan 1 1 2 (six 0 (lit< tt)) (six 1 (lit< tt)) refl in
      let three = next-part plan 2 1 3 two (six 2 (lit< tt)) refl in
      let four = next-part plan 3 1 4 three (six 3 (lit< tt)) refl in
      let five = next-part plan 4 1 5 four (six 4 (lit< tt)) refl in
      (λ i.
      sym p.header.letter_r i
      ∷ sym p.header.letter_r₂ i
      ∷ sym p.header.letter_p i
      ∷ own-mark i
      ∷ router_count plan
      ∷ sym p.header.four_entries i
      ∷ [])
      ∙ next-part plan 5 1 6 five (six 5 (lit< tt)) refl

  distances-entry-own : converted_distances_entry (width plan) plan ≡ distances_entry (contents_of plan)
  distances-entry-own =
      λ i. record {
        kind = sym p.contents.distances_kind i;
        offset = (distances_entry (contents_of plan)).offset;
        size = sym p.contents.distances_size i;
      }

  lists-entry-own : converted_lists_entry (width plan) plan ≡ lists_entry (contents_of plan)
  lists-entry-own =
      let start : (converted_lists_entry (width plan) plan).offset ≡ (lists_entry (contents_of plan)).offset = omega arith in
      λ i. record { kind = sym p.contents.lists_kind i; offset = start i; size = (lists_entry (contents_of plan)).size }

  distances-own : body_of (width plan) (converted_number (width plan) plan) (router_count plan) ≡ distances_body plan
  distances-own =
      let w = width plan in
      let n = router_count plan in
      let s = distances_body plan in
      body-cong w (converted_number w plan) (λ u e. number_at w s (u * n + e)) n
      (λ u e l m. number-kept w (width-of-mark (mark plan)) _ (little-below s (distances-bytes plan bytes) w (w * (u * n + e))))
      ∙ body_back w s (distances-bytes plan bytes) n (part_length plan p 2 (lit< tt) ∙ p.contents.distances_size)

  first-26 :
      (82 ∷ 82 ∷ 80 ∷ mark_of (width plan) ∷ router_count plan ∷ 4 ∷ [])
      ++ entry_bytes (routers_entry (contents_of plan))
      ++ entry_bytes (sessions_entry (contents_of plan))
      ++ entry_bytes (converted_distances_entry (width plan) plan)
      ++ entry_bytes (converted_lists_entry (width plan) plan)
      ≡ take 26 plan
  first-26 =
      let entry : (at : ℕ) → at + 5 ≤ 26 → entry_bytes (entry_at plan at) ≡ take 5 (drop at plan) =
      λ at l. entry-bytes plan bytes at (omega (arith, p.header.least)) in
      let one = next-part plan 6 5 11 first-six (entry 6 (lit≤ tt)) refl in
      let two = next-part plan 11 5 16 one (entry 11 (lit≤ tt)) refl in
      let three = next-part plan 16 5 21 two (ap entry_bytes distances-entry-own ∙ entry 16 (lit≤ tt)) refl in
      next-part plan 21 5 26 three (ap entry_bytes lists-entry-own ∙ entry 21 (lit≤ tt)) refl

  -- a plan of bytes is what it is converted to with as many bytes a distance as it has
  pub converted-own : converted (width plan) plan ≡ plan
  unfolding converted
  converted-own =
      let c = contents_of plan in
      let front = first-26 ∙ ap (λ k. take k plan) (sym p.contents.routers_start) in
      let routers = next-part plan (routers_entry c).offset (routers_entry c).size (sessions_entry c).offset front refl (omega arith) in
      let sessions = next-part plan (sessions_entry c).offset (sessions_entry c).size (distances_entry c).offset routers refl (omega arith) in
      let distances = next-part plan (distances_entry c).offset (distances_entry c).size (lists_entry c).offset sessions distances-own (omega arith) in
      next-part plan (lists_entry c).offset (lists_entry c).size (length plan) distances refl (omega arith) ∙ take-length plan

-- the way back: as many bytes a distance as before
pub converted-back :
    (to : ℕ) → TwoOrFour to → (plan : List ℕ) → Bytes plan → Passed plan → distances_fit to plan ≡ true →
    converted (width plan) (converted to plan) ≡ plan
converted-back to t plan bytes p fit = converted-again to t plan p fit (width plan) ∙ converted-own plan bytes p
