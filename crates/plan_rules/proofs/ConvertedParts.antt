-- The parts of what a plan that is not refused is converted to: its first bytes, its table of contents, its bodies and its length.
use Prim.Native.Nat.{ℕ, ◌+◌, ◌*◌, ◌≤◌, ◌<◌}
use native.Mathlib.Nat.{mul-le-mul}
use native.Mathlib.Omega.{arith}
use mathlib.Core.Path.{◌≡◌, refl, ◌∙◌, sym, ap, ap₂}
use mathlib.Core.List.{List, [], ◌∷◌, ◌++◌, append_assoc}
use mathlib.Core.Logic.{◌⊎◌, inl, inr, ⊎_elim}
use lib.Dec.{lit<}
use lib.ListN.{length, take, drop, length-append}
use lib.Seq.{take-length, take_at, drop_at}
use Rattle.base.proofs.Bytes.{number-back}
use Rattle.base.proofs.Numbers.{square_le}
use Rattle.plan_contents.specs.declared.entries.Entry.{Entry}
use Rattle.plan_contents.specs.Header.{mark, width_of, width, router_count}
use Rattle.plan_contents.specs.Contents.{contents_of, entry_at, routers_entry, sessions_entry, distances_entry, lists_entry, body, routers_body, sessions_body, distances_body, lists_body}
use Rattle.plan_rules.specs.Distances.{body_of, TwoOrFour}
use Rattle.plan_rules.specs.Converted.{mark_of, entry_bytes, converted_distances_entry, converted_lists_entry, converted_number, converted}
use Rattle.plan_rules.specs.Passed.{Passed}
use Rattle.plan_rules.proofs.KindThree.{length-body}
use Rattle.plan_rules.proofs.Passed.{part_length}

-- each of five lists but the first, as a part of all
fifth : (a b : List ℕ) {at size : ℕ} → length a ≡ at → length b ≡ size → take size (drop at (a ++ b)) ≡ b
fifth a b {at} {size} l m = rw (drop_at a b at l, ← m, take-length b)

fourth : (a b c : List ℕ) {at size : ℕ} → length a ≡ at → length b ≡ size → take size (drop at (a ++ b ++ c)) ≡ b
fourth a b c {at} {size} l m = rw (append_assoc a b c, drop_at a (b ++ c) at l, take_at b c size m)

third : (a b c d : List ℕ) {at size : ℕ} → length a ≡ at → length b ≡ size → take size (drop at (a ++ b ++ c ++ d)) ≡ b
third a b c d l m = rw (append_assoc (a ++ b) c d) (fourth a b (c ++ d) l m)

second : (a b c d e : List ℕ) {at size : ℕ} → length a ≡ at → length b ≡ size → take size (drop at (a ++ b ++ c ++ d ++ e)) ≡ b
second a b c d e l m = rw (append_assoc (a ++ b ++ c) d e) (third a b c (d ++ e) l m)

-- the first six bytes and the table of contents
abbrev front : ℕ → List ℕ → List ℕ
front to plan =
    (82 ∷ 82 ∷ 80 ∷ mark_of to ∷ router_count plan ∷ 4 ∷ [])
    ++ entry_bytes (routers_entry (contents_of plan))
    ++ entry_bytes (sessions_entry (contents_of plan))
    ++ entry_bytes (converted_distances_entry to plan)
    ++ entry_bytes (converted_lists_entry to plan)

-- an entry as it is read of its bytes
entry-back : (e : Entry) → e.offset < 65536 → e.size < 65536 → entry_at (entry_bytes e) 0 ≡ e
unfolding entry_bytes
entry-back e l m = λ i. record { kind = e.kind; offset = number-back 2 e.offset l i; size = number-back 2 e.size m i }

mark-width : (to : ℕ) → TwoOrFour to → width_of (mark_of to) ≡ to
mark-width to (inl e) = rw e
mark-width to (inr e) = rw e

module _ (to : ℕ) (t : TwoOrFour to) (plan : List ℕ) where
  pub mark-is : mark (converted to plan) ≡ mark_of to
  unfolding converted entry_bytes
  mark-is = refl

  pub width-is : width (converted to plan) ≡ to
  width-is = ap width_of mark-is ∙ mark-width to t

  pub count-is : router_count (converted to plan) ≡ router_count plan
  unfolding converted entry_bytes
  count-is = refl

  length_front : length (front to plan) ≡ 26
  unfolding entry_bytes
  length_front = refl

  abbrev distances : List ℕ
  distances = body_of to (converted_number to plan) (router_count plan)

  module _ (p : Passed plan) where
    pub distances-most : to * (router_count plan * router_count plan) ≤ 16384
    distances-most =
        let most : to ≤ 4 = ⊎_elim (λ (e : to ≡ 2). omega arith) (λ (e : to ≡ 4). omega arith) t in
        mul-le-mul most (square_le (router_count plan) 64 p.count.most)

    pub most : length plan ≤ 24923
    most =
        ⊎_elim (λ (h : (mark plan ≡ 49) × (length plan ≤ 16731)). omega arith) (λ (h : (mark plan ≡ 50) × (length plan ≤ 24923)). h.1)
        p.header.marked

    pub routers-entry : routers_entry (contents_of (converted to plan)) ≡ routers_entry (contents_of plan)
    unfolding converted entry_bytes
    routers-entry = entry-back (routers_entry (contents_of plan)) (omega (arith, most)) (omega (arith, most))

    pub sessions-entry : sessions_entry (contents_of (converted to plan)) ≡ sessions_entry (contents_of plan)
    unfolding converted entry_bytes
    sessions-entry = entry-back (sessions_entry (contents_of plan)) (omega (arith, most)) (omega (arith, most))

    pub distances-entry : distances_entry (contents_of (converted to plan)) ≡ converted_distances_entry to plan
    unfolding converted entry_bytes
    distances-entry = entry-back (converted_distances_entry to plan) (omega (arith, most)) (omega (arith, distances-most))

    pub lists-entry : lists_entry (contents_of (converted to plan)) ≡ converted_lists_entry to plan
    unfolding converted entry_bytes
    lists-entry = entry-back (converted_lists_entry to plan) (omega (arith, most, distances-most)) (omega (arith, most))

    -- how long its parts are
    pub routers-long : length (routers_body plan) ≡ (routers_entry (contents_of plan)).size
    routers-long = part_length plan p 0 (lit< tt)

    pub sessions-long : length (sessions_body plan) ≡ (sessions_entry (contents_of plan)).size
    sessions-long = part_length plan p 1 (lit< tt)

    pub distances-long : length distances ≡ to * (router_count plan * router_count plan)
    distances-long = length-body to (converted_number to plan) (router_count plan)

    pub lists-long : length (lists_body plan) ≡ (lists_entry (contents_of plan)).size
    lists-long = part_length plan p 3 (lit< tt)

    -- what stands before each body
    before-routers : length (front to plan) ≡ (routers_entry (contents_of plan)).offset
    before-routers = length_front ∙ sym p.contents.routers_start

    before-sessions : length (front to plan ++ routers_body plan) ≡ (sessions_entry (contents_of plan)).offset
    before-sessions = length-append (front to plan) (routers_body plan) ∙ omega (arith, before-routers, routers-long)

    before-distances : length (front to plan ++ routers_body plan ++ sessions_body plan) ≡ (distances_entry (contents_of plan)).offset
    before-distances =
        length-append (front to plan ++ routers_body plan) (sessions_body plan) ∙ omega (arith, before-sessions, sessions-long)

    before-lists : length (front to plan ++ routers_body plan ++ sessions_body plan ++ distances) ≡ (converted_lists_entry to plan).offset
    before-lists =
        length-append (front to plan ++ routers_body plan ++ sessions_body plan) distances ∙ omega (arith, before-distances, distances-long)

    -- the whole, and its parts
    whole : converted to plan ≡ front to plan ++ routers_body plan ++ sessions_body plan ++ distances ++ lists_body plan
    unfolding converted
    whole = refl

    pub length-is : length (converted to plan) ≡ (converted_lists_entry to plan).offset + (lists_entry (contents_of plan)).size
    length-is =
        ap length whole
        ∙ length-append (front to plan ++ routers_body plan ++ sessions_body plan ++ distances) (lists_body plan)
        ∙ ap₂ ◌+◌ before-lists lists-long

    pub longer :
        length (converted to plan) + width plan * (router_count plan * router_count plan) ≡ length plan + to * (router_count plan * router_count plan)
    longer = omega (arith, length-is)

    pub routers-body : routers_body (converted to plan) ≡ routers_body plan
    routers-body =
        ap₂ body whole routers-entry
        ∙ second (front to plan) (routers_body plan) (sessions_body plan) distances (lists_body plan) before-routers routers-long

    pub sessions-body : sessions_body (converted to plan) ≡ sessions_body plan
    sessions-body =
        ap₂ body whole sessions-entry
        ∙ third (front to plan ++ routers_body plan) (sessions_body plan) distances (lists_body plan) before-sessions sessions-long

    pub distances-body : distances_body (converted to plan) ≡ distances
    distances-body =
        ap₂ body whole distances-entry
        ∙ fourth (front to plan ++ routers_body plan ++ sessions_body plan) distances (lists_body plan) before-distances distances-long

    pub lists-body : lists_body (converted to plan) ≡ lists_body plan
    lists-body =
        ap₂ body whole lists-entry
        ∙ fifth (front to plan ++ routers_body plan ++ sessions_body plan ++ distances) (lists_body plan) before-lists lists-long

-- how long what it is converted to is, by its mark
module _ (plan : List ℕ) (p : Passed plan) where
  abbrev square : ℕ
  square = router_count plan * router_count plan

  pub widened-length : mark plan ≡ 49 → length (converted 4 plan) ≡ length plan + 2 * square
  widened-length m =
      let two : width plan * square ≡ 2 * square = rw m in omega (arith, longer 4 (inr refl) plan p)

  pub narrowed-length : mark plan ≡ 50 → length (converted 2 plan) + 2 * square ≡ length plan
  narrowed-length m =
      let four : width plan * square ≡ 4 * square = rw m in omega (arith, longer 2 (inl refl) plan p)
