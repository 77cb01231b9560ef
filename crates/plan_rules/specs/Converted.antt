-- Document 02, "Wider distances": "A converter turns RRP1 into RRP2 with the same distances, other bodies, verdicts, held routes and runs,
-- and back again to identical bytes". `to` is the width of the distances in the result: 4 where RRP1 becomes RRP2, 2 on the way back.
use Rattle.std.specs.Prelude.{ℕ, ◌+◌, ◌*◌, Bool, cond, not, ◌||◌, List, [], ◌∷◌, ◌++◌, leb, ltb, eqb, length}
use Rattle.base.specs.Below.{all_below}
use Rattle.base.specs.Bytes.{bytes_of}
use Rattle.plan_contents.specs.declared.entries.Entry.{Entry}
use Rattle.plan_contents.specs.Header.{mark, width, router_count}
use Rattle.plan_contents.specs.Contents.{contents_of, routers_entry, sessions_entry, distances_entry, lists_entry, routers_body, sessions_body, distances_body, lists_body}
use Rattle.plan_rules.specs.Distances.{highest, is_way, distance_in, body_of}
use Rattle.plan_rules.specs.Refusal.{refuse, plan_checks}

-- the mark of plans with distances of so many bytes: RRP2 with 4, RRP1 with 2
abbrev pub mark_of : ℕ → ℕ
mark_of to = cond (eqb to 4) 50 49

-- "four entries of kind (1 byte), offset (2), length (2)", "low byte first"
unfoldable pub entry_bytes : Entry → List ℕ
entry_bytes e = e.kind ∷ bytes_of 2 e.offset ++ bytes_of 2 e.size

-- the entries of the result: distances of another length, so that the lists start elsewhere
abbrev pub converted_distances_entry : ℕ → List ℕ → Entry
converted_distances_entry to plan =
    record { kind = 3; offset = (distances_entry (contents_of plan)).offset; size = to * (router_count plan * router_count plan) }

abbrev pub converted_lists_entry : ℕ → List ℕ → Entry
converted_lists_entry to plan =
    record {
      kind = 4;
      offset = (distances_entry (contents_of plan)).offset + to * (router_count plan * router_count plan);
      size = (lists_entry (contents_of plan)).size;
    }

-- how the distance from u to e stands in the result: "the same distances", no way as the highest number of so many bytes
abbrev pub converted_number : ℕ → List ℕ → ℕ → ℕ → ℕ
converted_number to plan u e =
    let distance = distance_in (width plan) (distances_body plan) (router_count plan) u e in
    cond (is_way distance) distance (highest to)

-- the result: "the same distances, other bodies"
unfoldable pub converted : ℕ → List ℕ → List ℕ
converted to plan =
    (82 ∷ 82 ∷ 80 ∷ mark_of to ∷ router_count plan ∷ 4 ∷ [])
    ++ entry_bytes (routers_entry (contents_of plan))
    ++ entry_bytes (sessions_entry (contents_of plan))
    ++ entry_bytes (converted_distances_entry to plan)
    ++ entry_bytes (converted_lists_entry to plan)
    ++ routers_body plan
    ++ sessions_body plan
    ++ body_of to (converted_number to plan) (router_count plan)
    ++ lists_body plan

-- "It refuses with 14 if, on the way back, a distance other than no way exceeds 65,534": every other one is below the highest number of
-- `to` bytes
abbrev pub distance_fits : ℕ → ℕ → Bool
distance_fits to distance = not (is_way distance) || ltb distance (highest to)

unfoldable pub distances_fit : ℕ → List ℕ → Bool
distances_fit to plan =
    let n = router_count plan in
    all_below (λ u. all_below (λ e. distance_fits to (distance_in (width plan) (distances_body plan) n u e)) n) n

-- "A plan of the wrong mark for the direction gives 1.": the mark is that of distances of `from` bytes
abbrev pub marked_for : ℕ → List ℕ → Bool
marked_for from plan = eqb (mark plan) (mark_of from)

-- Slip 8's rows in order: 1, the plan's own, 14 "after 7 and before 8", on the way back alone, and 9; `room` is the buffer's length
unfoldable pub widen_refusal : List ℕ → ℕ → ℕ
widen_refusal plan room =
    refuse (marked_for 2 plan) 1 (plan_checks plan (refuse (leb (length (converted 4 plan)) room) 9 0))

unfoldable pub narrow_refusal : List ℕ → ℕ → ℕ
narrow_refusal plan room =
    refuse (marked_for 4 plan) 1
    (plan_checks plan (refuse (distances_fit 2 plan) 14 (refuse (leb (length (converted 2 plan)) room) 9 0)))
