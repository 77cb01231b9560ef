-- What the converter is refused for, in plain facts and in both directions: document 02, "Wider distances". "The first check in order that
-- fails now decides": 1, the plan's own rows, 14 on the way back alone, and 9.
use Rattle.std.specs.Prelude.{ℕ, ◌+◌, ◌*◌, ◌≤◌, ◌<◌, true, List, ◌⊎◌, ◌↔◌, ◌≡◌, length}
use Rattle.plan_contents.specs.Header.{mark, width, router_count}
use Rattle.plan_contents.specs.Contents.{distances_body}
use Rattle.plan_contents.specs.HeaderFacts.{Header}
use Rattle.plan_rules.specs.Distances.{distance_in, way_in}
use Rattle.plan_rules.specs.Passed.{Passed, row_number}
use Rattle.plan_rules.specs.Refusal.{plan_refusal}

-- row 14: "a distance other than no way exceeds 65,534"
pub record TooFar (plan : List ℕ) : Type 0 where
  pub router : ℕ
  pub egress : ℕ
  pub router_below : router < router_count plan
  pub egress_below : egress < router_count plan
  pub way : way_in (width plan) (distances_body plan) (router_count plan) router egress ≡ true
  pub above : 65534 < distance_in (width plan) (distances_body plan) (router_count plan) router egress

-- what it asks for: no such pair
abbrev pub NoneTooFar : List ℕ → Type 0
NoneTooFar plan =
    (u e : ℕ) → u < router_count plan → e < router_count plan →
    way_in (width plan) (distances_body plan) (router_count plan) u e ≡ true →
    distance_in (width plan) (distances_body plan) (router_count plan) u e ≤ 65534

-- The refusal of widen, which is for RRP1; `room` is the length of the buffer, which has to hold the result. Each number is given exactly if
-- its check fails and those before it pass: `widen-exactly`. Of the plan's rows after the first, `RowExactly` says when each is given.
pub record WidenExactly (plan : List ℕ) (room number : ℕ) : Type 0 where
  -- "A plan of the wrong mark for the direction gives 1", as does what row 1 refuses
  pub one : (number ≡ 1) ↔ ((mark plan ≡ 49 → ⊥) ⊎ (Header plan → ⊥))
  pub plan_rows : (place : ℕ) → 1 ≤ place → place < 8
      → (number ≡ row_number place) ↔ ((mark plan ≡ 49) × (plan_refusal plan ≡ row_number place))
  pub nine : (number ≡ 9) ↔ ((mark plan ≡ 49) × Passed plan × (room < length plan + 2 * (router_count plan * router_count plan)))
  pub none : (number ≡ 0) ↔ ((mark plan ≡ 49) × Passed plan × (length plan + 2 * (router_count plan * router_count plan) ≤ room))

-- The refusal of narrow, which is for RRP2: `narrow-exactly`. "after 7 and before 8" comes 14.
pub record NarrowExactly (plan : List ℕ) (room number : ℕ) : Type 0 where
  pub one : (number ≡ 1) ↔ ((mark plan ≡ 50 → ⊥) ⊎ (Header plan → ⊥))
  pub plan_rows : (place : ℕ) → 1 ≤ place → place < 8
      → (number ≡ row_number place) ↔ ((mark plan ≡ 50) × (plan_refusal plan ≡ row_number place))
  pub fourteen : (number ≡ 14) ↔ ((mark plan ≡ 50) × Passed plan × TooFar plan)
  pub nine : (number ≡ 9)
      ↔ ((mark plan ≡ 50) × Passed plan × NoneTooFar plan × (room + 2 * (router_count plan * router_count plan) < length plan))
  pub none : (number ≡ 0)
      ↔ ((mark plan ≡ 50) × Passed plan × NoneTooFar plan × (length plan ≤ room + 2 * (router_count plan * router_count plan)))
