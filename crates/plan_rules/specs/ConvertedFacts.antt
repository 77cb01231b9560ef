-- What the converter makes of a plan, in plain facts: document 02, "Wider distances".
use Rattle.std.specs.Prelude.{ℕ, ◌+◌, ◌*◌, ◌≤◌, ◌<◌, List, ◌≡◌, length}
use Rattle.plan_contents.specs.Header.{mark, width, router_count}
use Rattle.plan_contents.specs.Contents.{routers_body, sessions_body, distances_body, lists_body}
use Rattle.plan_rules.specs.Distances.{placed, distance_in, way_in}
use Rattle.plan_rules.specs.EgressLists.{list_count, list_start, list_size, list_numbers}
use Rattle.plan_rules.specs.Refusal.{plan_refusal}
use Rattle.plan_rules.specs.Converted.{mark_of, converted, widen_refusal, narrow_refusal}

-- "A converter turns RRP1 into RRP2 with the same distances, other bodies ..". `to` is the width of the distances in the result. The
-- theorem `converted-facts` says this of a plan that is not refused and whose distances fit.
pub record ConvertedFacts (to : ℕ) (plan result : List ℕ) : Type 0 where
  -- "turns RRP1 into RRP2", "and back again"
  pub marked : mark result ≡ mark_of to
  pub width_is : width result ≡ to
  pub count : router_count result ≡ router_count plan
  -- "the same distances": at every place of the body, and so from every router to every other; no way stays no way
  pub at_every_place : (i : ℕ) → placed to (distances_body result) i ≡ placed (width plan) (distances_body plan) i
  pub distances : (u e : ℕ) →
      distance_in (width result) (distances_body result) (router_count result) u e
      ≡ distance_in (width plan) (distances_body plan) (router_count plan) u e
  pub ways : (u e : ℕ) →
      way_in (width result) (distances_body result) (router_count result) u e
      ≡ way_in (width plan) (distances_body plan) (router_count plan) u e
  -- "other bodies"
  pub routers : routers_body result ≡ routers_body plan
  pub sessions : sessions_body result ≡ sessions_body plan
  pub lists : lists_body result ≡ lists_body plan
  -- each list with its numbers, which start elsewhere: kind 3 has `to` * n² bytes now
  pub list_sizes : (k : ℕ) → list_size result k ≡ list_size plan k
  pub list_starts : (k : ℕ) →
      list_start result k + width plan * (router_count plan * router_count plan)
      ≡ list_start plan k + to * (router_count plan * router_count plan)
  pub numbers : (k : ℕ) → k < list_count plan → list_numbers result k ≡ list_numbers plan k
  pub long : length result + width plan * (router_count plan * router_count plan) ≡ length plan + to * (router_count plan * router_count plan)
  -- the result is a plan, which is not refused
  pub passes : plan_refusal result ≡ 0

-- "and back again to identical bytes": narrow after widen. The theorem `narrow-after-widen` says this of a plan that widen does not refuse;
-- `room` is the length of the buffer lent to narrow.
pub record NarrowedBack (plan : List ℕ) : Type 0 where
  pub bytes : converted 2 (converted 4 plan) ≡ plan
  pub accepted : (room : ℕ) → length plan ≤ room → narrow_refusal (converted 4 plan) room ≡ 0

-- .. and widen after narrow: `widen-after-narrow`, of a plan that narrow does not refuse
pub record WidenedBack (plan : List ℕ) : Type 0 where
  pub bytes : converted 4 (converted 2 plan) ≡ plan
  pub accepted : (room : ℕ) → length plan ≤ room → widen_refusal (converted 2 plan) room ≡ 0
