-- The examples of numbers and tables, worked out from the definitions that the contracts cite.
use Prim.Native.Nat.{ℕ, zero, suc, ◌<◌}
use native.Mathlib.Omega.{arith}
use mathlib.Core.Path.{◌≡◌, refl, ap}
use mathlib.Core.Bool.{true, false}
use mathlib.Core.Option.{Option, some}
use mathlib.Core.Logic.{◌↔◌}
use lib.ListN.{get_or}
use lib.Dec.{lit<, lit≤}
use Rattle.base.proofs.Numbers.{not-both}
use Rattle.plan_examples.specs.Plans.{four_routers, small_plan, m3_plan}
use Rattle.steady_rules.specs.Numbers.{bit_at, nth_of}
use Rattle.net_rules.specs.FromPlan.{instance_of}
use Rattle.call_rules.proofs.RowsExactly.{table-tested}
use Rattle.call_run.specs.Activate.{activate_table}
use Rattle.steady_examples.specs.SteadyCallExamples.{pairs_and_one}
use Rattle.checker_examples.proofs.Questions.{all_rules}
use Rattle.checker_theorems.specs.SteadyListed.{group_members, NoActChanges, HoldsOwnBytes}
use Rattle.checker_theorems.specs.SteadyListedExamples.{own_at0, own_at_both, SteadyListedExamples}

unmoved : (w : ℕ) → w < 4 → activate_table m3_plan 0 w own_at0 ≡ own_at0
unfolding all_rules four_routers small_plan m3_plan
unmoved zero l = refl
unmoved (suc zero) l = refl
unmoved (suc (suc zero)) l = refl
unmoved (suc (suc (suc zero))) l = refl
unmoved (suc (suc (suc (suc w)))) l = absurd (omega arith)

-- an act of router 0, which hears 3 from 1
moved : NoActChanges m3_plan 0 own_at_both → ⊥
unfolding all_rules four_routers small_plan m3_plan
moved u =
    let e : ◌≡◌ {A = ℕ} 3 2 = ap (λ b. get_or b 0 0) (u.unchanged 0 (omega arith)) in
    omega arith

held-at-0 : HoldsOwnBytes m3_plan 0 own_at0 0
unfolding all_rules four_routers small_plan m3_plan
held-at-0 = record { client = 2; best = refl; egress = refl; sender = refl }

-- the best client of 1 is 3, and its egress is 2
not-held-at-1 : HoldsOwnBytes m3_plan 0 own_at0 1 → ⊥
unfolding all_rules four_routers small_plan m3_plan
not-held-at-1 o =
    let best : ◌≡◌ {A = Option ℕ} (some 3) (some o.client) = o.best in
    let e : 3 ≡ o.client = cc in
    let f : 2 ≡ o.client = o.egress in
    omega arith

bits : (i : ℕ) → i < 2 → (bit_at 1 i ≡ true) ↔ HoldsOwnBytes m3_plan 0 own_at0 (get_or (group_members m3_plan 0) i 0)
unfolding all_rules four_routers small_plan m3_plan nth_of
bits zero l = (λ b. held-at-0, λ o. refl)
bits (suc zero) l = (λ (b : false ≡ true). absurd (not-both false b refl), λ o. absurd (not-held-at-1 o))
bits (suc (suc i)) l = absurd (omega arith)

pub steady-listed-examples : SteadyListedExamples
unfolding all_rules four_routers small_plan m3_plan pairs_and_one nth_of
steady-listed-examples =
    record {
      call = record { answer = refl; numbered = refl; counted = refl; written = refl };
      second = refl;
      members = refl;
      rests = record { long = lit≤ tt; rule = (table-tested (instance_of m3_plan 0) (lit≤ tt) own_at0).shown refl; unchanged = unmoved };
      moves = moved;
      held = held-at-0;
      not_held = not-held-at-1;
      named = record { bits = bits; below = lit< tt };
    }
