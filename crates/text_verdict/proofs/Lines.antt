-- The line of a list, by what was found; and the text of a plan, by its refusal.
use Prim.Native.Nat.{ℕ, ◌≤◌, ◌<◌}
use native.Mathlib.Omega.{arith}
use mathlib.Core.Path.{◌≡◌, refl, ◌∙◌, sym, ap, ap₂}
use mathlib.Core.Bool.{Bool, true, false, cond}
use mathlib.Core.List.{List, ◌++◌}
use lib.ListN.{length, take, drop, length-append}
use lib.Seq.{take-append_seam}
use Rattle.base.specs.Seek.{flag, highest}
use Rattle.base.proofs.Seek.{highest-under}
use Rattle.plan_contents.specs.Header.{router_count}
use Rattle.plan_rules.specs.Refusal.{plan_refusal}
use Rattle.plan_rules.specs.EgressLists.{list_count}
use Rattle.plan_rules.proofs.Passed.{passed}
use Rattle.plan_read.specs.declared.refusal.CheckedPlan.{CheckedPlan}
use Rattle.plan_read.specs.Checked.{Accepted}
use Rattle.graph_ranks.specs.Rank.{rank}
use Rattle.graph_ranks.proofs.RankRule.{rank_below}
use Rattle.graph_groups.proofs.Sharing.{stable-acyclic}
use Rattle.route_rules.specs.Instance.{Instance}
use Rattle.route_rules.specs.Reliance.{reliance}
use Rattle.route_rules.proofs.Reliance.{relies-other}
use Rattle.net_rules.specs.FromPlan.{instance_of}
use Rattle.net_verdict.specs.declared.Assessment.{Assessment}
use Rattle.net_verdict.specs.declared.Assessment.TheVariants.{Stable, Suspect}
use Rattle.call_rules.proofs.Granted.{few-routers}
use Rattle.net_verdict.specs.Assessed.{is_stable, highest_of, cycle_of, found, cycle_left}
use Rattle.plan_rules.proofs.Refused.{when-refused, when-given}
use Rattle.text_lines.specs.Text.{head_line, refused_line, stable_line, suspect_line}
use Rattle.text_verdict_rules.specs.Listing.{list_line, list_lines, plan_text}
use Rattle.text_verdict.specs.Found.{found_line, Printable}

module _ (plan : List ℕ) where
  pub text-refused : (number : ℕ) → number ≡ plan_refusal plan → (number ≡ 0 → ⊥) → refused_line number ≡ plan_text plan
  unfolding plan_text
  text-refused number e ne = ap refused_line e ∙ sym (when-refused _ _ _ (λ z. ne (e ∙ z)))

  -- where the plan passes
  module _ (ok : plan_refusal plan ≡ 0) where
    few-lists : list_count plan ≤ 64
    few-lists = (passed plan ok).lists.most

    module _ (k : ℕ) (asked : k < list_count plan) where
      abbrev I : Instance
      I = instance_of plan k

      highest-few : is_stable I ≡ true → highest_of I ≤ 64
      unfolding is_stable highest_of
      highest-few s =
          let R = reliance I in
          let n = router_count plan in
          let none = stable-acyclic R n (λ i m. ap flag (relies-other I i)) s in
          let low : highest (rank R n) n ≤ n = highest-under (rank R n) n n (λ w l. omega (arith, rank_below R n none w l)) in
          omega (arith, few-routers plan ok)

      -- what was found says the list's line
      pub found-says :
          {r : Assessment} (shown shown' : List ℕ) → r ≡ found I → shown' ≡ cycle_left I shown → length shown' ≤ 64 →
          Printable r k shown' × (found_line r k shown' ≡ list_line plan k)
      unfolding list_line found cycle_left
      found-says {r} shown shown' verdict cycled short = go (is_stable I) refl
        where
          cycle : List ℕ
          cycle = cycle_of I

          -- what the verdict decides
          by : {A : Type 0} {b : Bool} (x y : A) → is_stable I ≡ b → cond (is_stable I) x y ≡ cond b x y
          by x y = ap (λ b. cond b x y)

          line : {b : Bool} → is_stable I ≡ b → cond b (stable_line k (highest_of I)) (suspect_line k cycle) ≡ list_line plan k
          line s = sym (by (stable_line k (highest_of I)) (suspect_line k cycle) s)

          go : (b : Bool) → is_stable I ≡ b → Printable r k shown' × (found_line r k shown' ≡ list_line plan k)
          go true s =
              let is : r ≡ Stable (highest_of I) = verdict ∙ by (Stable (highest_of I)) (Suspect (length cycle)) s in
              rw is ((omega (arith, few-lists), omega (arith, highest-few s)), line s)
          go false s =
              let is : r ≡ Suspect (length cycle) = verdict ∙ by (Stable (highest_of I)) (Suspect (length cycle)) s in
              let left : shown' ≡ cycle ++ drop (length cycle) shown = cycled ∙ by shown (cycle ++ drop (length cycle) shown) s in
              let long : length cycle ≤ length shown' = omega (arith, ap length left ∙ length-append cycle (drop (length cycle) shown)) in
              rw is (
                (omega (arith, few-lists), long, omega arith),
                ap (suspect_line k) (ap (take (length cycle)) left ∙ take-append_seam cycle _) ∙ line s,
              )

-- a plan that passes
module _ {plan : List ℕ} {checked : CheckedPlan} (a : Accepted plan checked) where
  pub few : (checked.n ≤ 64) × (checked.m ≤ 64)
  few = (omega (arith, a.routers, few-routers plan a.ok), omega (arith, a.lists, few-lists plan a.ok))

  pub text-given : head_line checked.n checked.m ++ list_lines plan checked.m ≡ plan_text plan
  unfolding plan_text
  text-given = ap₂ (λ n m. head_line n m ++ list_lines plan m) a.routers a.lists ∙ sym (when-given _ _ _ a.ok)
