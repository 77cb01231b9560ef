-- The examples of acts that read late, worked out from the definitions that the contracts cite.
use Prim.Native.Nat.{ℕ, suc, ◌*◌}
use mathlib.Core.Path.{◌≡◌, refl, ap, ap₂}
use mathlib.Core.Bool.{Bool, true, false, ◌&&◌}
use mathlib.Core.List.{List, [], ◌∷◌}
use borrow.Author.Tests.{eqb-true, eq-eqb, ltb-true}
use lib.Dec.{eqb, ltb}
use lib.ListN.{length, get_or, take}
use Rattle.base.specs.Below.{all_below}
use Rattle.base.specs.Lent.{Lent}
use Rattle.base.proofs.Below.{all-at}
use Rattle.base.proofs.Numbers.{both_left, both_right, not-both}
use Rattle.plan_contents.specs.Header.{router_count}
use Rattle.route_rules.specs.Rounds.{rounds}
use Rattle.route_theorems.specs.Delayed.{ended_by, round_start, earliest, may_read, may_read_earlier}
use Rattle.net_rules.specs.FromPlan.{instance_of}
use Rattle.call_rules.specs.Refusals.{sequence_ok, table_checks}
use Rattle.call_verdict.specs.declared.verdict.VerdictAnswer.TheVariants.{Stable}
use Rattle.call_verdict.specs.Verdict.{size_of, VerdictCall}
use Rattle.plan_examples.specs.Plans.{four_routers, small_plan, m3_with_nobody}
use Rattle.checker_examples.proofs.Questions.{all_rules}
use Rattle.checker_theorems.specs.Delayed.{handed, left_by, DelayedCalls, UnsettledCalls}
use Rattle.checker_theorems.specs.DelayedExamples.{cut_off_plan, three_rounds, three_moments, three_buffers, apart, gone_with_step, DelayedCallsExamples}

-- two lists of bytes are the same
unfoldable same_bytes : List ℕ → List ℕ → Bool
same_bytes [] [] = true
same_bytes [] (b ∷ t) = false
same_bytes (a ∷ s) [] = false
same_bytes (a ∷ s) (b ∷ t) = eqb a b && same_bytes s t

same-bytes : (s t : List ℕ) → same_bytes s t ≡ true → s ≡ t
unfolding same_bytes
same-bytes [] [] h = refl
same-bytes [] (b ∷ t) h = not-both false h refl
same-bytes (a ∷ s) [] h = not-both false h refl
same-bytes (a ∷ s) (b ∷ t) h = ap₂ ◌∷◌ (eqb-true a b (both_left (eqb a b) _ h)) (same-bytes s t (both_right (eqb a b) _ h))

-- A run is given by the moment that each act reads and the buffer of each moment. What is to be shown of it is worked out.
module _ (plan : List ℕ) (k : ℕ) (acts moments : List ℕ) (buffers : List (List ℕ)) where
  -- every buffer is the one that its act leaves
  abbrev leaves : ℕ → Bool
  leaves i = same_bytes (get_or buffers (suc i) []) (left_by plan k acts (λ i v. get_or moments i 0) (λ m. get_or buffers m []) i)

  listed-run : table_checks (instance_of plan k) (get_or buffers 0 []) ≡ 0 → all_below leaves (length acts) ≡ true
      → DelayedCalls plan k acts (λ i v. get_or moments i 0) (λ m. get_or buffers m [])
  listed-run legal steps =
      record {
        start = legal;
        act = λ i l. same-bytes _ _ (all-at leaves (length acts) steps i l);
      }

  -- byte j of the table is another in the end than in the verdict's
  unsettled-calls : (reads : ℕ → List ℕ → ℕ → ℕ → Bool) (R : ℕ) (labels ranks table shown : Lent (List ℕ))
      → VerdictCall plan k (Stable R) labels ranks table shown → sequence_ok acts (router_count plan) ≡ true
      → all_below (λ i. reads (router_count plan) acts i (get_or moments i 0)) (length acts) ≡ true
      → table_checks (instance_of plan k) (get_or buffers 0 []) ≡ 0 → all_below leaves (length acts) ≡ true
      → (j : ℕ)
      → eqb (get_or (take (2 * router_count plan) (get_or buffers (length acts) [])) j 0) (get_or (take (2 * router_count plan) table.after) j 0)
      ≡ false
      → UnsettledCalls reads plan k R (rounds (router_count plan) acts) acts moments buffers
  unfolding sequence_ok
  unsettled-calls reads R labels ranks table shown verdict sequence read legal steps j differs =
      record {
        labels = labels;
        ranks = ranks;
        table = table;
        shown = shown;
        verdict = verdict;
        sequence = λ i l. ltb-true _ _ (all-at (λ i. ltb (get_or acts i 0) (router_count plan)) (length acts) sequence i l);
        read = all-at (λ i. reads (router_count plan) acts i (get_or moments i 0)) (length acts) read;
        run = listed-run legal steps;
        made = refl;
        unsettled = λ e. not-both _ (eq-eqb _ _ (ap (λ t. get_or t j 0) e)) differs;
      }

cut-off-verdict : VerdictCall cut_off_plan 0 (Stable 0)
    (record { before = 7 ∷ 7 ∷ 7 ∷ []; after = 0 ∷ 1 ∷ 2 ∷ [] })
    (record { before = 7 ∷ 7 ∷ 7 ∷ []; after = 0 ∷ 0 ∷ 0 ∷ [] })
    (record { before = 7 ∷ 7 ∷ 7 ∷ 7 ∷ 7 ∷ 7 ∷ []; after = 255 ∷ 255 ∷ 255 ∷ 255 ∷ 2 ∷ 2 ∷ [] })
    (record { before = 7 ∷ 7 ∷ 7 ∷ []; after = 7 ∷ 7 ∷ 7 ∷ [] })
unfolding all_rules size_of cut_off_plan
cut-off-verdict =
    record { answer = refl; numbered = refl; stable = refl; size = refl; labelled = refl; ranked = refl; settled = refl; cycled = refl }

gone-verdict : VerdictCall gone_with_step 1 (Stable 1)
    (record { before = 7 ∷ 7 ∷ 7 ∷ 7 ∷ []; after = 0 ∷ 1 ∷ 2 ∷ 3 ∷ [] })
    (record { before = 7 ∷ 7 ∷ 7 ∷ 7 ∷ []; after = 0 ∷ 0 ∷ 1 ∷ 1 ∷ [] })
    (record { before = 7 ∷ 7 ∷ 7 ∷ 7 ∷ 7 ∷ 7 ∷ 7 ∷ 7 ∷ []; after = 255 ∷ 255 ∷ 255 ∷ 255 ∷ 255 ∷ 255 ∷ 255 ∷ 255 ∷ [] })
    (record { before = 7 ∷ 7 ∷ 7 ∷ 7 ∷ []; after = 7 ∷ 7 ∷ 7 ∷ 7 ∷ [] })
unfolding all_rules size_of four_routers small_plan m3_with_nobody gone_with_step
gone-verdict =
    record { answer = refl; numbered = refl; stable = refl; size = refl; labelled = refl; ranked = refl; settled = refl; cycled = refl }

pub delayed-calls-examples : DelayedCallsExamples
unfolding
    all_rules four_routers small_plan m3_with_nobody cut_off_plan gone_with_step apart handed may_read may_read_earlier earliest round_start ended_by same_bytes
delayed-calls-examples =
    record {
      own_moments = refl;
      neighbours_alone = refl;
      not_in_two = unsettled-calls cut_off_plan 0 _ _ _ may_read 0 _ _ _ _ cut-off-verdict refl refl refl refl 0 refl;
      read_in_three = refl;
      in_three = listed-run cut_off_plan 0 three_rounds three_moments three_buffers refl refl;
      not_in_four = unsettled-calls gone_with_step 1 _ _ _ may_read 1 _ _ _ _ gone-verdict refl refl refl refl 4 refl;
      too_early = unsettled-calls cut_off_plan 0 _ _ _ may_read_earlier 0 _ _ _ _ cut-off-verdict refl refl refl refl 0 refl;
    }
