-- Document 02, "The plan's year in figures": what the call for the figures answers and writes says of what the verdict call answers and
-- writes for each list, "counted from the verdicts".
use Rattle.std.specs.Prelude.{ℕ, ◌+◌, ◌≤◌, ◌<◌, ◌≡◌, true, false, not, ◌&&◌, List, ◌↔◌, leb, eqb, get_or, drop}
use Rattle.base.specs.Lent.{Lent}
use Rattle.base.specs.Seek.{flag, count}
use Rattle.plan_contents.specs.Header.{router_count}
use Rattle.plan_rules.specs.EgressLists.{list_count}
use Rattle.plan_rules.specs.Refusal.{plan_refusal}
use Rattle.figures_rules.specs.Sums.{total, group_size, group_sizes}
use Rattle.call_rules.specs.Refusals.{buffers_ok}
use Rattle.call_verdict.specs.declared.verdict.VerdictAnswer.{VerdictAnswer}
use Rattle.call_verdict.specs.Verdict.{verdict_is_stable, verdict_size, VerdictCall}
use Rattle.call_figures.specs.declared.figures.FiguresAnswer.{FiguresAnswer}
use Rattle.call_figures.specs.Figures.{figures_number, figures_stable, figures_suspect, figures_has_highest, figures_highest, FiguresCall}

-- the verdict call on each list of a plan, with buffers that are long enough: what it answers, and each buffer before and after
pub record Verdicts (plan : List ℕ) : Type 0 where
  pub answer : ℕ → VerdictAnswer
  pub labels : ℕ → Lent (List ℕ)
  pub ranks : ℕ → Lent (List ℕ)
  pub table : ℕ → Lent (List ℕ)
  pub shown : ℕ → Lent (List ℕ)
  pub given : (k : ℕ) → k < list_count plan → VerdictCall plan k (answer k) (labels k) (ranks k) (table k) (shown k)
  pub room : (k : ℕ) → k < list_count plan
      → buffers_ok (router_count plan) (labels k).before (ranks k).before (table k).before (shown k).before ≡ true

-- the label that the verdict of list k writes for router w
abbrev pub written_label : {plan : List ℕ} → Verdicts plan → ℕ → ℕ → ℕ
written_label verdicts k w = get_or (verdicts.labels k).after w 0

-- r is the highest rank among those that the stable verdicts return
pub record HighestReturned (plan : List ℕ) (verdicts : Verdicts plan) (r : ℕ) : Type 0 where
  pub list : ℕ
  pub below : list < list_count plan
  pub stable : verdict_is_stable (verdicts.answer list) ≡ true
  pub is : verdict_size (verdicts.answer list) ≡ r
  pub most : (k : ℕ) → k < list_count plan → verdict_is_stable (verdicts.answer k) ≡ true → verdict_size (verdicts.answer k) ≤ r

-- what an answer r that is not refused, and the counts written, say of the verdicts
pub record CountedFromVerdicts (plan : List ℕ) (verdicts : Verdicts plan) (r : FiguresAnswer) (ranks routers : Lent (List ℕ)) : Type 0 where
  -- "stable lists, suspect lists"
  pub stable : figures_stable r ≡ count (λ k. flag (verdict_is_stable (verdicts.answer k))) (list_count plan)
  pub suspect : figures_suspect r ≡ count (λ k. flag (not (verdict_is_stable (verdicts.answer k)))) (list_count plan)
  -- "Stable and suspect lists make up m."
  pub make_up : figures_stable r + figures_suspect r ≡ list_count plan
  -- "the highest rank among the stable ones"
  pub highest : (x : ℕ) → ((figures_has_highest r ≡ true) × (figures_highest r ≡ x)) ↔ HighestReturned plan verdicts x
  -- "With no stable list the highest rank is reported as absent."
  pub absent :
      (figures_has_highest r ≡ false) ↔ ((k : ℕ) → k < list_count plan → verdict_is_stable (verdicts.answer k) ≡ false)
  pub absent_is_zero : figures_has_highest r ≡ false → figures_highest r ≡ 0
  -- "how many stable lists had each rank from 0 to n minus 1 as their highest": these counts sum to the stable lists
  pub by_rank : (x : ℕ) → x < router_count plan
      → get_or ranks.after x 0
      ≡ count (λ k. flag (verdict_is_stable (verdicts.answer k) && eqb (verdict_size (verdicts.answer k)) x)) (list_count plan)
  pub rank_sum : total (λ x. get_or ranks.after x 0) (router_count plan) ≡ figures_stable r
  -- .. and the highest rank is the greatest with a count
  pub counted : figures_has_highest r ≡ true → (figures_highest r < router_count plan) × (1 ≤ get_or ranks.after (figures_highest r) 0)
  pub none_above : (x : ℕ) → x < router_count plan → 1 ≤ get_or ranks.after x 0 → x ≤ figures_highest r
  -- "for each router in how many lists it was in a group of two or more": two or more routers have its label
  pub by_router : (w : ℕ) → w < router_count plan
      → get_or routers.after w 0
      ≡ count (λ k. flag (leb 2 (group_size (written_label verdicts k) (router_count plan) (written_label verdicts k w)))) (list_count plan)
  -- "The routers' counts sum to the sizes of all such groups over all lists, counted from the verdicts."
  pub router_sum :
      total (λ w. get_or routers.after w 0) (router_count plan)
      ≡ total (λ k. group_sizes (written_label verdicts k) (router_count plan)) (list_count plan)
  -- every count fits its byte: there are at most 64 lists
  pub ranks_fit : (x : ℕ) → x < router_count plan → get_or ranks.after x 0 ≤ 64
  pub routers_fit : (w : ℕ) → w < router_count plan → get_or routers.after w 0 ≤ 64
  -- ".. and leaves the rest untouched."
  pub ranks_rest : drop (router_count plan) ranks.after ≡ drop (router_count plan) ranks.before
  pub routers_rest : drop (router_count plan) routers.after ≡ drop (router_count plan) routers.before

abbrev pub EveryFigureFromVerdicts : Type 0
EveryFigureFromVerdicts =
    (plan : List ℕ) (r : FiguresAnswer) (ranks routers : Lent (List ℕ)) → FiguresCall plan r ranks routers → figures_number r ≡ 0
    → (verdicts : Verdicts plan) → CountedFromVerdicts plan verdicts r ranks routers

-- .. and there are such verdicts of every plan that is not refused
abbrev pub EveryPlanHasVerdicts : Type 0
EveryPlanHasVerdicts = (plan : List ℕ) → plan_refusal plan ≡ 0 → Verdicts plan
