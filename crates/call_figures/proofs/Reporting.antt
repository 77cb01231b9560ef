-- The figures, refused or given.
use Prim.Native.Nat.{ℕ, ◌≤◌}
use native.Mathlib.Omega.{arith}
use mathlib.Core.Path.{◌≡◌, ◌∙◌, sym, ap}
use mathlib.Core.List.{List, ◌++◌}
use lib.ListN.{length, drop}
use Rattle.base.specs.Lent.{Lent}
use Rattle.base.specs.Tab.{tab}
use Rattle.base.proofs.Tab.{drop-written, get_or-written}
use Rattle.plan_contents.specs.Header.{router_count}
use Rattle.plan_rules.proofs.Refused.{when-refused, when-given}
use Rattle.figures_rules.specs.declared.report.Figures.{Figures}
use Rattle.call_rules.specs.Refusals.{figures_refusal}
use Rattle.call_figures.specs.declared.figures.FiguresAnswer.TheVariants.{Refused, Counted}
use Rattle.call_figures.specs.Figures.{rank_counts, router_counts, rank_counts_left, router_counts_left, figures_answer, rank_counts_after, router_counts_after, has_rank, rank_of, FiguresCall}
use Rattle.call_figures.specs.AllLists.{Cleared, ListsCounted}

-- what is left as it was
abbrev kept : {A : Type 0} → A → Lent A
kept x = record { before = x; after = x }

-- counts that were set to 0, of a buffer that was d
pub cleared : (plan d counts : List ℕ) → router_count plan ≤ length d → length counts ≡ length d
    → counts ≡ tab (λ i. 0) (router_count plan) ++ drop (router_count plan) d → Cleared plan counts
cleared plan d counts long size e =
    record { long = omega (arith, size); zeros = λ i l. get_or-written (λ j. 0) (router_count plan) 0 d counts e i l }

module _ (plan : List ℕ) where
  pub figures-refused : (ranks routers : List ℕ) (number : ℕ) → number ≡ figures_refusal plan ranks routers → (number ≡ 0 → ⊥)
      → FiguresCall plan (Refused number) (kept ranks) (kept routers)
  unfolding figures_answer rank_counts_after router_counts_after
  figures-refused ranks routers number same h =
      let n : figures_refusal plan ranks routers ≡ 0 → ⊥ = λ z. h (same ∙ z) in
      record {
        answer = ap Refused same ∙ sym (when-refused _ _ _ n);
        numbered = same;
        stable = sym (when-refused _ _ _ n);
        suspect = sym (when-refused _ _ _ n);
        has_highest = sym (when-refused _ _ _ n);
        highest = sym (when-refused _ _ _ n);
        by_rank = sym (when-refused _ _ _ n);
        by_router = sym (when-refused _ _ _ n);
      }

  -- the buffers were set to 0 before they were counted into
  pub figures-given : (ranks routers : Lent (List ℕ)) (zero_ranks zero_routers : List ℕ) (r : Figures)
      → figures_refusal plan ranks.before routers.before ≡ 0
      → zero_ranks ≡ tab (λ i. 0) (router_count plan) ++ drop (router_count plan) ranks.before
      → zero_routers ≡ tab (λ i. 0) (router_count plan) ++ drop (router_count plan) routers.before
      → ListsCounted plan r (record { before = zero_ranks; after = ranks.after }) (record { before = zero_routers; after = routers.after })
      → FiguresCall plan (Counted r) ranks routers
  unfolding figures_answer rank_counts_after router_counts_after rank_counts_left router_counts_left
  figures-given ranks routers zero_ranks zero_routers r given a b c =
      record {
        answer = ap Counted c.figures ∙ sym (when-given _ _ _ given);
        numbered = sym given;
        stable = ap (λ x. x.stable) c.figures ∙ sym (when-given _ _ _ given);
        suspect = ap (λ x. x.suspect) c.figures ∙ sym (when-given _ _ _ given);
        has_highest = ap (λ x. has_rank x.highest) c.figures ∙ sym (when-given _ _ _ given);
        highest = ap (λ x. rank_of x.highest) c.figures ∙ sym (when-given _ _ _ given);
        by_rank =
            c.by_rank
            ∙ ap (λ t. rank_counts plan ++ t) (drop-written (λ i. 0) (router_count plan) ranks.before zero_ranks a)
            ∙ sym (when-given _ _ _ given);
        by_router =
            c.by_router
            ∙ ap (λ t. router_counts plan ++ t) (drop-written (λ i. 0) (router_count plan) routers.before zero_routers b)
            ∙ sym (when-given _ _ _ given);
      }
