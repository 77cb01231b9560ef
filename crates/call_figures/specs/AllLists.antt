-- A pass over all lists of a plan, as the code makes it.
use Rattle.std.specs.Prelude.{ℕ, ◌≤◌, ◌<◌, ◌≡◌, List, length, get_or}
use Rattle.base.specs.Lent.{Lent}
use Rattle.plan_contents.specs.Header.{router_count}
use Rattle.figures_rules.specs.declared.report.Figures.{Figures}
use Rattle.call_figures.specs.Figures.{plan_figures, rank_counts_left, router_counts_left}

-- counts by rank or by router as they are lent to those who count: there is one for each of the n, and all are 0
pub record Cleared (plan counts : List ℕ) : Type 0 where
  pub long : router_count plan ≤ length counts
  pub zeros : (i : ℕ) → i < router_count plan → get_or counts i 0 ≡ 0

-- every list is counted
pub record ListsCounted (plan : List ℕ) (r : Figures) (ranks routers : Lent (List ℕ)) : Type 0 where
  pub figures : r ≡ plan_figures plan
  pub by_rank : ranks.after ≡ rank_counts_left plan ranks.before
  pub by_router : routers.after ≡ router_counts_left plan routers.before
