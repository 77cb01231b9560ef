-- Document 02, "The plan's year in figures": the call for the figures over all lists of a plan.
use Rattle.std.specs.Prelude.{ℕ, ◌≡◌, Bool, false, List, ◌++◌, drop, Option, is_some, unwrap_or}
use Rattle.base.specs.Lent.{Lent}
use Rattle.base.specs.Tab.{tab}
use Rattle.plan_contents.specs.Header.{router_count}
use Rattle.plan_rules.specs.EgressLists.{list_count}
use Rattle.plan_rules.specs.Refused.{unless_refused, field, flag_field}
use Rattle.net_rules.specs.FromPlan.{instance_of}
use Rattle.figures_rules.specs.declared.report.Figures.{Figures}
use Rattle.figures_rules.specs.Figures.{stable_with, grouped_lists, figures_of}
use Rattle.call_rules.specs.Refusals.{figures_refusal}
use Rattle.call_figures.specs.declared.figures.FiguresAnswer.{FiguresAnswer}
use Rattle.call_figures.specs.declared.figures.FiguresAnswer.TheVariants.{Refused, Counted}

-- "one report over all lists of a plan: stable lists, suspect lists, the highest rank among the stable ones"
abbrev pub plan_figures : List ℕ → Figures
plan_figures plan = figures_of (instance_of plan) (list_count plan)

-- "how many stable lists had each rank from 0 to n minus 1 as their highest"
unfoldable pub rank_counts : List ℕ → List ℕ
rank_counts plan = tab (stable_with (instance_of plan) (list_count plan)) (router_count plan)

-- "and for each router in how many lists it was in a group of two or more"
unfoldable pub router_counts : List ℕ → List ℕ
router_counts plan = tab (grouped_lists (instance_of plan) (list_count plan)) (router_count plan)

-- "The call needs n bytes for the counts by rank and n for those by router, and leaves the rest untouched."
unfoldable pub rank_counts_left : List ℕ → List ℕ → List ℕ
rank_counts_left plan ranks = rank_counts plan ++ drop (router_count plan) ranks

unfoldable pub router_counts_left : List ℕ → List ℕ → List ℕ
router_counts_left plan routers = router_counts plan ++ drop (router_count plan) routers

-- `number` is the refusal of the call
unfoldable pub figures_answer : ℕ → List ℕ → FiguresAnswer
figures_answer number plan = unless_refused number (Refused number) (Counted (plan_figures plan))

unfoldable pub rank_counts_after : ℕ → List ℕ → List ℕ → List ℕ
rank_counts_after number plan ranks = unless_refused number ranks (rank_counts_left plan ranks)

unfoldable pub router_counts_after : ℕ → List ℕ → List ℕ → List ℕ
router_counts_after number plan routers = unless_refused number routers (router_counts_left plan routers)

-- "With no stable list the highest rank is reported as absent.": whether there is one, and its value, 0 where there is none
abbrev pub has_rank : Option ℕ → Bool
has_rank highest = is_some highest

abbrev pub rank_of : Option ℕ → ℕ
rank_of highest = unwrap_or highest 0

-- the paper's refusal number and values for each case of the answer
abbrev pub figures_number : FiguresAnswer → ℕ
figures_number (Refused number) = number
figures_number (Counted figures) = 0

abbrev pub figures_stable : FiguresAnswer → ℕ
figures_stable (Refused number) = 0
figures_stable (Counted figures) = figures.stable

abbrev pub figures_suspect : FiguresAnswer → ℕ
figures_suspect (Refused number) = 0
figures_suspect (Counted figures) = figures.suspect

abbrev pub figures_has_highest : FiguresAnswer → Bool
figures_has_highest (Refused number) = false
figures_has_highest (Counted figures) = has_rank figures.highest

abbrev pub figures_highest : FiguresAnswer → ℕ
figures_highest (Refused number) = 0
figures_highest (Counted figures) = rank_of figures.highest

-- the answer r of a call whose refusal is `number`, and each buffer before and after
pub record FiguresGiven (number : ℕ) (plan : List ℕ) (r : FiguresAnswer) (ranks routers : Lent (List ℕ)) : Type 0 where
  pub answer : r ≡ figures_answer number plan
  pub numbered : figures_number r ≡ number
  pub stable : figures_stable r ≡ field number (plan_figures plan).stable
  pub suspect : figures_suspect r ≡ field number (plan_figures plan).suspect
  pub has_highest : figures_has_highest r ≡ flag_field number (has_rank (plan_figures plan).highest)
  pub highest : figures_highest r ≡ field number (rank_of (plan_figures plan).highest)
  pub by_rank : ranks.after ≡ rank_counts_after number plan ranks.before
  pub by_router : routers.after ≡ router_counts_after number plan routers.before

-- the same of any call
abbrev pub FiguresCall : (plan : List ℕ) (r : FiguresAnswer) (ranks routers : Lent (List ℕ)) → Type 0
FiguresCall plan r ranks routers = FiguresGiven (figures_refusal plan ranks.before routers.before) plan r ranks routers
