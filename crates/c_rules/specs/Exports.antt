-- The public calls as C sees them: the returned number r is the call's refusal, and every variable and buffer that a pointer reaches is
-- given before the call and after it.
use Rattle.std.specs.Prelude.{ℕ, Bool, not, List, ◌≡◌, eqb, ℤ, length}
use Rattle.base.specs.Lent.{Lent}
use Rattle.base.specs.Seek.{flag}
use Rattle.plan_contents.specs.Header.{router_count}
use Rattle.plan_rules.specs.EgressLists.{list_count, list_start, list_size}
use Rattle.plan_rules.specs.Refusal.{plan_refusal}
use Rattle.route_rules.specs.Reliance.{relies}
use Rattle.route_rules.specs.Instance.{Instance}
use Rattle.net_rules.specs.FromPlan.{instance_of}
use Rattle.plan_rules.specs.Refused.{unless_refused}
use Rattle.plan_rules.specs.Converted.{converted, widen_refusal, narrow_refusal}
use Rattle.steady_rules.specs.Steady.{steady_count}
use Rattle.hopset_rules.specs.HopSet.{hop_set}
use Rattle.grade_rules.specs.Grade.{grade, grade_rounds}
use Rattle.call_rules.specs.Refusals.{egress_list_refusal, compare_refusal, relies_refusal, verdict_refusal, steady_refusal, hop_set_refusal, grade_refusal, run_refusal, figures_refusal, every_list_refusal}
use Rattle.call_compare.specs.Compare.{which_better, has_margin, margin_number}
use Rattle.route_explain_rules.specs.declared.explanation.Values.{Values}
use Rattle.route_explain_rules.specs.Explained.{explained}
use Rattle.route_explain_rules.specs.Values.{values_of}
use Rattle.net_verdict.specs.Assessed.{is_stable}
use Rattle.call_verdict.specs.Verdict.{size_of, labels_after, ranks_after, table_after, cycle_after}
use Rattle.call_steady.specs.Steady.{numbers_after}
use Rattle.call_run.specs.Run.{run_applied, run_rounds, run_exhausted, run_table}
use Rattle.call_convert.specs.Convert.{convert_buffer}
use Rattle.everylist_rules.specs.EveryList.{every_list, suspect_list}
use Rattle.call_everylist.specs.EveryList.{network_of, list_after}
use Rattle.call_figures.specs.Figures.{plan_figures, rank_counts_after, router_counts_after, has_rank, rank_of}

-- a result variable of a call whose refusal is `number`: "unchanged" if refused, else the value
abbrev pub VariableHolds : {A : Type 0} (number : ℕ) (variable : Lent A) (value : A) → Type 0
VariableHolds number variable value = variable.after ≡ unless_refused number variable.before value

-- a flag handed in counts as yes if it is not 0
abbrev pub says_yes : ℕ → Bool
says_yes flag = not (eqb flag 0)

-- rrp_size: n, the number of routers, and m, the number of lists
pub record SizeExport (plan : List ℕ) (r : ℕ) (routers lists : Lent ℕ) : Type 0 where
  pub number : r ≡ plan_refusal plan
  pub routers-are : VariableHolds (plan_refusal plan) routers (router_count plan)
  pub lists-are : VariableHolds (plan_refusal plan) lists (list_count plan)

-- rrp_list: where in the plan the numbers of list k start, and how many they are
pub record ListExport (plan : List ℕ) (k r : ℕ) (start count : Lent ℕ) : Type 0 where
  pub number : r ≡ egress_list_refusal plan k
  pub started : VariableHolds (egress_list_refusal plan k) start (list_start plan k)
  pub counted : VariableHolds (egress_list_refusal plan k) count (list_size plan k)

-- rrp_compare: 1 if at w the first, e, is better, 2 if the second, f, is, 0 if neither is; 1 if there is a margin, else 0; and the
-- margin, an integer, 0 where there is none. The flags d and d' say that e and f told their routes themselves.
pub record CompareExport (plan : List ℕ) (w e d f d' r : ℕ) (preferred present : Lent ℕ) (margin : Lent ℤ) : Type 0 where
  pub number : r ≡ compare_refusal plan w e f
  pub compared : VariableHolds (compare_refusal plan w e f) preferred (which_better plan w e (says_yes d) f (says_yes d'))
  pub flagged : VariableHolds (compare_refusal plan w e f) present (flag (has_margin plan w e f))
  pub measured : VariableHolds (compare_refusal plan w e f) margin (margin_number plan w e f)

-- rrp_relies: 1 if w relies on v for list k, else 0
pub record ReliesExport (plan : List ℕ) (k w v r : ℕ) (relied : Lent ℕ) : Type 0 where
  pub number : r ≡ relies_refusal plan k w v
  pub answered : VariableHolds (relies_refusal plan k w v) relied (flag (relies (instance_of plan k) w v))

-- rrp_explain: 1 if w relies on v for list k, else 0; the number of the rule or the place of the reason; and of a better offer its route,
-- 1 if it was compared with an own best client, else 0, that one's route and the margin, an integer. What the answer does not have is 0.
abbrev pub why_of : (plan : List ℕ) (k w v : ℕ) → Values
why_of plan k w v = values_of (explained (instance_of plan k) w v)

pub record ExplainExport (plan : List ℕ) (k w v r : ℕ) (relied code offered has_own own : Lent ℕ) (margin : Lent ℤ) : Type 0 where
  pub number : r ≡ relies_refusal plan k w v
  pub answered : VariableHolds (relies_refusal plan k w v) relied (flag (why_of plan k w v).relies)
  pub coded : VariableHolds (relies_refusal plan k w v) code (why_of plan k w v).code
  pub offer : VariableHolds (relies_refusal plan k w v) offered (why_of plan k w v).offer
  pub compared : VariableHolds (relies_refusal plan k w v) has_own (flag (why_of plan k w v).compared)
  pub owned : VariableHolds (relies_refusal plan k w v) own (why_of plan k w v).own
  pub measured : VariableHolds (relies_refusal plan k w v) margin (why_of plan k w v).margin

-- "Yes must agree with the plain reliance answer for every pair": rrp_relies and rrp_explain return one number, and leave one answer if it
-- is 0
abbrev pub SameReliance : Type 0
SameReliance =
    (plan : List ℕ) (k w v r s : ℕ) (plain relied code offered has_own own : Lent ℕ) (margin : Lent ℤ)
    → ReliesExport plan k w v r plain → ExplainExport plan k w v s relied code offered has_own own margin
    → (r ≡ s) × (r ≡ 0 → relied.after ≡ plain.after)

-- rrp_verdict: stable 1 or 0; the size is the highest rank if stable, else the cycle's length. `number` is the call's refusal.
pub record VerdictWritten (number : ℕ) (I : Instance) (r : ℕ)
    (labels ranks table shown : Lent (List ℕ)) (stable size : Lent ℕ) : Type 0 where
  pub numbered : r ≡ number
  pub labelled : labels.after ≡ labels_after number I labels.before
  pub ranked : ranks.after ≡ ranks_after number I ranks.before
  pub settled : table.after ≡ table_after number I table.before
  pub cycled : shown.after ≡ cycle_after number I shown.before
  pub judged : VariableHolds number stable (flag (is_stable I))
  pub sized : VariableHolds number size (size_of I)

abbrev pub VerdictExport : (plan : List ℕ) (k r : ℕ) (labels ranks table shown : Lent (List ℕ)) (stable size : Lent ℕ) → Type 0
VerdictExport plan k r labels ranks table shown =
    VerdictWritten (verdict_refusal plan k labels.before ranks.before table.before shown.before)
    (instance_of plan k) r labels ranks table shown

-- rrp_steady: how many tables are listed, and every byte of the buffer. `number` is the call's refusal.
pub record SteadyWritten (number : ℕ) (I : Instance) (r : ℕ) (out : Lent (List ℕ)) (count : Lent ℕ) : Type 0 where
  pub numbered : r ≡ number
  pub bytes : out.after ≡ numbers_after number I out.before
  pub counted : VariableHolds number count (steady_count I)

abbrev pub SteadyExport : (plan : List ℕ) (k r : ℕ) (out : Lent (List ℕ)) (count : Lent ℕ) → Type 0
SteadyExport plan k r out = SteadyWritten (steady_refusal plan k out.before) (instance_of plan k) r out

-- rrp_hop_set: the number of the set
pub record HopSetExport (plan : List ℕ) (k r : ℕ) (set : Lent ℕ) : Type 0 where
  pub number : r ≡ hop_set_refusal plan k
  pub named : VariableHolds (hop_set_refusal plan k) set (hop_set (instance_of plan k))

-- rrp_grade: the number of the grade, and a number of rounds
pub record GradeExport (plan : List ℕ) (k r : ℕ) (graded rounds : Lent ℕ) : Type 0 where
  pub number : r ≡ grade_refusal plan k
  pub told : VariableHolds (grade_refusal plan k) graded (grade (instance_of plan k))
  pub within : VariableHolds (grade_refusal plan k) rounds (grade_rounds (instance_of plan k))

-- rrp_run: the activations applied, the whole rounds in them, and 1 if the sequence is longer than the limit, else 0.
-- `number` is the call's refusal.
pub record RunWritten (number : ℕ) (plan : List ℕ) (k : ℕ) (acts : List ℕ) (limit r : ℕ)
    (table : Lent (List ℕ)) (applied rounds exhausted : Lent ℕ) : Type 0 where
  pub numbered : r ≡ number
  pub bytes : table.after ≡ run_table plan k acts limit table.before
  pub acted : VariableHolds number applied (run_applied number acts limit)
  pub whole : VariableHolds number rounds (run_rounds number plan acts limit)
  pub cut : VariableHolds number exhausted (flag (run_exhausted number acts limit))

abbrev pub RunExport : (plan : List ℕ) (k : ℕ) (acts : List ℕ) (limit r : ℕ) (table : Lent (List ℕ))
    (applied rounds exhausted : Lent ℕ) → Type 0
RunExport plan k acts limit r table = RunWritten (run_refusal plan k acts table.before) plan k acts limit r table

-- rrp_widen and rrp_narrow: the length of the result, and every byte of the buffer. `to` is the width of the result's distances, `number`
-- the call's refusal.
pub record ConvertWritten (to : ℕ) (plan : List ℕ) (number r : ℕ) (out : Lent (List ℕ)) (size : Lent ℕ) : Type 0 where
  pub numbered : r ≡ number
  pub bytes : out.after ≡ convert_buffer number to plan out.before
  pub sized : VariableHolds number size (length (converted to plan))

abbrev pub WidenExport : (plan : List ℕ) (r : ℕ) (out : Lent (List ℕ)) (size : Lent ℕ) → Type 0
WidenExport plan r out = ConvertWritten 4 plan (widen_refusal plan (length out.before)) r out

abbrev pub NarrowExport : (plan : List ℕ) (r : ℕ) (out : Lent (List ℕ)) (size : Lent ℕ) → Type 0
NarrowExport plan r out = ConvertWritten 2 plan (narrow_refusal plan (length out.before)) r out

-- rrp_figures: the stable lists, the suspect lists, 1 if there is a highest rank among the stable ones, else 0, that rank, 0 where there is
-- none; the counts by rank and by router, every byte of the buffers. `number` is the call's refusal.
pub record FiguresWritten (number : ℕ) (plan : List ℕ) (r : ℕ) (ranks routers : Lent (List ℕ))
    (stable suspect has_highest highest : Lent ℕ) : Type 0 where
  pub numbered : r ≡ number
  pub by_rank : ranks.after ≡ rank_counts_after number plan ranks.before
  pub by_router : routers.after ≡ router_counts_after number plan routers.before
  pub stable-are : VariableHolds number stable (plan_figures plan).stable
  pub suspect-are : VariableHolds number suspect (plan_figures plan).suspect
  pub flagged : VariableHolds number has_highest (flag (has_rank (plan_figures plan).highest))
  pub ranked : VariableHolds number highest (rank_of (plan_figures plan).highest)

abbrev pub FiguresExport : (plan : List ℕ) (r : ℕ) (ranks routers : Lent (List ℕ)) (stable suspect has_highest highest : Lent ℕ) → Type 0
FiguresExport plan r ranks routers =
    FiguresWritten (figures_refusal plan ranks.before routers.before) plan r ranks routers

-- rrp_every_list: 1 for yes, 0 for no, 2 for undecided; every byte of the buffer for a list; how many routers the list has, 0 where there is
-- none. `number` is the call's refusal.
pub record EveryListWritten (number : ℕ) (plan : List ℕ) (r : ℕ) (answer : Lent ℕ) (list : Lent (List ℕ)) (count : Lent ℕ) : Type 0 where
  pub numbered : r ≡ number
  pub answered : VariableHolds number answer (every_list (network_of plan))
  pub bytes : list.after ≡ list_after number (network_of plan) list.before
  pub counted : VariableHolds number count (length (suspect_list (network_of plan)))

abbrev pub EveryListExport : (plan : List ℕ) (r : ℕ) (answer : Lent ℕ) (list : Lent (List ℕ)) (count : Lent ℕ) → Type 0
EveryListExport plan r answer list = EveryListWritten (every_list_refusal plan list.before) plan r answer list
