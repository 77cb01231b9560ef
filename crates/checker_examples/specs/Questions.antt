-- Examples of the public calls: a plan, what is asked of it, and the whole answer.
use Rattle.std.specs.Prelude.{ℕ, ◌≡◌, Bool, true, List, [], ◌∷◌, ℤ}
use Rattle.std.specs.Borrow.{Bor}
use Rattle.base.specs.Bytes.{bytes_on}
use Rattle.base.specs.Lent.{Lent}
use Rattle.plan_rules.specs.Refusal.{plan_refusal}
use Rattle.route_explain_rules.specs.Values.{values_of}
use Rattle.route_explain_rules.specs.declared.explanation.Values.{Values}
use Rattle.route_explain_rules.specs.declared.explanation.Explanation.{Explanation}
use Rattle.call_rules.specs.Refusals.{egress_list_refusal}
use Rattle.call_query.specs.declared.size.SizeAnswer.{SizeAnswer}
use Rattle.call_query.specs.Size.{Sizes}
use Rattle.call_query.specs.EgressList.{ListPartOf}
use Rattle.call_compare.specs.declared.compare.CompareAnswer.{CompareAnswer}
use Rattle.call_compare.specs.Compare.{compare_better, compare_has_margin, compare_margin, Compares}
use Rattle.call_query.specs.declared.relies.ReliesAnswer.{ReliesAnswer}
use Rattle.call_query.specs.Relies.{Relied}
use Rattle.call_explain.specs.Explain.{explain_number, Explains}
use Rattle.call_verdict.specs.declared.verdict.VerdictAnswer.{VerdictAnswer}
use Rattle.call_verdict.specs.Verdict.{VerdictCall}
use Rattle.call_steady.specs.declared.steady.SteadyAnswer.{SteadyAnswer}
use Rattle.call_steady.specs.Steady.{SteadyCall}
use Rattle.call_hopset.specs.declared.hop_set.HopSetAnswer.{HopSetAnswer}
use Rattle.call_hopset.specs.HopSet.{HopSetCall}
use Rattle.call_figures.specs.declared.figures.FiguresAnswer.{FiguresAnswer}
use Rattle.call_figures.specs.Figures.{FiguresCall}
use Rattle.call_run.specs.Activate.{Activates}
use Rattle.call_run.specs.declared.run.RunAnswer.{RunAnswer}
use Rattle.call_run.specs.Run.{Runs}

-- what a caller asks of a plan, with every byte of the buffers that the call is lent
pub data Question : Type 0 where
  check_asked : Question
  size_asked : Question
  list_asked : (list : ℕ) → Question
  compare_told_asked : (router first : ℕ) (first_direct : Bool) (second : ℕ) (second_direct : Bool) → Question
  relies_asked : (list router other : ℕ) → Question
  explain_asked : (list router other : ℕ) → Question
  verdict_asked : (list : ℕ) (labels ranks table cycle : List ℕ) → Question
  steady_asked : (list : ℕ) (numbers : List ℕ) → Question
  hop_set_asked : (list : ℕ) → Question
  activate_asked : (list router : ℕ) (table : List ℕ) → Question
  run_asked : (list : ℕ) (sequence : List ℕ) (limit : ℕ) (table : List ℕ) → Question
  figures_asked : (ranks routers : List ℕ) → Question

-- a comparison of two routes that their own egress routers told
abbrev pub compare_asked : (router first second : ℕ) → Question
compare_asked router first second = compare_told_asked router first true second true

-- what is answered: all that the call returns, and every byte of those buffers after it
pub data Answer : Type 0 where
  check_is : (refusal : ℕ) → Answer
  size_is : (refusal routers lists : ℕ) → Answer
  list_is : (refusal start : ℕ) (numbers : List ℕ) → Answer
  compare_is : (answer : CompareAnswer) (better : ℕ) (present : Bool) (margin : ℤ) → Answer
  relies_is : (answer : ReliesAnswer) → Answer
  explain_is : (answer : Explanation) (refusal : ℕ) (values : Values) → Answer
  verdict_is : (answer : VerdictAnswer) (labels ranks table cycle : List ℕ) → Answer
  steady_is : (answer : SteadyAnswer) (numbers : List ℕ) → Answer
  hop_set_is : (answer : HopSetAnswer) → Answer
  activate_is : (refusal : ℕ) (table : List ℕ) → Answer
  run_is : (refusal applied rounds : ℕ) (exhausted : Bool) (table : List ℕ) → Answer
  figures_is : (answer : FiguresAnswer) (ranks routers : List ℕ) → Answer

-- what the contract of the call admits as its answer; a list's numbers are `part`, a part of the caller's own slice
pub data Admitted (plan : List ℕ) : Question → Answer → Type 0 where
  check : (r : ℕ) → r ≡ plan_refusal plan → Admitted plan check_asked (check_is r)
  size : (r : SizeAnswer) → Sizes plan r → Admitted plan size_asked (size_is r.refused r.routers r.lists)
  list : (k r start : ℕ) (slice part : Bor (List ℕ)) → slice.now ≡ plan → r ≡ egress_list_refusal plan k → ListPartOf slice k part
      → part.ref_ptr ≡ bytes_on slice.ref_ptr start → Admitted plan (list_asked k) (list_is r start part.now)
  compare : (w e : ℕ) (d : Bool) (f : ℕ) (d' : Bool) (r : CompareAnswer) → Compares plan w e d f d' r
      → Admitted plan (compare_told_asked w e d f d') (compare_is r (compare_better r) (compare_has_margin r) (compare_margin r))
  relies : (k w v : ℕ) (r : ReliesAnswer) → Relied plan k w v r → Admitted plan (relies_asked k w v) (relies_is r)
  explain : (k w v : ℕ) (r : Explanation) → Explains plan k w v r
      → Admitted plan (explain_asked k w v) (explain_is r (explain_number r) (values_of r))
  verdict : (k : ℕ) (r : VerdictAnswer) (labels ranks table cycle : Lent (List ℕ)) → VerdictCall plan k r labels ranks table cycle
      → Admitted plan (verdict_asked k labels.before ranks.before table.before cycle.before)
      (verdict_is r labels.after ranks.after table.after cycle.after)
  steady : (k : ℕ) (r : SteadyAnswer) (numbers : Lent (List ℕ)) → SteadyCall plan k r numbers
      → Admitted plan (steady_asked k numbers.before) (steady_is r numbers.after)
  hop_set : (k : ℕ) (r : HopSetAnswer) → HopSetCall plan k r → Admitted plan (hop_set_asked k) (hop_set_is r)
  activate : (k w : ℕ) (table : List ℕ) (r : ℕ) (after : List ℕ) → Activates plan k w table r after
      → Admitted plan (activate_asked k w table) (activate_is r after)
  run : (k : ℕ) (acts : List ℕ) (limit : ℕ) (table : List ℕ) (r : RunAnswer) (after : List ℕ) → Runs plan k acts limit table r after
      → Admitted plan (run_asked k acts limit table) (run_is r.refused r.applied r.rounds r.exhausted after)
  figures : (r : FiguresAnswer) (ranks routers : Lent (List ℕ)) → FiguresCall plan r ranks routers
      → Admitted plan (figures_asked ranks.before routers.before) (figures_is r ranks.after routers.after)

-- a plan, a question and the answer that the papers give
pub data Example : Type 0 where
  example : (plan : List ℕ) (question : Question) (answer : Answer) → Example

-- whatever the call answers by its contract, it is that answer
abbrev pub Answered : Example → Type 0
Answered (example plan question answer) = (given : Answer) → Admitted plan question given → given ≡ answer

-- .. of every example
unfoldable pub Hold : List Example → Type 0
Hold [] = Unit {0}
Hold (first ∷ examples) = Answered first × Hold examples
