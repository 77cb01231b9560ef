-- Document 02, "Wider distances": "A converter turns RRP1 into RRP2 with the same distances, other bodies, verdicts, held routes and runs".
-- What the calls answer and write on a plan and on what it is converted to, by their contracts.
use Rattle.std.specs.Prelude.{ℕ, ◌≤◌, ◌≡◌, Bool, List, length, take}
use Rattle.base.specs.Bytes.{Bytes}
use Rattle.base.specs.Lent.{Lent}
use Rattle.plan_rules.specs.EgressLists.{list_numbers}
use Rattle.plan_rules.specs.Refusal.{plan_refusal}
use Rattle.plan_rules.specs.ConvertedFacts.{ConvertedFacts}
use Rattle.route_explain_rules.specs.declared.explanation.Explanation.{Explanation}
use Rattle.call_rules.specs.Refusals.{egress_list_refusal}
use Rattle.call_query.specs.declared.size.SizeAnswer.{SizeAnswer}
use Rattle.call_query.specs.declared.relies.ReliesAnswer.{ReliesAnswer}
use Rattle.call_query.specs.Size.{Sizes}
use Rattle.call_query.specs.Relies.{Relied}
use Rattle.call_compare.specs.declared.compare.CompareAnswer.{CompareAnswer}
use Rattle.call_compare.specs.Compare.{Compares}
use Rattle.call_convert.specs.declared.convert.ConvertAnswer.{ConvertAnswer}
use Rattle.call_convert.specs.Convert.{Widens, Narrows}
use Rattle.call_explain.specs.Explain.{Explains}
use Rattle.call_verdict.specs.declared.verdict.VerdictAnswer.{VerdictAnswer}
use Rattle.call_verdict.specs.Verdict.{VerdictCall}
use Rattle.call_steady.specs.declared.steady.SteadyAnswer.{SteadyAnswer}
use Rattle.call_steady.specs.Steady.{SteadyCall}
use Rattle.call_hopset.specs.declared.hop_set.HopSetAnswer.{HopSetAnswer}
use Rattle.call_hopset.specs.HopSet.{HopSetCall}
use Rattle.call_grade.specs.declared.grade.GradeAnswer.{GradeAnswer}
use Rattle.call_grade.specs.Grade.{GradeCall}
use Rattle.call_everylist.specs.declared.every_list.EveryListAnswer.{EveryListAnswer}
use Rattle.call_everylist.specs.EveryList.{EveryListCall}
use Rattle.call_figures.specs.declared.figures.FiguresAnswer.{FiguresAnswer}
use Rattle.call_figures.specs.Figures.{FiguresCall}
use Rattle.call_run.specs.declared.run.RunAnswer.{RunAnswer}
use Rattle.call_run.specs.Activate.{Activates}
use Rattle.call_run.specs.Run.{Runs}

-- what a call was lent, and what it leaves
abbrev pub left : List ℕ → List ℕ → Lent (List ℕ)
left before after = record { before = before; after = after }

-- Handed the same beside the plan, each call gives the same answer on both plans, refused or not, and leaves the same bytes: r is an
-- answer on the one, r' one on the other.
pub record SameCalls (plan result : List ℕ) : Type 0 where
  pub check : plan_refusal result ≡ plan_refusal plan
  pub size : (r r' : SizeAnswer) → Sizes plan r → Sizes result r' → r' ≡ r
  -- a list's numbers; they stand elsewhere in the plan
  pub list_refusal : (k : ℕ) → egress_list_refusal result k ≡ egress_list_refusal plan k
  pub list : (k : ℕ) → egress_list_refusal plan k ≡ 0 → list_numbers result k ≡ list_numbers plan k
  pub compare : (w e : ℕ) (d : Bool) (f : ℕ) (d' : Bool) (r r' : CompareAnswer) → Compares plan w e d f d' r
      → Compares result w e d f d' r' → r' ≡ r
  pub relies : (k w v : ℕ) (r r' : ReliesAnswer) → Relied plan k w v r → Relied result k w v r' → r' ≡ r
  pub explain : (k w v : ℕ) (r r' : Explanation) → Explains plan k w v r → Explains result k w v r' → r' ≡ r
  -- "verdicts": stable with the highest rank, or suspect with the cycle's length; labels, ranks, settled table and cycle
  pub verdict : (k : ℕ) (labels ranks table shown : List ℕ) (r r' : VerdictAnswer) (a b c d a' b' c' d'' : List ℕ)
      → VerdictCall plan k r (left labels a) (left ranks b) (left table c) (left shown d)
      → VerdictCall result k r' (left labels a') (left ranks b') (left table c') (left shown d'')
      → (r' ≡ r) × (a' ≡ a) × (b' ≡ b) × (c' ≡ c) × (d'' ≡ d)
  -- the numbers of the tables that no act changes
  pub steady : (k : ℕ) (out : List ℕ) (r r' : SteadyAnswer) (after after' : List ℕ) → SteadyCall plan k r (left out after)
      → SteadyCall result k r' (left out after') → (r' ≡ r) × (after' ≡ after)
  -- where to load the hop step
  pub hop_set : (k : ℕ) (r r' : HopSetAnswer) → HopSetCall plan k r → HopSetCall result k r' → r' ≡ r
  pub grade : (k : ℕ) (r r' : GradeAnswer) → GradeCall plan k r → GradeCall result k r' → r' ≡ r
  -- .. and the figures over all lists, with the counts by rank and by router
  pub figures : (ranks routers : List ℕ) (r r' : FiguresAnswer) (a b a' b' : List ℕ) → FiguresCall plan r (left ranks a) (left routers b)
      → FiguresCall result r' (left ranks a') (left routers b') → (r' ≡ r) × (a' ≡ a) × (b' ≡ b)
  -- .. and whether every list is stable, with the list that is given if not
  pub every_list : (list : List ℕ) (r r' : EveryListAnswer) (after after' : List ℕ) → EveryListCall plan r (left list after)
      → EveryListCall result r' (left list after') → (r' ≡ r) × (after' ≡ after)
  -- "held routes and runs", on any table
  pub activate : (k w : ℕ) (table : List ℕ) (r r' : ℕ) (after after' : List ℕ) → Activates plan k w table r after
      → Activates result k w table r' after' → (r' ≡ r) × (after' ≡ after)
  pub run : (k : ℕ) (acts : List ℕ) (limit : ℕ) (table : List ℕ) (r r' : RunAnswer) (after after' : List ℕ)
      → Runs plan k acts limit table r after → Runs result k acts limit table r' after' → (r' ≡ r) × (after' ≡ after)

-- a conversion's answer and what it leaves of the buffer, of either call: the plan, the buffer before
abbrev pub Conversion : Type 1
Conversion = List ℕ → List ℕ → ConvertAnswer → List ℕ → Type 0

-- the plan that a conversion wrote: as many bytes of the buffer as it says
abbrev pub wrote : ConvertAnswer → List ℕ → List ℕ
wrote r after = take r.length after

-- "with the same distances, other bodies, verdicts, held routes and runs", where the conversion is not refused: what it wrote, with
-- distances of `to` bytes, is that of the plan, and every call answers alike on both. The plan's items are bytes, as in every slice of them.
pub record Alike (to : ℕ) (plan result : List ℕ) : Type 0 where
  pub bodies : ConvertedFacts to plan result
  pub calls : SameCalls plan result

abbrev pub AnswersAlike : ℕ → Conversion → Type 0
AnswersAlike to converts =
    (plan out after : List ℕ) (r : ConvertAnswer) → Bytes plan → converts plan out r after → r.refused ≡ 0
    → Alike to plan (wrote r after)

-- "and back again to identical bytes": the second conversion, of what the first wrote, with a buffer that the plan fits into
pub record Back (plan : List ℕ) (r : ConvertAnswer) (after : List ℕ) : Type 0 where
  pub taken : r.refused ≡ 0
  pub long : r.length ≡ length plan
  pub identical : wrote r after ≡ plan

abbrev pub GoesBack : Conversion → Conversion → Type 0
GoesBack there back =
    (plan out after out' after' : List ℕ) (r r' : ConvertAnswer) → Bytes plan → there plan out r after → r.refused ≡ 0
    → back (wrote r after) out' r' after' → length plan ≤ length out' → Back plan r' after'

-- of both directions
pub record Conversions : Type 1 where
  pub widened : AnswersAlike 4 Widens
  pub narrowed : AnswersAlike 2 Narrows
  pub narrow_after_widen : GoesBack Widens Narrows
  pub widen_after_narrow : GoesBack Narrows Widens
