-- What the variables hold, case by case of the answers.
use Prim.Native.Nat.{ℕ}
use mathlib.Core.Path.{◌≡◌, refl, ◌∙◌, sym, ap}
use mathlib.Core.Bool.{Bool}
use mathlib.Core.List.{List}
use lib.IntN.{ℤ}
use Rattle.base.specs.Seek.{flag}
use Rattle.route_rules.specs.Reliance.{relies}
use Rattle.net_rules.specs.FromPlan.{instance_of}
use Rattle.call_compare.specs.declared.compare.CompareAnswer.{CompareAnswer}
use Rattle.call_compare.specs.declared.compare.CompareAnswer.TheVariants as compares
use Rattle.call_query.specs.declared.relies.ReliesAnswer.{ReliesAnswer}
use Rattle.call_query.specs.declared.relies.ReliesAnswer.TheVariants as relying
use Rattle.call_query.specs.declared.size.SizeAnswer.{SizeAnswer}
use Rattle.call_hopset.specs.declared.hop_set.HopSetAnswer.{HopSetAnswer}
use Rattle.call_hopset.specs.declared.hop_set.HopSetAnswer.TheVariants as sets
use Rattle.plan_rules.specs.Refusal.{plan_refusal}
use Rattle.call_rules.specs.Refusals.{egress_list_refusal, compare_refusal, relies_refusal, hop_set_refusal}
use Rattle.call_compare.specs.Compare.{compared}
use Rattle.call_compare.specs.Compare.{compare_number, Compares}
use Rattle.call_query.specs.Relies.{relied, relies_number, relies_flag, Relied}
use Rattle.call_query.specs.Size.{size_routers, size_lists, Sizes}
use Rattle.call_hopset.specs.HopSet.{hop_set_answer, refusal_of, set_named, HopSetCall}
use Rattle.plan_rules.proofs.Refused.{when-refused, when-given}
use Rattle.call_verdict.proofs.Judging.{kept}
use Rattle.plan_rules.specs.EgressLists.{SpanOf}
use Rattle.c_rules.specs.Exports.{says_yes, SizeExport, ListExport, CompareExport, ReliesExport, HopSetExport}
use Rattle.c_rules.proofs.Written.{wrote, written, refused-by, cond-answers}

module _ (plan : List ℕ) (r : SizeAnswer) (call : Sizes plan r) (routers lists : ℕ) where
  pub size-refused : (r.refused ≡ 0 → ⊥) → SizeExport plan r.refused (kept routers) (kept lists)
  size-refused h =
      let n : plan_refusal plan ≡ 0 → ⊥ = λ z. h (call.number ∙ z) in
      record { number = call.number; routers-are = sym (when-refused _ _ _ n); lists-are = sym (when-refused _ _ _ n) }

  pub size-given : r.refused ≡ 0 → SizeExport plan 0 (wrote routers r.routers) (wrote lists r.lists)
  unfolding size_routers size_lists
  size-given zero =
      let n : plan_refusal plan ≡ 0 = sym call.number ∙ zero in
      record { number = sym n; routers-are = written _ _ _ _ _ n call.routers; lists-are = written _ _ _ _ _ n call.lists }

module _ (plan : List ℕ) (k : ℕ) (start count : ℕ) where
  pub list-refused : (number : ℕ) → number ≡ egress_list_refusal plan k → (number ≡ 0 → ⊥)
      → ListExport plan k number (kept start) (kept count)
  list-refused number same h =
      let n : egress_list_refusal plan k ≡ 0 → ⊥ = λ z. h (same ∙ z) in
      record { number = same; started = sym (when-refused _ _ _ n); counted = sym (when-refused _ _ _ n) }

  pub list-given : (start' count' : ℕ) → egress_list_refusal plan k ≡ 0 → SpanOf plan k start' count'
      → ListExport plan k 0 (wrote start start') (wrote count count')
  list-given start' count' given span =
      record {
        number = sym given;
        started = span.starts ∙ sym (when-given _ _ _ given);
        counted = span.counts ∙ sym (when-given _ _ _ given);
      }

abbrev compare_refuses : CompareAnswer → ℕ
compare_refuses (compares.Refused number) = 1
compare_refuses (compares.Compared preferred margin) = 0

module _ (plan : List ℕ) (w e d f d' : ℕ) (r : CompareAnswer) (call : Compares plan w e (says_yes d) f (says_yes d') r)
    (better present : ℕ) (margin : ℤ) where
  compared-answers : compare_refuses (compared plan w e (says_yes d) f (says_yes d')) ≡ 0
  unfolding compared
  compared-answers = refl

  pub compare-refused : (number : ℕ) → r ≡ compares.Refused number
      → CompareExport plan w e d f d' number (kept better) (kept present) (kept margin)
  compare-refused number is =
      let n : compare_refusal plan w e f ≡ 0 → ⊥ =
      refused-by compare_refuses _ r _ _ call.answer (ap compare_refuses is) compared-answers in
      record {
        number = sym (ap compare_number is) ∙ call.number;
        compared = sym (when-refused _ _ _ n);
        flagged = sym (when-refused _ _ _ n);
        measured = sym (when-refused _ _ _ n);
      }

abbrev relies_refuses : ReliesAnswer → ℕ
relies_refuses (relying.Refused number) = 1
relies_refuses relying.Yes = 0
relies_refuses relying.No = 0

module _ (plan : List ℕ) (k w v : ℕ) (r : ReliesAnswer) (call : Relied plan k w v r) (before : ℕ) where
  relied-answers : relies_refuses (relied plan k w v) ≡ 0
  unfolding relied
  relied-answers = cond-answers relies_refuses (relies (instance_of plan k) w v) _ _ refl refl

  pub relies-refused : (number : ℕ) → r ≡ relying.Refused number → ReliesExport plan k w v number (kept before)
  relies-refused number is =
      let n : relies_refusal plan k w v ≡ 0 → ⊥ =
      refused-by relies_refuses _ r _ _ call.answer (ap relies_refuses is) relied-answers in
      record { number = sym (ap relies_number is) ∙ call.number; answered = sym (when-refused _ _ _ n) }

  pub relies-given : (value : Bool) → relies_number r ≡ 0 → relies_flag r ≡ value → ReliesExport plan k w v 0 (wrote before (flag value))
  relies-given value zero is =
      let n : relies_refusal plan k w v ≡ 0 = sym call.number ∙ zero in
      record {
        number = sym n;
        answered = ap flag (sym is ∙ call.value ∙ when-given _ _ _ n) ∙ sym (when-given _ _ _ n);
      }

abbrev hop_set_refuses : HopSetAnswer → ℕ
hop_set_refuses (sets.Refused number) = 1
hop_set_refuses (sets.Named set) = 0

module _ (plan : List ℕ) (k : ℕ) (r : HopSetAnswer) (call : HopSetCall plan k r) (before : ℕ) where
  pub hop-set-refused : (number : ℕ) → r ≡ sets.Refused number → HopSetExport plan k number (kept before)
  unfolding hop_set_answer
  hop-set-refused number is =
      let n : hop_set_refusal plan k ≡ 0 → ⊥ = refused-by hop_set_refuses _ r _ _ call.answer (ap hop_set_refuses is) refl in
      record { number = sym (ap refusal_of is) ∙ call.numbered; named = sym (when-refused _ _ _ n) }

  pub hop-set-given : (set : ℕ) → r ≡ sets.Named set → HopSetExport plan k 0 (wrote before set)
  hop-set-given set is =
      let n : hop_set_refusal plan k ≡ 0 = sym call.numbered ∙ ap refusal_of is in
      record { number = sym n; named = written _ _ _ _ _ n (sym (ap set_named is) ∙ call.named) }
