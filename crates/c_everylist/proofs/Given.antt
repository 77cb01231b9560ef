-- What the buffer and the variables hold, case by case of the answer.
use Prim.Native.Nat.{ℕ, zero, suc}
use mathlib.Core.Path.{◌≡◌, refl, ◌∙◌, sym, ap}
use mathlib.Core.List.{List}
use lib.ListN.{length}
use Rattle.base.specs.Lent.{Lent}
use Rattle.plan_rules.proofs.Refused.{when-refused}
use Rattle.everylist_rules.specs.EveryList.{every_list, suspect_list}
use Rattle.call_rules.specs.Refusals.{every_list_refusal}
use Rattle.call_verdict.proofs.Judging.{kept}
use Rattle.call_everylist.specs.declared.every_list.EveryListAnswer.{EveryListAnswer}
use Rattle.call_everylist.specs.declared.every_list.EveryListAnswer.TheVariants.{Refused, Yes, No, Undecided}
use Rattle.call_everylist.specs.EveryList.{network_of, answer_of, every_list_answer, refusal_of, answer_number, count_of, EveryListCall}
use Rattle.c_rules.specs.Exports.{EveryListExport}
use Rattle.c_rules.proofs.Written.{wrote, written, refused-by}

abbrev refuses : EveryListAnswer → ℕ
refuses (Refused number) = 1
refuses Yes = 0
refuses (No count) = 0
refuses Undecided = 0

none-refused : (answer count : ℕ) → refuses (answer_of answer count) ≡ 0
none-refused zero count = refl
none-refused (suc zero) count = refl
none-refused (suc (suc more)) count = refl

module _ (plan : List ℕ) (r : EveryListAnswer) (list : Lent (List ℕ)) (call : EveryListCall plan r list) (answer count : ℕ) where
  abbrev number₀ : ℕ
  number₀ = every_list_refusal plan list.before

  pub every-refused : (number : ℕ) → r ≡ Refused number → EveryListExport plan number (kept answer) list (kept count)
  unfolding every_list_answer
  every-refused number is =
      let n : number₀ ≡ 0 → ⊥
      = refused-by refuses _ r _ _ call.answer (ap refuses is) (none-refused (every_list (network_of plan)) (length (suspect_list (network_of plan)))) in
      record {
        numbered = sym (ap refusal_of is) ∙ call.numbered;
        answered = sym (when-refused _ _ _ n);
        bytes = call.written;
        counted = sym (when-refused _ _ _ n);
      }

  -- an answer that is not refused has its own number and count
  pub every_given : (shown : EveryListAnswer) → r ≡ shown → refusal_of shown ≡ 0
      → EveryListExport plan 0 (wrote answer (answer_number shown)) list (wrote count (count_of shown))
  every_given shown is passed =
      let n : number₀ ≡ 0 = sym call.numbered ∙ ap refusal_of is ∙ passed in
      record {
        numbered = sym n;
        answered = written _ _ _ _ _ n (sym (ap answer_number is) ∙ call.answered);
        bytes = call.written;
        counted = written _ _ _ _ _ n (sym (ap count_of is) ∙ call.counted);
      }
