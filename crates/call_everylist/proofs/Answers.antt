-- The answer of the call, refused or given.
use Prim.Native.Nat.{ℕ, zero, suc, ◌≤◌}
use native.Mathlib.Omega.{arith}
use mathlib.Core.Path.{◌≡◌, refl, ◌∙◌, sym, ap, ap₂}
use mathlib.Core.Bool.{false}
use mathlib.Core.List.{List, [], ◌++◌}
use lib.ListN.{length, drop}
use Rattle.base.specs.Lent.{Lent}
use Rattle.plan_rules.proofs.Refused.{when-refused}
use Rattle.route_rules.specs.Instance.{Instance}
use Rattle.everylist_rules.specs.EveryList.{EveryListMeans, every_list, suspect_list}
use Rattle.everylist_rules.proofs.Listless.{listless}
use Rattle.everylist_rules.proofs.Meaning.{every-list-means}
use Rattle.net_rules.specs.FromPlan.{instance_of}
use Rattle.net_everylist.specs.declared.EveryList.{EveryList}
use Rattle.net_everylist.specs.EveryList.{case_of, Answered}
use Rattle.call_rules.specs.Refusals.{every_list_refusal}
use Rattle.call_everylist.specs.declared.every_list.EveryListAnswer.{EveryListAnswer}
use Rattle.call_everylist.specs.declared.every_list.EveryListAnswer.TheVariants.{Refused}
use Rattle.call_everylist.specs.EveryList.{network_of, answer_of, as_answer, every_list_answer, list_after, refusal_of, answer_number, count_of, EveryListGiven, EveryListCall}

-- the case of a number is the same in both
same_case : (answer count : ℕ) → as_answer (case_of answer count) ≡ answer_of answer count
same_case zero count = refl
same_case (suc zero) count = refl
same_case (suc (suc more)) count = refl

module _ (I : Instance) where
  means : EveryListMeans I
  means = every-list-means I

  -- a number of an answer is its case's
  numbers : (x count : ℕ) → x ≤ 2 → (refusal_of (answer_of x count) ≡ 0) × (answer_number (answer_of x count) ≡ x)
  numbers zero count l = (refl, refl)
  numbers (suc zero) count l = (refl, refl)
  numbers (suc (suc zero)) count l = (refl, refl)
  numbers (suc (suc (suc x))) count l = absurd (omega arith)

  counts : (x : ℕ) (l : List ℕ) → ((x ≡ 0 → ⊥) → l ≡ []) → count_of (answer_of x (length l)) ≡ length l
  counts zero l h = refl
  counts (suc zero) l h = sym (ap length (h (λ z. omega arith)))
  counts (suc (suc x)) l h = sym (ap length (h (λ z. omega arith)))

  given : (number : ℕ) (r : EveryListAnswer) (list : Lent (List ℕ)) → number ≡ 0 → r ≡ answer_of (every_list I) (length (suspect_list I))
      → list.after ≡ suspect_list I ++ drop (length (suspect_list I)) list.before → EveryListGiven number I r list
  unfolding every_list_answer list_after
  given number r list z e w =
      let n = numbers (every_list I) (length (suspect_list I)) means.answers in
      rw z
      (record {
        answer = e;
        numbered = ap refusal_of e ∙ n.0;
        answered = ap answer_number e ∙ n.1;
        counted = ap count_of e ∙ counts (every_list I) (suspect_list I) means.nobody;
        written = w;
      })

-- what is left as it was
abbrev kept : List ℕ → Lent (List ℕ)
kept x = record { before = x; after = x }

module _ (plan : List ℕ) where
  pub every-refused : (list : List ℕ) (number : ℕ) → number ≡ every_list_refusal plan list → (number ≡ 0 → ⊥) → EveryListCall plan (Refused number) (kept list)
  unfolding every_list_answer list_after
  every-refused list number same h =
      let n : every_list_refusal plan list ≡ 0 → ⊥ = λ z. h (same ∙ z) in
      record {
        answer = ap Refused same ∙ sym (when-refused _ _ _ n);
        numbered = same;
        answered = sym (when-refused _ _ _ n);
        counted = sym (when-refused _ _ _ n);
        written = sym (when-refused _ _ _ n);
      }

  -- the list that the plan was opened with plays no part
  pub every_given : (list : Lent (List ℕ)) (r : EveryListAnswer) (found : EveryList) → every_list_refusal plan list.before ≡ 0 → r ≡ as_answer found
      → Answered (instance_of plan 0) found list → EveryListCall plan r list
  every_given list r found z e a =
      let s = listless (instance_of plan 0) (λ v. false) in
      given (network_of plan) _ r list z
      (e ∙ ap as_answer a.answer ∙ same_case (every_list (instance_of plan 0)) (length (suspect_list (instance_of plan 0))) ∙ sym (ap₂ (λ x l. answer_of x (length l)) s.0 s.1))
      (a.written ∙ sym (ap (λ l. l ++ drop (length l) list.before) s.1))
