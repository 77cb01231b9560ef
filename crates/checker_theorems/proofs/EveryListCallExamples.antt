-- The examples of plans with one list in place of their lists, worked out from the definitions.
use Prim.Native.Nat.{ℕ, zero, suc, ◌≤◌, ◌<◌}
use native.Mathlib.Omega.{arith}
use mathlib.Core.Path.{◌≡◌, refl, ◌∙◌, sym, ap, fun_ext}
use mathlib.Core.Bool.{Bool, true, false, not, ◌&&◌, and-true, and-false}
use mathlib.Core.List.{List, [], ◌∷◌}
use mathlib.Core.Logic.{⊎_elim}
use borrow.Author.Tests.{ne_eqb}
use lib.Dec.{eqb, lit≤}
use lib.ListN.{length, get_or}
use Rattle.base.proofs.Below.{any-refuted}
use Rattle.base.proofs.Numbers.{not-both, true-or-false}
use Rattle.plan_contents.specs.Header.{router_count}
use Rattle.plan_examples.specs.Plans.{four_routers, small_plan, m3_plan, three_routers}
use Rattle.route_rules.specs.Instance.{Instance}
use Rattle.steady_rules.specs.Numbers.{numbers_where}
use Rattle.everylist_rules.specs.Pairs.{is_pair, leads_to, left_after, left, foreign, nearest_foreign, walk, found}
use Rattle.everylist_rules.specs.EveryList.{stable_for, none_left, every_list, suspect_list}
use Rattle.everylist_rules.proofs.Meaning.{every-list-means}
use Rattle.net_rules.specs.FromPlan.{named}
use Rattle.call_rules.specs.Refusals.{every_list_refusal}
use Rattle.call_everylist.specs.EveryList.{network_of, every_list_answer, list_after, EveryListGiven}
use Rattle.call_everylist.specs.declared.every_list.EveryListAnswer.TheVariants.{Undecided}
use Rattle.checker_examples.proofs.Questions.{all_rules}
use Rattle.checker_theorems.specs.EveryList.{with_list_in, LegalList, OneParent, EachStable}
use Rattle.checker_theorems.specs.EveryListCallExamples.{untouched, two_parents_plan, EveryListCallExamples}

two-three : LegalList 4 (2 ∷ 3 ∷ [])
two-three = record { below = below; rises = rises }
  where
    below : (j : ℕ) → j < 2 → get_or (2 ∷ 3 ∷ []) j 0 < 4
    below zero l = omega arith
    below (suc zero) l = omega arith
    below (suc (suc j)) l = absurd (omega arith)

    rises : (i j : ℕ) → i < j → j < 2 → get_or (2 ∷ 3 ∷ []) i 0 < get_or (2 ∷ 3 ∷ []) j 0
    rises zero zero l m = absurd (omega arith)
    rises zero (suc zero) l m = omega arith
    rises zero (suc (suc j)) l m = absurd (omega arith)
    rises (suc i) j l m = absurd (omega arith)

one-parent : OneParent m3_plan
unfolding four_routers small_plan m3_plan all_rules
one-parent zero l e = lit≤ tt
one-parent (suc zero) l e = lit≤ tt
one-parent (suc (suc zero)) l e = lit≤ tt
one-parent (suc (suc (suc zero))) l e = lit≤ tt
one-parent (suc (suc (suc (suc v)))) l e = absurd (omega arith)

-- nobody past the last router is in a list that a plan may have
none-past : (n : ℕ) (numbers : List ℕ) → LegalList n numbers → (v : ℕ) → n ≤ v → named numbers v ≡ false
unfolding named
none-past n numbers g v l =
    any-refuted (λ j. eqb (get_or numbers j 0) v) (length numbers) (λ j m. ne_eqb (get_or numbers j 0) v (λ e. omega (arith, g.below j m)))

-- clients 3, 4 and 5, each listed or not
abbrev three : (a b c : Bool) → ℕ → Bool
three a b c v = get_or (false ∷ false ∷ false ∷ a ∷ b ∷ c ∷ []) v false

clients-of : (listed : ℕ → Bool) → ((v : ℕ) → 6 ≤ v → listed v ≡ false)
    → (λ v. listed v && not ((network_of two_parents_plan).reflector v)) ≡ three (listed 3) (listed 4) (listed 5)
unfolding two_parents_plan all_rules
clients-of listed past = fun_ext go
  where
    go : (v : ℕ) → (listed v && not ((network_of two_parents_plan).reflector v)) ≡ three (listed 3) (listed 4) (listed 5) v
    go zero = and-false (listed 0)
    go (suc zero) = and-false (listed 1)
    go (suc (suc zero)) = and-false (listed 2)
    go (suc (suc (suc zero))) = and-true (listed 3)
    go (suc (suc (suc (suc zero)))) = and-true (listed 4)
    go (suc (suc (suc (suc (suc zero))))) = and-true (listed 5)
    go (suc (suc (suc (suc (suc (suc v)))))) = rw (past (suc (suc (suc (suc (suc (suc v)))))) (omega arith)) refl

three-stable : (a b c : Bool) → stable_for (network_of two_parents_plan) (three a b c) ≡ true
unfolding two_parents_plan all_rules
three-stable false false false = refl
three-stable false false true = refl
three-stable false true false = refl
three-stable false true true = refl
three-stable true false false = refl
three-stable true false true = refl
three-stable true true false = refl
three-stable true true true = refl

six : router_count two_parents_plan ≡ 6
unfolding two_parents_plan
six = refl

each-stable : EachStable two_parents_plan
each-stable numbers g =
    let I : Instance = network_of two_parents_plan in
    let listed : ℕ → Bool = named numbers in
    let past : (v : ℕ) → 6 ≤ v → named numbers v ≡ false = λ v l. none-past (router_count two_parents_plan) numbers g v (rw six l) in
    ⊎_elim (λ (h : stable_for I listed ≡ true). h)
    (λ (h : stable_for I listed ≡ false).
    not-both (stable_for I (three (listed 3) (listed 4) (listed 5))) (three-stable (listed 3) (listed 4) (listed 5))
    (sym (ap (stable_for I) (clients-of listed past)) ∙ (every-list-means I).clients_alone listed h))
    (true-or-false (stable_for I listed))

-- an undecided call leaves its buffer as it was
undecided-call : (number : ℕ) (I : Instance) (list : List ℕ) → number ≡ 0 → every_list I ≡ 2
    → EveryListGiven number I Undecided (record { before = list; after = list })
unfolding every_list_answer list_after
undecided-call number I list z a =
    let s : suspect_list I ≡ [] = (every-list-means I).nobody (λ e. omega (arith, a)) in
    record { answer = rw (z, a) refl; numbered = sym z; answered = rw (z, a) refl; counted = rw (z, s) refl; written = rw (z, s) refl }

pub every-list-call-examples : EveryListCallExamples
unfolding
    all_rules four_routers small_plan m3_plan three_routers two_parents_plan with_list_in numbers_where
    is_pair leads_to left_after left foreign nearest_foreign walk found none_left every_list suspect_list
    every_list_refusal every_list_answer list_after
every-list-call-examples =
    record {
      yes = record { answer = refl; numbered = refl; answered = refl; counted = refl; written = refl };
      no = record { answer = refl; numbered = refl; answered = refl; counted = refl; written = refl };
      undecided = undecided-call (every_list_refusal two_parents_plan untouched) (network_of two_parents_plan) untouched refl refl;
      each_stable = each-stable;
      clients = refl;
      reflector = refl;
      nobody = refl;
      of_three = refl;
      long_now = refl;
      accepted = refl;
      legal = two-three;
      one_parent = one-parent;
      of_m1 = refl;
      of_m2 = refl;
      of_m3 = refl;
      of_m3_by3 = refl;
      of_m4 = refl;
      of_m5 = refl;
    }
