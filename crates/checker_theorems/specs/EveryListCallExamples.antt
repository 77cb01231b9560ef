-- Examples of plans with one list in place of their lists, in literal bytes and numbers. Beside each stands what a misreading gives.
use Rattle.std.specs.Prelude.{ℕ, ◌≡◌, List, [], ◌∷◌, get_or}
use Rattle.base.specs.Lent.{Lent}
use Rattle.plan_examples.specs.Plans.{small_plan, small_lists, m3_plan, three_routers, three_with}
use Rattle.plan_rules.specs.Refusal.{plan_refusal}
use Rattle.everylist_rules.specs.EveryList.{every_list, suspect_list}
use Rattle.net_rules.specs.FromPlan.{instance_of}
use Rattle.call_everylist.specs.declared.every_list.EveryListAnswer.TheVariants.{Yes, No, Undecided}
use Rattle.call_everylist.specs.EveryList.{network_of, EveryListCall}
use Rattle.checker_theorems.specs.EveryList.{with_list_in, LegalList, OneParent, EachStable}

-- a buffer of six bytes before the call and after it
abbrev pub untouched : List ℕ
untouched = 9 ∷ 9 ∷ 9 ∷ 9 ∷ 9 ∷ 9 ∷ []

abbrev pub list_lent : (after : List ℕ) → Lent (List ℕ)
list_lent after = record { before = untouched; after = after }

-- Reflectors 0, 1 and 2; client 3 of 2, 4 of 0 and 1, 5 of 0. With clients 5, 4 and 3 each prefers the next one's, 0 that of 2, 2 that of 1,
-- 1 that of 0. But where 4 is listed it is the best client of 0 too. Its list: 3,4,5.
unfoldable pub two_parents_plan : List ℕ
two_parents_plan =
    82 ∷ 82 ∷ 80 ∷ 49 ∷ 6 ∷ 4
    ∷ 1 ∷ 26 ∷ 0 ∷ 30 ∷ 0
    ∷ 2 ∷ 56 ∷ 0 ∷ 14 ∷ 0
    ∷ 3 ∷ 70 ∷ 0 ∷ 72 ∷ 0
    ∷ 4 ∷ 142 ∷ 0 ∷ 5 ∷ 0
    ∷ 1 ∷ 10 ∷ 0 ∷ 0 ∷ 0 ∷ 1 ∷ 20 ∷ 0 ∷ 0 ∷ 0 ∷ 1 ∷ 30 ∷ 0 ∷ 0 ∷ 0
    ∷ 2 ∷ 40 ∷ 0 ∷ 0 ∷ 0 ∷ 2 ∷ 50 ∷ 0 ∷ 0 ∷ 0 ∷ 2 ∷ 60 ∷ 0 ∷ 0 ∷ 0
    ∷ 0 ∷ 1 ∷ 0 ∷ 2 ∷ 0 ∷ 4 ∷ 0 ∷ 5 ∷ 1 ∷ 2 ∷ 1 ∷ 4 ∷ 2 ∷ 3  -- sessions
    ∷ 0 ∷ 0 ∷ 30 ∷ 0 ∷ 30 ∷ 0 ∷ 6 ∷ 0 ∷ 5 ∷ 0 ∷ 10 ∷ 0  -- distances from 0
    ∷ 30 ∷ 0 ∷ 0 ∷ 0 ∷ 30 ∷ 0 ∷ 30 ∷ 0 ∷ 10 ∷ 0 ∷ 6 ∷ 0
    ∷ 30 ∷ 0 ∷ 30 ∷ 0 ∷ 0 ∷ 0 ∷ 10 ∷ 0 ∷ 6 ∷ 0 ∷ 30 ∷ 0
    ∷ 30 ∷ 0 ∷ 30 ∷ 0 ∷ 30 ∷ 0 ∷ 0 ∷ 0 ∷ 30 ∷ 0 ∷ 30 ∷ 0
    ∷ 30 ∷ 0 ∷ 30 ∷ 0 ∷ 30 ∷ 0 ∷ 30 ∷ 0 ∷ 0 ∷ 0 ∷ 30 ∷ 0
    ∷ 30 ∷ 0 ∷ 30 ∷ 0 ∷ 30 ∷ 0 ∷ 30 ∷ 0 ∷ 30 ∷ 0 ∷ 0 ∷ 0
    ∷ 1 ∷ 3 ∷ 3 ∷ 4 ∷ 5
    ∷ []

pub record EveryListCallExamples : Type 0 where
  -- calls that are not refused
  pub yes : EveryListCall (small_plan 14 14 small_lists) Yes (list_lent untouched)
  pub no : EveryListCall m3_plan (No 2) (list_lent (2 ∷ 3 ∷ 9 ∷ 9 ∷ 9 ∷ 9 ∷ []))  -- the bytes after the list cleared: 2 3 0 0 0 0
  pub undecided : EveryListCall two_parents_plan Undecided (list_lent untouched)  -- the list found given though it is stable: 3 4 5 9 9 9
  -- undecided though every list is stable
  pub each_stable : EachStable two_parents_plan
  -- "in place of its lists": M3's plan has three
  pub clients : with_list_in m3_plan (2 ∷ 3 ∷ []) ≡ small_plan 6 6 (1 ∷ 2 ∷ 2 ∷ 3 ∷ [])  -- behind its lists: a plan with bytes after the lists
  pub reflector : with_list_in m3_plan (0 ∷ []) ≡ small_plan 6 6 (1 ∷ 1 ∷ 0 ∷ [])
  pub nobody : with_list_in m3_plan [] ≡ small_plan 6 6 (1 ∷ 0 ∷ [])
  pub of_three : with_list_in three_routers (0 ∷ 1 ∷ 2 ∷ []) ≡ three_with (1 ∷ 3 ∷ 0 ∷ 1 ∷ 2 ∷ [])
  -- byte 24 says how long they are
  pub long_now : get_or (with_list_in m3_plan (2 ∷ 3 ∷ [])) 24 0 ≡ 4  -- as before: 8, and the plan is refused with 3
  pub accepted : plan_refusal (with_list_in m3_plan (2 ∷ 3 ∷ [])) ≡ 0
  -- a list that a plan of four routers may have
  pub legal : LegalList 4 (2 ∷ 3 ∷ [])
  -- a plan in which no client has two neighbouring reflectors
  pub one_parent : OneParent m3_plan
  -- M1, M2 and M4: yes; M3 and M5: no, with list 2,3
  pub of_m1 : every_list (network_of (small_plan 14 14 small_lists)) ≡ 1
  pub of_m2 : every_list (network_of (small_plan 6 14 small_lists)) ≡ 1
  pub of_m3 : suspect_list (network_of m3_plan) ≡ 2 ∷ 3 ∷ []
  pub of_m3_by3 : suspect_list (instance_of m3_plan 1) ≡ 2 ∷ 3 ∷ []  -- by its list 3 alone, which is stable: none
  pub of_m4 : every_list (network_of (small_plan 10 10 small_lists)) ≡ 1
  pub of_m5 : suspect_list (network_of (small_plan 9 10 small_lists)) ≡ 2 ∷ 3 ∷ []
