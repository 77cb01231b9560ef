-- Document 01, "Kind 4": "The caller can have the numbers of list k handed back as that stretch of the plan itself. If refused, the stretch
-- is empty, and a second call on the same plan and k returns the number, 0 for none."
use Rattle.std.specs.Prelude.{ℕ, List, ◌≡◌}
use Rattle.std.specs.Borrow.{Bor}
use Rattle.base.specs.Bytes.{PartOf, bytes_on}
use Rattle.plan_rules.specs.EgressLists.{list_start, list_size, list_numbers, NumbersOf}
use Rattle.call_rules.specs.Refusals.{egress_list_refusal}
use Rattle.plan_rules.specs.Refused.{field}

-- where in the plan the part (the paper's stretch) starts and how many bytes it has: none, at the plan's start, if refused
unfoldable pub egress_list_start : List ℕ → ℕ → ℕ
egress_list_start plan k = field (egress_list_refusal plan k) (list_start plan k)

unfoldable pub egress_list_size : List ℕ → ℕ → ℕ
egress_list_size plan k = field (egress_list_refusal plan k) (list_size plan k)

-- `part` is that part of the caller's slice: its bytes, and its address within the slice.
abbrev pub ListPartOf : Bor (List ℕ) → ℕ → Bor (List ℕ) → Type 0
ListPartOf plan k part = PartOf plan (egress_list_start plan.now k) (egress_list_size plan.now k) part

-- "the numbers of list k handed back as that stretch of the plan itself": the numbers, and the place in the caller's memory. The theorem
-- `handed-back` says so of a list that is not refused.
pub record HandedBack (plan : Bor (List ℕ)) (k : ℕ) (part : Bor (List ℕ)) : Type 0 where
  pub numbers-are : part.now ≡ list_numbers plan.now k
  pub numbers : NumbersOf plan.now k part.now
  pub place : part.ref_ptr ≡ bytes_on plan.ref_ptr (list_start plan.now k)
