-- Document 01, "Kind 4": the lists of a plan.
use Rattle.std.specs.Prelude.{ℕ, ◌+◌, ◌≤◌, ◌<◌, List, ◌≡◌, length, get_or, take, drop}
use Rattle.plan_contents.specs.Header.{router_count}
use Rattle.plan_contents.specs.Contents.{contents_of, lists_entry, lists_body}
use Rattle.plan_rules.specs.Lists.{list_count_in, list_place, member_count, member}

-- of a plan: m, where the numbers of list k stand, how many they are, and they themselves, "that stretch of the plan itself"
abbrev pub list_count : List ℕ → ℕ
list_count plan = list_count_in (lists_body plan)

abbrev pub list_start : List ℕ → ℕ → ℕ
list_start plan k = (lists_entry (contents_of plan)).offset + list_place (lists_body plan) k + 1

abbrev pub list_size : List ℕ → ℕ → ℕ
list_size plan k = member_count (lists_body plan) (list_place (lists_body plan) k)

abbrev pub list_numbers : List ℕ → ℕ → List ℕ
list_numbers plan k = take (list_size plan k) (drop (list_start plan k) plan)

-- where list k's numbers stand in the plan and how many they are, and that they lie within it
pub record SpanOf (plan : List ℕ) (k start count : ℕ) : Type 0 where
  pub starts : start ≡ list_start plan k
  pub counts : count ≡ list_size plan k
  pub within : start + count ≤ length plan

-- "the numbers of list k": those after its count byte, as many as it says, "below n, rising strictly".
-- The theorem `Numbers-of` says that `list_numbers` are these, of a plan that is not refused.
pub record NumbersOf (plan : List ℕ) (k : ℕ) (numbers : List ℕ) : Type 0 where
  pub count : length numbers ≡ list_size plan k
  pub are :
      (j : ℕ) → j < list_size plan k →
      get_or numbers j 0 ≡ member (lists_body plan) (list_place (lists_body plan) k) j
  pub below : (j : ℕ) → j < list_size plan k → get_or numbers j 0 < router_count plan
  pub rising : (i j : ℕ) → i < j → j < list_size plan k → get_or numbers i 0 < get_or numbers j 0
