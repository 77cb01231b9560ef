-- The part of a list, refused and not.
use Prim.Native.Nat.{ℕ}
use mathlib.Core.Path.{◌≡◌}
use mathlib.Core.List.{List}
use denote.Ref.{Bor}
use Rattle.plan_rules.specs.EgressLists.{list_start, list_size, list_numbers}
use Rattle.plan_rules.proofs.Passed.{passed}
use Rattle.plan_rules.proofs.ListWithin.{numbers_of}
use Rattle.plan_rules.proofs.Refused.{when-refused, when-given}
use Rattle.call_rules.specs.Refusals.{egress_list_refusal}
use Rattle.call_rules.proofs.Granted.{list-asked}
use Rattle.call_query.specs.EgressList.{egress_list_start, egress_list_size, ListPartOf, HandedBack}

module _ (plan : List ℕ) (k : ℕ) where
  pub record Placed (start size : ℕ) : Type 0 where
    pub starts : egress_list_start plan k ≡ start
    pub sizes : egress_list_size plan k ≡ size

  pub placed-refused : (egress_list_refusal plan k ≡ 0 → ⊥) → Placed 0 0
  unfolding egress_list_start egress_list_size
  placed-refused h = record { starts = when-refused _ _ _ h; sizes = when-refused _ _ _ h }

  pub placed-given : egress_list_refusal plan k ≡ 0 → Placed (list_start plan k) (list_size plan k)
  unfolding egress_list_start egress_list_size
  placed-given h = record { starts = when-given _ _ _ h; sizes = when-given _ _ _ h }

-- of a list that is not refused the part is its numbers
pub handed-back : (plan : Bor (List ℕ)) (k : ℕ) (part : Bor (List ℕ)) → ListPartOf plan k part → egress_list_refusal plan.now k ≡ 0 → HandedBack plan k part
handed-back plan k part s h =
    let g = placed-given plan.now k h in
    let a = list-asked plan.now k h in
    let is : part.now ≡ list_numbers plan.now k = rw (g.starts, g.sizes) at s.bytes in
    record {
      numbers-are = is;
      numbers = rw is (numbers_of plan.now (passed plan.now a.plan_ok) k a.list);
      place = rw g.starts at s.address;
    }
