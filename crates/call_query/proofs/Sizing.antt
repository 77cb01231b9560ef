-- What a plan's size is, refused and not.
use Prim.Native.Nat.{ℕ}
use mathlib.Core.Path.{◌≡◌, ◌∙◌, sym}
use mathlib.Core.List.{List}
use Rattle.plan_contents.specs.Header.{router_count}
use Rattle.plan_rules.specs.EgressLists.{list_count}
use Rattle.plan_rules.specs.Refusal.{plan_refusal}
use Rattle.call_query.specs.declared.size.SizeAnswer.{SizeAnswer}
use Rattle.call_query.specs.Size.{size_routers, size_lists, Sizes}
use Rattle.plan_rules.proofs.Refused.{when-refused, when-given}

module _ (plan : List ℕ) (r : SizeAnswer) (number : r.refused ≡ plan_refusal plan) where
  pub sizes-refused : (r.refused ≡ 0 → ⊥) → r.routers ≡ 0 → r.lists ≡ 0 → Sizes plan r
  unfolding size_routers size_lists
  sizes-refused h routers lists =
      let n : plan_refusal plan ≡ 0 → ⊥ = λ z. h (number ∙ z) in
      record { number = number; routers = routers ∙ sym (when-refused _ _ _ n); lists = lists ∙ sym (when-refused _ _ _ n) }

  pub sizes-given : r.refused ≡ 0 → r.routers ≡ router_count plan → r.lists ≡ list_count plan → Sizes plan r
  unfolding size_routers size_lists
  sizes-given zero routers lists =
      let n : plan_refusal plan ≡ 0 = sym number ∙ zero in
      record { number = number; routers = routers ∙ sym (when-given _ _ _ n); lists = lists ∙ sym (when-given _ _ _ n) }
