-- The lists of a plan that passed lie within it, and the part of each holds its numbers.
use Prim.Native.Nat.{ℕ, ◌+◌, ◌≤◌, ◌<◌}
use native.Mathlib.Omega.{arith}
use mathlib.Core.Path.{◌≡◌, ◌∙◌, sym, ap}
use mathlib.Core.List.{List}
use lib.Dec.{lit<}
use lib.ListN.{length, get_or, drop, length-take, length-drop}
use lib.Seq.{get_or-take, get_or-drop}
use Rattle.plan_contents.specs.Contents.{contents_of, lists_entry, lists_body}
use Rattle.plan_rules.specs.Lists.{list_place, member}
use Rattle.plan_rules.specs.EgressLists.{list_count, list_start, list_size, list_numbers, NumbersOf}
use Rattle.plan_rules.specs.Passed.{Passed}
use Rattle.plan_rules.proofs.Passed.{part_length}

-- each list's count byte lies within the body, and its numbers within the plan
module _ (plan : List ℕ) (p : Passed plan) where
  pub places-within : (list : ℕ) → list < list_count plan → (k : ℕ) → k ≤ list → list_place (lists_body plan) k < length (lists_body plan)
  places-within list h k l = (p.lists.lists k (omega arith)).starts

  pub span-within : (list : ℕ) → list < list_count plan → list_start plan list + list_size plan list ≤ length plan
  span-within list h =
      omega (arith, (p.lists.lists list h).within, p.contents.lists_end, part_length plan p 3 (lit< tt))

  numbers-length : (k : ℕ) → k < list_count plan → length (list_numbers plan k) ≡ list_size plan k
  numbers-length k l = simp (length-take, length-drop) (omega (arith, span-within k l))

  -- a list's numbers as they stand in the plan are those that stand in the body of kind 4
  number_is : (k : ℕ) → k < list_count plan → (j : ℕ) → j < list_size plan k
      → get_or (list_numbers plan k) j 0 ≡ member (lists_body plan) (list_place (lists_body plan) k) j
  number_is k l j h =
      let e = lists_entry (contents_of plan) in
      let place = list_place (lists_body plan) k in
      let inside : place + 1 + j < e.size = omega (arith, (p.lists.lists k l).within, part_length plan p 3 (lit< tt)) in
      get_or-take (list_size plan k) (drop (list_start plan k) plan) j 0 h
      ∙ get_or-drop (list_start plan k) plan j 0
      ∙ ap (λ i. get_or plan i 0) (omega arith)
      ∙ sym (get_or-take e.size (drop e.offset plan) (place + 1 + j) 0 inside ∙ get_or-drop e.offset plan (place + 1 + j) 0)

  pub numbers_of : (k : ℕ) → k < list_count plan → NumbersOf plan k (list_numbers plan k)
  numbers_of k l =
      let list = p.lists.lists k l in
      record {
        count = numbers-length k l;
        are = number_is k l;
        below = λ j h. omega (arith, number_is k l j h, list.below j h);
        rising = λ i j h b. omega (arith, number_is k l i (omega arith), number_is k l j b, list.rising i j h b);
      }
