-- Document 01, "Refusal table, in order of checking": "Checks 8, 9 and 10 stand only for calls that take such things": the others pass
-- them. Document 02: "the first check in order that fails now decides, not the lowest number". The plan's own rows come first, in the order
-- that `RowExactly` of crate `plan_rules` is about. Here by the calls' tests; `RowsExactly` has it in plain facts and in both directions.
use Rattle.std.specs.Prelude.{ℕ, ◌≡◌, Bool, true, false, List}
use Rattle.plan_rules.specs.Refusal.{plan_refusal}

-- `number` is the refusal of a call: whether its list and routers are `ok`, the routers in groups of two or more `few` enough, its buffers
-- `long` enough, and its table obeys its `rule`. Row 15 comes "after 8 and before 9".
pub record InOrder (plan : List ℕ) (ok few long rule : Bool) (number : ℕ) : Type 0 where
  pub plan-rows : (plan_refusal plan ≡ 0 → ⊥) → number ≡ plan_refusal plan
  pub row-8 : plan_refusal plan ≡ 0 → ok ≡ false → number ≡ 8
  pub row-15 : plan_refusal plan ≡ 0 → ok ≡ true → few ≡ false → number ≡ 15
  pub row-9 : plan_refusal plan ≡ 0 → ok ≡ true → few ≡ true → long ≡ false → number ≡ 9
  pub row-10 : plan_refusal plan ≡ 0 → ok ≡ true → few ≡ true → long ≡ true → rule ≡ false → number ≡ 10
  pub none : plan_refusal plan ≡ 0 → ok ≡ true → few ≡ true → long ≡ true → rule ≡ true → number ≡ 0
