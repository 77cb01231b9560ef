-- Examples of plans with the roles of a set's routers changed, in literal bytes and numbers. Beside each stands what a misreading gives.
use Rattle.std.specs.Prelude.{ℕ, ◌≡◌, true, set}
use Rattle.plan_examples.specs.Plans.{m3_plan, m3_with_roles}
use Rattle.call_hopset.specs.declared.hop_set.HopSetAnswer.TheVariants.{Named}
use Rattle.call_hopset.specs.HopSet.{HopSetCall}
use Rattle.steady_examples.specs.SteadyCallExamples.{pairs_and_one}
use Rattle.checker_theorems.specs.HopSets.{role_with_step, stepped, named_set, chosen_count}

pub record HopSetsExamples : Type 0 where
  -- a call that is not refused
  pub call : HopSetCall m3_plan 0 (Named 1)
  -- "their roles 1 and 3 become 4 and 5"
  pub role1 : role_with_step 1 ≡ 4
  pub role3 : role_with_step 3 ≡ 5  -- role 4 for both: 4
  pub role2 : role_with_step 2 ≡ 2  -- of a client too: 4
  pub role4 : role_with_step 4 ≡ 4
  -- at the routers that the number names, and nowhere else
  pub at0 : stepped m3_plan (named_set m3_plan 0 1) ≡ m3_with_roles 4 1  -- at every reflector: roles 4 and 4
  pub at1 : stepped m3_plan (named_set m3_plan 0 2) ≡ m3_with_roles 1 4  -- the highest router first: roles 4 and 1
  pub of_role3 : stepped (m3_with_roles 3 1) (named_set (m3_with_roles 3 1) 0 1) ≡ m3_with_roles 5 1  -- role 3 made 4: roles 4 and 1
  pub nowhere : stepped m3_plan (named_set m3_plan 0 0) ≡ m3_plan
  -- bit 2 is that of router 3, whose role is byte 41; byte 36 is that of router 2
  pub by_its_bit : stepped pairs_and_one (named_set pairs_and_one 1 4) ≡ set pairs_and_one 41 4  -- bit i for router i: byte 36
  -- clients may be chosen, and are not counted
  pub everyone : stepped m3_plan (λ w. true) ≡ m3_with_roles 4 4  -- clients with the step: role 4 for them too
  pub counted : chosen_count m3_plan 0 (λ w. true) ≡ 2  -- with clients: 4
