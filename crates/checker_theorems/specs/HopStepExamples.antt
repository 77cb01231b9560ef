-- Examples of plans whose reflectors all have the hop step, or some, in literal bytes and numbers. After "Misread" stands what a misreading
-- gives.
use Rattle.std.specs.Prelude.{◌≡◌, [], ◌∷◌}
use Rattle.net_rules.specs.FromPlan.{instance_of}
use Rattle.net_verdict.specs.Assessed.{highest_of, cycle_of}
use Rattle.plan_examples.specs.Plans.{m3_with_roles}
use Rattle.checker_examples.specs.HopExamples.{six_mixed}
use Rattle.checker_theorems.specs.HopStep.{HasList, MayCycle, AllHaveStep}

pub record HopStepExamples : Type 0 where
  -- "a plan whose reflectors all have the step": those of M3's plan with roles 4 and 5, and not with 4 and 1. Misread as role 4 alone: the
  -- first does not hold; as some reflector: the second does.
  pub all : AllHaveStep (m3_with_roles 4 5)
  pub not_all : AllHaveStep (m3_with_roles 4 1) → ⊥
  -- The highest rank may be 3: list 3 of the first. Misread with no offer passed on counted at the step: 1.
  pub three : highest_of (instance_of (m3_with_roles 4 5) 1) ≡ 3
  -- Of reflectors of roles 1, 4, 1 the first and the last may be in a cycle, and are, each with a best client. Misread with one step enough
  -- for a plan: there is none.
  pub mixed : HasList six_mixed 0
  pub cycle : cycle_of (instance_of six_mixed 0) ≡ 0 ∷ 2 ∷ []
  pub first : MayCycle six_mixed 0 0
  pub last : MayCycle six_mixed 0 2
  pub first_client : first.client ≡ 3
  pub last_client : last.client ≡ 4
