-- The examples of plans with the hop step, worked out from the definitions that the contracts cite.
use Prim.Native.Nat.{ℕ, zero, suc, ◌<◌}
use native.Mathlib.Omega.{arith}
use mathlib.Core.Path.{◌≡◌, refl}
use mathlib.Core.Bool.{true, false}
use mathlib.Core.Logic.{◌⊎◌, inl, inr, ⊎_elim}
use Rattle.base.proofs.Numbers.{not-both}
use Rattle.plan_contents.specs.Contents.{routers_body}
use Rattle.plan_rules.specs.Routers.{role}
use Rattle.plan_examples.specs.Plans.{four_routers, small_plan, m3_plan, m3_with_roles}
use Rattle.checker_examples.specs.TellingExamples.{six_routers, six}
use Rattle.checker_examples.specs.HopExamples.{six_mixed}
use Rattle.checker_examples.proofs.Questions.{all_rules}
use Rattle.checker_theorems.specs.Comparisons.{step_role}
use Rattle.checker_theorems.specs.HopStep.{AllHaveStep}
use Rattle.checker_theorems.specs.HopStepExamples.{HopStepExamples}

each-role : (w : ℕ) → w < 4 → (role (routers_body (m3_with_roles 4 5)) w ≡ 2) ⊎ (step_role (m3_with_roles 4 5) w ≡ true)
unfolding four_routers small_plan m3_plan m3_with_roles
each-role zero l = inr refl
each-role (suc zero) l = inr refl
each-role (suc (suc zero)) l = inl refl
each-role (suc (suc (suc zero))) l = inl refl
each-role (suc (suc (suc (suc w)))) l = absurd (omega arith)

-- router 1 has role 1
not-all : AllHaveStep (m3_with_roles 4 1) → ⊥
unfolding four_routers small_plan m3_plan m3_with_roles
not-all h =
    ⊎_elim (λ (e : 1 ≡ 2). omega arith) (λ (s : false ≡ true). not-both false s refl) (h.roles 1 (omega arith))

pub hop-step-examples : HopStepExamples
unfolding all_rules four_routers small_plan m3_plan m3_with_roles six_routers six six_mixed
hop-step-examples =
    record {
      all = record { plan_ok = refl; roles = each-role };
      not_all = not-all;
      three = refl;
      mixed = record { plan_ok = refl; list_ok = omega arith };
      cycle = refl;
      first = record { unlisted = refl; without_step = inl refl; client = 3; best = refl };
      last = record { unlisted = refl; without_step = inl refl; client = 4; best = refl };
      first_client = refl;
      last_client = refl;
    }
