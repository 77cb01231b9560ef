-- The laws of a cascade of checks, and of the plan's own.
use Prim.Native.Nat.{ℕ, suc}
use native.Mathlib.Omega.{arith}
use mathlib.Core.Path.{◌≡◌, refl, ◌∙◌, sym, ap}
use mathlib.Core.Bool.{Bool, true, false}
use mathlib.Core.List.{List}
use mathlib.Core.Logic.{⊎_elim}
use Rattle.base.proofs.Numbers.{eq-or-ne}
use Rattle.plan_rules.specs.Refusal.{refuse, body_checks, plan_checks, plan_refusal}

-- checks before a rest that decides where they pass
pub record Cascade (checks : ℕ → ℕ) : Type 0 where
  pub passed : checks 0 ≡ 0 → (rest : ℕ) → checks rest ≡ rest
  pub refused : (checks 0 ≡ 0 → ⊥) → (rest : ℕ) → checks rest ≡ checks 0

no-checks : Cascade (λ rest. rest)
no-checks = record { passed = λ e rest. refl; refused = λ ne rest. absurd (ne refl) }

one-more : {checks : ℕ → ℕ} (ok : Bool) (number : ℕ) → Cascade checks → Cascade (λ rest. refuse ok (suc number) (checks rest))
unfolding refuse
one-more true number c = c
one-more false number c =
    record { passed = λ e rest. absurd (omega arith); refused = λ ne rest. refl }

pub plan-cascade : (plan : List ℕ) → Cascade (plan_checks plan)
unfolding plan_checks body_checks
plan-cascade plan =
    one-more _ _ (one-more _ _ (one-more _ _ (one-more _ _ (one-more _ _ (one-more _ _ (one-more _ _ (one-more _ _ no-checks)))))))

-- the plan's checks after that of its mark
pub marked-cascade : (plan : List ℕ) (ok : Bool) → Cascade (λ rest. refuse ok 1 (plan_checks plan rest))
marked-cascade plan ok = one-more ok 0 (plan-cascade plan)

pub refuse-passed : (ok : Bool) (number rest : ℕ) → refuse ok (suc number) rest ≡ 0 → (ok ≡ true) × (rest ≡ 0)
unfolding refuse
refuse-passed true number rest h = (refl, h)
refuse-passed false number rest h = absurd (omega arith)

-- checks after checks
compose : {first more : ℕ → ℕ} → Cascade first → Cascade more → Cascade (λ rest. first (more rest))
compose {first} {more} f g =
    record {
      passed = λ e rest. let z = opens e in f.passed z _ ∙ g.passed (sym (f.passed z _) ∙ e) rest;
      refused =
          λ ne rest.
          ⊎_elim
          (λ (z : first 0 ≡ 0). ap first (g.refused (λ w. ne (f.passed z _ ∙ w)) rest))
          (λ (z : first 0 ≡ 0 → ⊥). f.refused z _ ∙ sym (f.refused z _))
          (eq-or-ne (first 0) 0);
    }
  where
    opens : first (more 0) ≡ 0 → first 0 ≡ 0
    opens e = ⊎_elim (λ z. z) (λ (z : first 0 ≡ 0 → ⊥). sym (f.refused z _) ∙ e) (eq-or-ne (first 0) 0)

-- the plan's checks and row 8, before a call's later checks
pub call-cascade : (plan : List ℕ) (ok : Bool) → Cascade (λ rest. plan_checks plan (refuse ok 8 rest))
call-cascade plan ok = compose (plan-cascade plan) (one-more ok 7 no-checks)

-- a call's own checks decide exactly where the plan's pass
pub plan-passes : (plan : List ℕ) (rest : ℕ) → plan_refusal plan ≡ 0 → plan_checks plan rest ≡ rest
unfolding plan_refusal
plan-passes plan rest h = (plan-cascade plan).passed h rest

pub plan-refused : (plan : List ℕ) (rest : ℕ) → (plan_refusal plan ≡ 0 → ⊥) → plan_checks plan rest ≡ plan_refusal plan
unfolding plan_refusal
plan-refused plan rest h = (plan-cascade plan).refused h rest

-- a call that is not refused has a plan that is not
pub plan-of-passed : (plan : List ℕ) (rest : ℕ) → plan_checks plan rest ≡ 0 → plan_refusal plan ≡ 0
plan-of-passed plan rest h =
    ⊎_elim (λ e. e) (λ ne. sym (plan-refused plan rest ne) ∙ h) (eq-or-ne (plan_refusal plan) 0)

pub refuse-true : (ok : Bool) (number rest : ℕ) → ok ≡ true → refuse ok number rest ≡ rest
unfolding refuse
refuse-true ok number rest h = rw h
