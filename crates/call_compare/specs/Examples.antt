-- Examples that tell what a comparison returns from a misreading of it, on the plan of three routers and two lists that crate
-- plan_examples gives in literal bytes. Beside each stands what a misreading gives.
use Rattle.std.specs.Prelude.{◌≡◌, true, false, List, ℕ, pos, neg_ℤ, set, Some, None}
use Rattle.plan_examples.specs.Plans.{three_routers}
use Rattle.call_compare.specs.declared.compare.Preferred.TheVariants.{First, Second, Neither}
use Rattle.call_compare.specs.declared.compare.CompareAnswer.TheVariants.{Compared}
use Rattle.call_compare.specs.Compare.{which_better, has_margin, margin_number, compared, compare_better, compare_has_margin, compare_margin}

-- the plan with another role for router 0, in byte 26
abbrev pub with_role : ℕ → List ℕ
with_role role = set three_routers 26 role

-- .. with role 4 and another distance from 0 to 2, in bytes 49 and 50: 5, as far as to 1; no way
abbrev pub level : List ℕ
level = set (set (with_role 4) 49 5) 50 0

abbrev pub cut : List ℕ
cut = set (set (with_role 4) 49 255) 50 255

pub record CompareExamples : Type 0 where
  -- "(the first is better, the second, or neither if they are the same)": 1, 2, 0; "the first distance minus the second". From 0 it is
  -- 5 to 1 and 258 to 2
  pub first_is_better : compared three_routers 0 1 true 2 true ≡ Compared First (Some (neg_ℤ (pos 253)))  -- exchanged: Compared Second (Some (pos 253))
  pub second_is_better : compared three_routers 0 2 true 1 true ≡ Compared Second (Some (pos 253))  -- exchanged: Compared First ..
  pub neither : compared three_routers 0 2 true 2 true ≡ Compared Neither (Some (pos 0))  -- as one of the two: Compared Second ..
  pub first_is1 : which_better three_routers 0 1 true 2 true ≡ 1
  pub second_is2 : which_better three_routers 0 2 true 1 true ≡ 2
  pub neither_is0 : which_better three_routers 0 2 true 2 true ≡ 0
  -- "Roles 4 and 5 are roles 1 and 3 with that step: a route told by its own egress router beats one passed on"; "the margin is worked out
  -- as before"
  pub told_from_afar : compared (with_role 4) 0 2 true 1 false ≡ Compared First (Some (pos 253))  -- by the distance: Compared Second ..
  pub near_but_passed_on : compared (with_role 4) 0 1 false 2 true ≡ Compared Second (Some (neg_ℤ (pos 253)))  -- by the distance: Compared First ..
  pub told_from_afar_is1 : which_better (with_role 4) 0 2 true 1 false ≡ 1  -- by the distance: 2
  pub passed_on_is2 : which_better (with_role 4) 0 1 false 2 true ≡ 2  -- the flags exchanged: 1
  pub at_role5 : compared (with_role 5) 0 2 true 1 false ≡ Compared First (Some (pos 253))  -- role 4 alone: Compared Second ..
  pub not_at_role1 : compared (with_role 1) 0 2 true 1 false ≡ Compared Second (Some (pos 253))  -- every reflector: Compared First ..
  pub not_at_role3 : compared (with_role 3) 0 2 true 1 false ≡ Compared Second (Some (pos 253))  -- role 3 for the step: Compared First ..
  -- "on reflectors only": from client 1 it is 7 to 0 and 9 to 2
  pub not_at_a_client : compared (with_role 4) 1 2 true 0 false ≡ Compared Second (Some (pos 2))  -- every router: Compared First ..
  -- "and only then distance and number count": of two told alike
  pub both_told : compared (with_role 4) 0 2 true 1 true ≡ Compared Second (Some (pos 253))  -- the first that is told: Compared First ..
  pub both_passed_on : compared (with_role 4) 0 2 false 1 false ≡ Compared Second (Some (pos 253))  -- neither counts: Compared Neither ..
  -- "and at such a reflector a zero may also mean that the step decided": against the lower number, 1
  pub zero_by_the_step : compared level 0 2 true 1 false ≡ Compared First (Some (pos 0))  -- by the number: Compared Second ..
  pub zero_by_the_number : compared level 0 2 false 1 false ≡ Compared Second (Some (pos 0))
  -- "two routes of one egress are still the same"
  pub same_egress : compared (with_role 4) 0 2 true 2 false ≡ Compared Neither (Some (pos 0))  -- the one told: Compared First ..
  pub same_egress_exchanged : compared (with_role 4) 0 2 false 2 true ≡ Compared Neither (Some (pos 0))  -- the one told: Compared Second ..
  -- "A way still beats none": there is none from 0 to 2
  pub way_passed_on : compared cut 0 1 false 2 true ≡ Compared First None  -- the step before the way: Compared Second None
  pub minus253 : margin_number three_routers 0 1 2 ≡ neg_ℤ (pos 253)  -- the sign turned: pos 253
  pub there_is_a_margin : has_margin three_routers 0 1 2 ≡ true
  pub number_of_second : compare_better (Compared Second None) ≡ 2
  pub number_of_first : compare_better (Compared First None) ≡ 1
  pub number_of_neither : compare_better (Compared Neither None) ≡ 0
  -- "A margin exists only if both have a way."
  pub absent_is_none : compare_has_margin (Compared First None) ≡ false
  pub zero_is_a_margin : compare_has_margin (Compared First (Some (pos 0))) ≡ true  -- zero as none: false
  pub number_of_minus_four : compare_margin (Compared First (Some (neg_ℤ (pos 4)))) ≡ neg_ℤ (pos 4)  -- the magnitude alone: pos 4
