-- Document 02, "The margin with its sign" and "Reflectors with the hop step", of the call that compares: what its answer says, and that
-- whatever else compares routes agrees with it. In each, d says that the first, e, told its route itself, and d' that the second, f, did.
use Rattle.std.specs.Prelude.{ℕ, ◌<◌, ◌≡◌, Bool, true, false, not, cond, ◌&&◌, ◌||◌, List, ltb, eqb, pos, nat_abs, ◌-ℤ◌, ◌<ℤ◌}
use Rattle.plan_contents.specs.Header.{width}
use Rattle.plan_contents.specs.Contents.{routers_body}
use Rattle.plan_rules.specs.Routers.{role}
use Rattle.plan_rules.specs.Distances.{highest}
use Rattle.route_rules.specs.OneComparison.{OneComparison}
use Rattle.net_rules.specs.FromPlan.{instance_of}
use Rattle.call_compare.specs.declared.compare.CompareAnswer.{CompareAnswer}
use Rattle.call_compare.specs.Compare.{compare_number, compare_better, compare_has_margin, compare_margin, Compares}

-- "Roles 4 and 5 are roles 1 and 3 with that step": w's role in the plan's bytes is one of the two
abbrev pub step_role : List ℕ → ℕ → Bool
step_role plan w = eqb (role (routers_body plan) w) 4 || eqb (role (routers_body plan) w) 5

-- .. and just one of two routes is told by its own egress router
unfoldable pub step_decides : List ℕ → ℕ → Bool → Bool → Bool
step_decides plan w d d' = step_role plan w && cond d (not d') d'

-- what an answer r of the comparison of e and f at w says, in a plan; 1 is the first, 2 the second, 0 neither
pub record MarginSays (plan : List ℕ) (w e : ℕ) (d : Bool) (f : ℕ) (d' : Bool) (r : CompareAnswer) : Type 0 where
  -- a negative margin: the first is better, unless the step decides
  pub negative : step_decides plan w d d' ≡ false → compare_margin r <ℤ pos 0 → compare_better r ≡ 1
  -- a positive one: the second is
  pub positive : step_decides plan w d d' ≡ false → pos 0 <ℤ compare_margin r → compare_better r ≡ 2
  -- "Zero means that the numbers decide or the two are the same route."
  pub zero :
      step_decides plan w d d' ≡ false → compare_has_margin r ≡ true → compare_margin r ≡ pos 0
      → compare_better r ≡ cond (ltb e f) 1 (cond (ltb f e) 2 0)
  -- "a route told by its own egress router beats one passed on": whatever the margin is. "at such a reflector a zero may also mean that the
  -- step decided"
  pub step : step_decides plan w d d' ≡ true → compare_has_margin r ≡ true → (e ≡ f → ⊥) → compare_better r ≡ cond d 1 2
  -- "two routes of one egress are still the same"
  pub same : e ≡ f → compare_better r ≡ 0
  -- "from minus 65,534 to 65,534", and of 4-byte distances from minus 4,294,967,294 to 4,294,967,294
  pub range : nat_abs (compare_margin r) < highest (width plan)

-- .. of every comparison, refused or not
abbrev pub EveryMarginSays : Type 0
EveryMarginSays =
    (plan : List ℕ) (w e : ℕ) (d : Bool) (f : ℕ) (d' : Bool) (r : CompareAnswer) → Compares plan w e d f d' r
    → MarginSays plan w e d f d' r

-- what an answer r that is not refused says by the ways that w has
pub record WaySays (plan : List ℕ) (w e f : ℕ) (r : CompareAnswer) : Type 0 where
  -- "A way still beats none", whoever told the routes
  pub first : (instance_of plan 0).way w e ≡ true → (instance_of plan 0).way w f ≡ false → compare_better r ≡ 1
  pub second : (instance_of plan 0).way w e ≡ false → (instance_of plan 0).way w f ≡ true → compare_better r ≡ 2
  -- "and of two without a way neither is better"
  pub neither : (instance_of plan 0).way w e ≡ false → (instance_of plan 0).way w f ≡ false → compare_better r ≡ 0
  -- "A margin exists only if both have a way", and then it is "the first distance minus the second"
  pub present : compare_has_margin r ≡ ((instance_of plan 0).way w e && (instance_of plan 0).way w f)
  pub margin :
      (instance_of plan 0).way w e ≡ true → (instance_of plan 0).way w f ≡ true
      → compare_margin r ≡ pos ((instance_of plan 0).dist w e) -ℤ pos ((instance_of plan 0).dist w f)

abbrev pub EveryWaySays : Type 0
EveryWaySays =
    (plan : List ℕ) (w e : ℕ) (d : Bool) (f : ℕ) (d' : Bool) (r : CompareAnswer) → Compares plan w e d f d' r → compare_number r ≡ 0
    → WaySays plan w e f r

-- what two comparisons of the same routes say, told otherwise: r with d and d', s with other flags
pub record ToldOtherwise (plan : List ℕ) (w : ℕ) (r s : CompareAnswer) : Type 0 where
  -- "the margin is worked out as before": who told a route plays no part in it, nor in a refusal
  pub number : compare_number s ≡ compare_number r
  pub present : compare_has_margin s ≡ compare_has_margin r
  pub margin : compare_margin s ≡ compare_margin r
  -- "on reflectors only", of roles 4 and 5: at a router of any other role it plays no part at all
  pub elsewhere : step_role plan w ≡ false → s ≡ r

abbrev pub EveryToldOtherwise : Type 0
EveryToldOtherwise =
    (plan : List ℕ) (w e : ℕ) (d : Bool) (f : ℕ) (d' : Bool) (x x' : Bool) (r s : CompareAnswer)
    → Compares plan w e d f d' r → Compares plan w e x f x' s → ToldOtherwise plan w r s

-- "Whatever else compares routes agrees with this answer": for every list, with an answer that is not refused, whose number is 1 where the
-- first is better
abbrev pub EveryComparisonAgrees : Type 0
EveryComparisonAgrees =
    (plan : List ℕ) (k w e : ℕ) (d : Bool) (f : ℕ) (d' : Bool) (r : CompareAnswer) → Compares plan w e d f d' r → compare_number r ≡ 0
    → OneComparison (instance_of plan k) w e d f d' (eqb (compare_better r) 1)
