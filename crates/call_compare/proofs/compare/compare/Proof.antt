use native.Mathlib.Omega.{arith}
use mathlib.Core.Path.{◌≡◌, ◌∙◌, sym}
use borrow.Author.Rules.{rules}
use lib.Dec.{lit<}
use Rattle.plan_rules.specs.Distances.{DistanceTable}
use Rattle.plan_read.specs.declared.refusal.CheckedPlan.{CheckedPlan}
use Rattle.plan_read.specs.Checked.{Accepted}
use Rattle.plan_rules.proofs.Passed.{distance-table}
use Rattle.net_rules.specs.FromPlan.{instance_of}
use Rattle.net_prefer.specs.Measured.{Measured}
use Rattle.net_prefer.proofs.Measured.{read_as}
use Rattle.call_rules.specs.Refusals.{compare_refusal}
use Rattle.call_rules.proofs.Granted.{CompareAsked, compare-asked}
use Rattle.call_compare.proofs.Preferring.{measured-of, compares-refused, compares-given}
use Rattle.call_compare.proofs.compare.compare.Statement.{statement}
use Rattle.call_compare.proofs.compare.compare.Tie as tie

-- nothing is refused
given : (c : tie.Else-refused-ne0) → let a = c.args in compare_refusal a.plan.now a.router a.first a.second ≡ 0
given c = sym (c.compare_refusal-refused.ensures _ c.check-checked.ensures) ∙ c.if-refused-ne0.false

asked : (c : tie.Else-refused-ne0) → let a = c.args in CompareAsked a.plan.now a.router a.first a.second
asked c = compare-asked _ _ _ _ (given c)

accepted : (c : tie.Else-refused-ne0) → let d = c in Accepted d.args.plan.now d.check-checked.result
accepted c = c.check-checked.ensures.accepted (asked c).plan_ok

-- where the check is left behind, and the function's entry
abbrev passed : tie.After-part-distances → tie.Else-refused-ne0
passed c = c.before.before.before

abbrev start : tie.After-part-distances → tie.Start
start c = (passed c).before.before.before.before

abbrev checked_plan : tie.After-part-distances → CheckedPlan
checked_plan c = (passed c).check-checked.result

-- there is a distance for every pair
pairs : (c : tie.After-part-distances) → DistanceTable (checked_plan c).width c.part-distances.result.now (checked_plan c).n
pairs c = let a = accepted (passed c) in distance-table _ a.ok a.bytes c.part-distances.ensures.bytes a.routers

distance-requires : tie.Need-distance-to_first-requires
distance-requires c κs =
    let q = asked (passed c) in
    let n = (accepted (passed c)).routers in
    (omega arith, omega arith, pairs c)

distance-requires-2 : tie.Need-distance-to_second-requires
distance-requires-2 c κs =
    let d = c.before in
    let q = asked (passed d) in
    let n = (accepted (passed d)).routers in
    (omega arith, omega arith, pairs d)

-- the distances read are those of the plan's network
measured : (c : tie.After-part-distances) → Measured (instance_of (start c).args.plan.now 0) (checked_plan c).width c.part-distances.result.now (checked_plan c).n
measured c = let a = accepted (passed c) in measured-of (start c).args.plan.now a.bytes c.part-distances.ensures.bytes a.routers

-- .. and its role is read
has-step-requires : tie.Need-has_step-step-requires
has-step-requires c κs =
    let d = c.before.before in
    let q = asked (passed d) in
    (accepted (passed d), omega arith)

returns-2 : tie.Need-returns
returns-2 c =
    let role = c.before.before in
    let second = role.before in
    let first = second.before in
    let part = first.before in
    let to-first = read_as (measured part) _ _ _ first.distance-to_first.ensures.0 in
    let to-second = read_as (measured part) _ _ _ second.distance-to_second.ensures.0 in
    let bytes = (accepted (passed part)).bytes in
    compares-given _ _ _ _ _ _ _ _ (given (passed part))
    (c.which_better-preferred.ensures _ _ to-first to-second role.has_step-step.ensures)
    (c.margin_of-margin.ensures _ _ _ _ to-first to-second)
    (rw (to-first.dist, ← bytes) first.distance-to_first.ensures.1)
    (rw (to-second.dist, ← bytes) second.distance-to_second.ensures.1)

pub compare_spec : {M : Type 1} → statement M
compare_spec =
    tie.close
    (tie.spec
    (λ c κs. search rules)
    (λ c κs. search rules)
    (λ c. compares-refused _ _ _ _ _ _ _ (c.compare_refusal-refused.ensures _ c.check-checked.ensures) c.if-refused-ne0.true)
    (λ c. search rules)
    (λ c. search rules)
    (λ c κs. (accepted c.before.before, lit< tt))
    distance-requires
    distance-requires-2
    has-step-requires
    (λ c κs. search rules)
    (λ c κs. search rules)
    returns-2)
