-- Rows 1 to 3, and then the bodies.
use Prim.Native.Nat.{ℕ, ◌≤◌}
use native.Mathlib.Omega.{arith}
use mathlib.Core.Path.{◌≡◌}
use mathlib.Core.Bool.{true}
use mathlib.Core.List.{List}
use mathlib.Core.Logic.{⊎_elim}
use borrow.Author.Rules.{rules}
use lib.ListN.{length}
use Rattle.base.proofs.Numbers.{granted, denied}
use Rattle.plan_contents.specs.Header.{header_ok, mark, width, router_count, router_count_ok}
use Rattle.plan_contents.specs.Contents.{contents_ok}
use Rattle.plan_rules.specs.Distances.{TwoOrFour}
use Rattle.plan_rules.specs.Refusal.{refuse, plan_checks, plan_refusal}
use Rattle.plan_rules.proofs.Widths.{width-of-mark}
use Rattle.plan_contents.proofs.Facts.{header-facts, count-facts}
use Rattle.plan_read.proofs.refusal.refusal.Statement.{statement}
use Rattle.plan_read.proofs.refusal.refusal.Tie as tie

abbrev plan₁ : tie.Else-not-header_ok → List ℕ
plan₁ c = c.args.plan.now

abbrev plan₂ : tie.Else-not-router_count_ok → List ℕ
plan₂ c = plan₁ c.before.before.before

abbrev second : tie.Else-not-contents_ok → tie.Else-not-router_count_ok
second c = c.before.before.before.before.before

abbrev plan₃ : tie.Else-not-contents_ok → List ℕ
plan₃ c = plan₂ (second c)

header-passes : (c : tie.Else-not-header_ok) → header_ok (plan₁ c) ≡ true
header-passes c = granted _ c.header_ok.ensures c.if-not-header_ok.false

long : (c : tie.Else-not-header_ok) → 26 ≤ length (plan₁ c)
long c = (header-facts (plan₁ c) (header-passes c)).least

count-passes : (c : tie.Else-not-router_count_ok) → router_count_ok (router_count (plan₂ c)) ≡ true
count-passes c = granted _ c.router_count_ok.ensures c.if-not-router_count_ok.false

few : (c : tie.Else-not-router_count_ok) → router_count (plan₂ c) ≤ 64
few c = (count-facts (router_count (plan₂ c)) (count-passes c)).most

-- the width read is the plan's
width-is : (c : tie.After-width_of-width) → c.width_of-width.result ≡ width (plan₂ c.before.before)
width-is c = c.width_of-width.ensures

width-bytes : (c : tie.After-width_of-width) → TwoOrFour c.width_of-width.result
width-bytes c = rw (width-is c) (width-of-mark (mark (plan₂ c.before.before)))

contents-passes : (c : tie.Else-not-contents_ok) → let read = c in
    contents_ok read.read_contents-table.result read.width_of-width.result (router_count (plan₃ c)) (length (plan₃ c)) ≡ true
contents-passes c = granted _ c.contents_ok.ensures c.if-not-contents_ok.false

returns : tie.Need-returns-then-not-header_ok
unfolding plan_refusal plan_checks refuse
returns c = rw (denied _ c.header_ok.ensures c.if-not-header_ok.true)

returns-2 : tie.Need-returns-then-not-router_count_ok
unfolding plan_refusal plan_checks refuse
returns-2 c = rw (header-passes c.before.before.before, denied _ c.router_count_ok.ensures c.if-not-router_count_ok.true)

returns-3 : tie.Need-returns-then-not-contents_ok
unfolding plan_refusal plan_checks refuse
returns-3 c =
    let read = c.before.before in
    let d = read.before.before.before in
    rw (
      header-passes d.before.before.before,
      count-passes d,
      ← read.read_contents-table.ensures,
      ← (width-is read.before),
      denied _ c.contents_ok.ensures c.if-not-contents_ok.true,
    )

returns-4 : tie.Need-returns
unfolding plan_refusal plan_checks refuse
returns-4 c =
    let read = c.before.before.before in
    let d = read.before.before.before in
    rw (
      header-passes d.before.before.before,
      count-passes d,
      ← read.read_contents-table.ensures,
      ← (width-is read.before),
      contents-passes c.before,
    )
    c.bodies_refusal.ensures

pub refusal_spec : {M : Type 1} → statement M
refusal_spec =
    tie.close
    (tie.spec
    (λ c κs. search rules)
    returns
    (λ c. omega (arith, long c.before))
    (λ c κs. search rules)
    returns-2
    (λ c. omega (arith, long c.before.before.before.before))
    (λ c κs. search rules)
    (λ c κs. long c.before.before.before.before.before)
    (λ c. ⊎_elim (λ w. omega arith) (λ w. omega arith) (width-bytes c.before))
    (λ c. omega (arith, few c.before.before.before))
    (λ c κs. (⊎_elim (λ w. omega arith) (λ w. omega arith) (width-bytes c.before), few c.before.before.before))
    returns-3
    (λ c κs. (few (second c), width-bytes c.before.before.before, contents-passes c))
    returns-4)
