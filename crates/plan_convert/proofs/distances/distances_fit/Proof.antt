use native.Mathlib.Omega.{arith}
use mathlib.Core.Path.{◌≡◌, ◌∙◌}
use borrow.Author.Rules.{rules}
use Rattle.base.proofs.Numbers.{square_le}
use Rattle.plan_contents.specs.Header.{width, router_count}
use Rattle.plan_rules.specs.Distances.{DistanceTable}
use Rattle.plan_rules.proofs.Passed.{distance-table}
use Rattle.plan_convert.proofs.Places.{fit-by-places}
use Rattle.plan_convert.proofs.distances.distances_fit.Statement.{statement}
use Rattle.plan_convert.proofs.distances.distances_fit.Tie as tie

abbrev start : tie.After-wide → tie.Start
start c = c.before.before.before.before

-- what is read is the plan's
bytes : (c : tie.After-wide) → c.wide.result ≡ width (start c).args.plan.now
bytes c = c.wide.ensures.0 ∙ (start c).requires.0.bytes

routers : (c : tie.After-wide) → c.wide-n.result ≡ router_count (start c).args.plan.now
routers c = c.wide-n.ensures.0 ∙ (start c).requires.0.routers

table : (c : tie.After-wide) → DistanceTable c.wide.result c.part-s.result.now c.wide-n.result
table c = distance-table _ (start c).requires.0.ok (bytes c) c.part-s.ensures.bytes (routers c)

pub distances_fit_spec : {M : Type 1} → statement M
distances_fit_spec =
    tie.close
    (tie.spec
    (λ c κs. search rules)
    (λ c κs. search rules)
    (λ c κs. search rules)
    (λ c. omega (arith, square_le c.wide-n.result 255 (omega (arith, c.wide-n.ensures.1))))
    (λ c κs. ((table c).bytes, (table c).pairs, (start c).requires.1))
    (λ c. let b = c.before in fit-by-places _ _ (bytes b) b.part-s.ensures.bytes (routers b) c.all_fit.ensures))
