use native.Mathlib.Omega.{arith}
use mathlib.Core.Path.{◌≡◌, ◌∙◌}
use borrow.Author.Rules.{rules}
use Rattle.base.proofs.Numbers.{square_le}
use Rattle.plan_contents.specs.Header.{width, router_count}
use Rattle.plan_rules.specs.Distances.{DistanceTable}
use Rattle.plan_rules.proofs.Passed.{distance-table}
use Rattle.plan_convert.proofs.Places.{body-by-places}
use Rattle.plan_convert.proofs.distances.write_body.Statement.{statement}
use Rattle.plan_convert.proofs.distances.write_body.Tie as tie

abbrev start : tie.After-wide → tie.Start
start c = c.before.before.before.before.before

-- what is read is the plan's
bytes : (c : tie.After-wide) → c.wide.result ≡ width (start c).args.plan.now
bytes c = c.wide.ensures.0 ∙ (start c).requires.0.bytes

routers : (c : tie.After-wide) → c.wide-n.result ≡ router_count (start c).args.plan.now
routers c = c.wide-n.ensures.0 ∙ (start c).requires.0.routers

table : (c : tie.After-wide) → DistanceTable c.wide.result c.part-s.result.now c.wide-n.result
table c = distance-table _ (start c).requires.0.ok (bytes c) c.part-s.ensures.bytes (routers c)

pub write_body_spec : {M : Type 1} → statement M
write_body_spec =
    tie.close
    (tie.spec
    (λ c κs. search rules)
    (λ c κs. search rules)
    (λ c κs. search rules)
    (λ c. omega (arith, square_le c.wide-n.result 255 (omega (arith, c.wide-n.ensures.1))))
    (λ c κs. let b = c.before in ((table b).bytes, (table b).pairs, (start b).requires.1, rw (routers b) (start b).requires.2))
    (λ c. search rules)
    (λ c.
    let w = c in
    let b = w.before.before in
    body-by-places _ (start b.before.before).args.plan.now (bytes b.before.before) b.part-s.ensures.bytes (routers b.before.before) (start b.before.before).requires.1 _ _ w.write_distances.ensures))
