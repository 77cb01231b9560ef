-- `call_distances::distances`: the checks of n and of the links, in order.
use native.Mathlib.Omega.{arith}
use mathlib.Core.Path.{◌≡◌}
use mathlib.Core.Bool.{true, false}
use borrow.Author.Rules.{rules}
use Rattle.base.proofs.Numbers.{tests, granted, denied}
use Rattle.plan_contents.specs.Header.{router_count_ok}
use Rattle.links_rules.specs.Sheet.{sheet_ok}
use Rattle.links_sums.proofs.Words.{no-walks}
use Rattle.links_rules.proofs.Returns.{count-refused, sheet-refused}
use Rattle.call_distances.proofs.distances.Statement.{statement}
use Rattle.call_distances.proofs.distances.Tie as tie

abbrev start : tie.Else-n-gt64 → tie.Start
start c = c.before.before.before.before

few : (c : tie.Then-n-lt1) → router_count_ok c.args.n ≡ false
unfolding router_count_ok
few c = search tests

many : (c : tie.Then-n-gt64) → router_count_ok c.args.n ≡ false
unfolding router_count_ok
many c = search tests

-- where n is from 1 to 64, and where the links pass too
count-passes : (c : tie.Else-n-gt64) → router_count_ok (start c).args.n ≡ true
unfolding router_count_ok
count-passes c = search tests

sheet-passes : (c : tie.Else-not-sheet_ok) → let a = (start c.before.before).args in sheet_ok a.links.now a.n ≡ true
sheet-passes c = granted _ c.sheet_ok.ensures c.if-not-sheet_ok.false

pub distances_spec : {M : Type 1} → statement M
distances_spec =
    tie.close
    (tie.spec
    (λ c. count-refused _ _ _ (few c))
    (λ c. count-refused _ _ _ (many c))
    (λ c. search rules)
    (λ c κs. search rules)
    (λ c. sheet-refused _ _ _ (count-passes c.before.before) (denied _ c.sheet_ok.ensures c.if-not-sheet_ok.true))
    (λ c. search rules)
    (λ c κs.
    let h = c.before.before.before in
    (search rules, count-passes h.before.before, sheet-passes h, no-walks _ 512 (search rules) (omega arith)))
    (λ c. search rules)
    (λ c. c.least_body.ensures)
    (λ c. search rules)
    (λ c κs.
    let h = c.before.before.before in
    (search rules, count-passes h.before.before, sheet-passes h, no-walks _ 4096 (search rules) (omega arith)))
    (λ c. search rules)
    (λ c. c.least_body-2.ensures))
