use native.Mathlib.Omega.{arith}
use mathlib.Core.Path.{◌≡◌, ◌∙◌}
use borrow.Author.Rules.{rules}
use Rattle.steady_rules.specs.Steady.{grouped_routers}
use Rattle.net_rules.specs.Decoded.{decoded}
use Rattle.net_groups.proofs.Counted.{counted-all}
use Rattle.call_hopset.proofs.Naming.{too_many, few-enough}
use Rattle.call_hopset.proofs.hop_set.name_set.Statement.{statement}
use Rattle.call_hopset.proofs.hop_set.name_set.Tie as tie

abbrev entry : tie.After-how_many → tie.Start
entry c = c.before.before.before.before.before

-- what is counted are the routers in groups of two or more
counted : (c : tie.After-how_many)
    → let a = (entry c).args in c.how_many.result ≡ grouped_routers (decoded a.net a.rows.now a.distances.now)
counted c = c.how_many.ensures ∙ counted-all _ _ _ _ c.group_rows-grouped.ensures (entry c).requires.count

returns : tie.Need-returns-then-how_many-gt12
returns c = too_many _ (omega (arith, counted c.before, c.if-how_many-gt12.true))

returns-2 : tie.Need-returns
returns-2 c =
    let d = c.before.before in
    few-enough _ _ (omega (arith, counted d.before, d.if-how_many-gt12.false))
    (c.hop_set.ensures _ _ (entry d.before).requires.count d.group_rows-grouped.ensures)

pub name_set_spec : {M : Type 1} → statement M
name_set_spec =
    tie.close
    (tie.spec
    (λ c κs. search rules)
    (λ c κs. search rules)
    returns
    (λ c κs. omega (arith, c.how_many.ensures, c.if-how_many-gt12.false))
    returns-2)
