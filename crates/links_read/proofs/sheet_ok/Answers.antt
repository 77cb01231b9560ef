-- `links_read::sheet_ok`: `all` asks of every link below the count.
use Rattle.std.proofs.Common.{rules, arith, length, ◌/◌}
use Rattle.std.proofs.lemmas.Grind.{common_steps}
use Rattle.std.proofs.lemmas.Bool.{eq-eqb, le-leb}
use Rattle.std.proofs.lemmas.Iterator.{YieldsList-from_range}
use Rattle.std.proofs.lemmas.Iterator.Search.{all_from_yields_List}
use Rattle.links_rules.specs.Sheet.{link_ok, sheet_ok}
use Rattle.base.proofs.Numbers.{tests}
use Rattle.base.proofs.Library.{all-range}
use Rattle.links_read.proofs.sheet_ok.Goals as goal

pub returns-then-count-le-LINKS_MOST : goal.returns-then-count-le-LINKS_MOST
unfolding sheet_ok
returns-then-count-le-LINKS_MOST c =
    let s = c.args.s.now in
    rw (eq-eqb _ _ c.if-count-le-LINKS_MOST.true.0, le-leb _ _ c.if-count-le-LINKS_MOST.true.1, ← all-range (link_ok s c.args.n) (length s / 4))
    (all_from_yields_List (link_ok s c.args.n) _ _ _ c.all.ensures.ran (YieldsList-from_range 0 (length s / 4) (length s / 4) (search rules) (search rules)) (λ x b q k. search (rules, tests)))

pub returns-else-count-le-LINKS_MOST : goal.returns-else-count-le-LINKS_MOST
unfolding sheet_ok
returns-else-count-le-LINKS_MOST c = grind (arith, common_steps)
