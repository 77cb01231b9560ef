-- `plan_routers::routers_ok`: every router below n is asked.
use Rattle.std.proofs.Common.{rules, ◌∙◌, refl}
use Rattle.std.proofs.lemmas.Iterator.{YieldsList-from_range}
use Rattle.std.proofs.lemmas.Iterator.Search.{all_from_yields_List}
use borrow.Author.Tests.{tests}
use Rattle.base.proofs.Library.{all-range}
use Rattle.plan_rules.specs.Routers.{router_ok, routers_ok}
use Rattle.plan_routers.proofs.routers_ok.Goals as goal

pub returns : goal.returns
unfolding routers_ok
returns c =
    all_from_yields_List (router_ok c.args.s.now) _ _ _ c.all.ensures.ran (YieldsList-from_range 0 c.args.n c.args.n refl (search rules))
    (λ x b q k. search (rules, tests))
    ∙ all-range _ _
