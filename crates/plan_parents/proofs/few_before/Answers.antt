-- `plan_parents::few_before`: every router below `end` is asked.
use Rattle.std.proofs.Common.{rules, ◌∙◌, refl}
use Rattle.std.proofs.lemmas.Iterator.{YieldsList-from_range}
use Rattle.std.proofs.lemmas.Iterator.Search.{all_from_yields_List}
use borrow.Author.Tests.{tests}
use Rattle.base.proofs.Library.{all-range}
use Rattle.plan_parents.specs.Counts.{few_counted}
use Rattle.plan_parents.proofs.few_before.Goals as goal

pub returns : goal.returns
returns c =
    all_from_yields_List (few_counted c.args.routers.now c.args.counts.now) _ _ _ c.all.ensures.ran (YieldsList-from_range 0 c.args.end c.args.end refl (search rules))
    (λ x b q k. search (rules, tests))
    ∙ all-range _ _
