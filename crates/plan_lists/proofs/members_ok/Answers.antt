-- `plan_lists::members_ok`: every member below `count` is asked.
use Rattle.std.proofs.Common.{rules, ◌∙◌, refl}
use Rattle.std.proofs.lemmas.Iterator.{YieldsList-from_range}
use Rattle.std.proofs.lemmas.Iterator.Search.{all_from_yields_List}
use borrow.Author.Tests.{tests}
use Rattle.base.proofs.Library.{all-range}
use Rattle.plan_rules.specs.Lists.{member_ok}
use Rattle.plan_lists.proofs.members_ok.Goals as goal

pub returns : goal.returns
returns c =
    all_from_yields_List (member_ok c.args.s.now c.args.n c.args.place) _ _ _ c.all.ensures.ran (YieldsList-from_range 0 c.args.count c.args.count refl (search rules))
    (λ x b q k. search (rules, tests))
    ∙ all-range _ _
