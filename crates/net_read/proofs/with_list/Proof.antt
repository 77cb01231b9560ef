use native.Mathlib.Omega.{arith}
use mathlib.Core.Path.{◌∙◌, ap}
use borrow.Author.Rules.{rules}
use Rattle.plan_rules.proofs.Passed.{passed}
use Rattle.net_rules.specs.FromPlan.{named}
use Rattle.net_rules.proofs.FromPlan.{number-below}
use Rattle.net_read.proofs.OtherList.{opened-list}
use Rattle.net_read.proofs.with_list.Statement.{statement}
use Rattle.net_read.proofs.with_list.Tie as tie

listed-word-requires : tie.Need-listed_word-listed-requires
listed-word-requires c κs =
    let p = passed _ c.requires.0.ok in
    rw c.list_numbers.ensures.bytes (λ j l. omega (arith, number-below _ p _ (omega arith) j l, p.count.most))

returns : tie.Need-returns
returns c = opened-list _ _ _ _ (λ v. c.listed_word-listed.ensures v ∙ ap (λ s. named s v) c.list_numbers.ensures.bytes)

pub with_list_spec : {M : Type 1} → statement M
with_list_spec = tie.close (tie.spec (λ c κs. search rules) listed-word-requires returns)
