-- `graph_groups::groups::label_of`: i shares its group with none, or with the first router below it that is found, or with none below it.
use Rattle.std.proofs.Common.{◌≡◌, ◌≤◌, arith, rules, tests, sym, ◌∙◌}
use Rattle.std.proofs.lemmas.Iterator.{first_from_Range}
use Rattle.base.specs.Bits.{bits}
use Rattle.graph_groups.specs.Groups.{together, label}
use Rattle.base.proofs.Library.{seek-find}
use Rattle.graph_groups.proofs.Sharing.{label-alone}
use Rattle.graph_groups.proofs.groups.label_of.Goals as goal

pub returns-then-bit-eq0 : goal.returns-then-bit-eq0
returns-then-bit-eq0 c = label-alone (bits c.args.closed.now) _ c.requires.1 (sym c.bit.ensures ∙ c.if-bit-eq0.true)

pub returns : goal.returns
unfolding label
returns c =
    let shared = together (bits c.args.closed.now) c.args.i in
    c.unwrap_or.ensures
    ∙ seek-find shared c.args.i c.find.result
    (first_from_Range _ _ _ _ (λ j. 1 ≤ shared j) (λ j. shared j ≡ 0) c.find.ensures.ran
    (λ x q k. grind (arith, tests))
    (λ x q k. (search rules, grind (arith, tests))))
