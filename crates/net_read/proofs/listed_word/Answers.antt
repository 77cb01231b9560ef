-- `net_read::listed_word`: each number marks its router, and at the end all are marked.
use Rattle.std.proofs.Common.{sym, ap, subst, eqb, arith}
use Rattle.net_rules.specs.FromPlan.{named}
use Rattle.net_read.proofs.Marks.{Marks, marks-none, marks-more, marks-done}
use Rattle.net_read.proofs.listed_word.Goals as goal

pub loop-number-init : goal.loop-number-init
loop-number-init c = marks-none _

pub loop-number-preserved : goal.loop-number-preserved
loop-number-preserved c =
    subst (Marks _ _) (sym c.with_bit-word.ensures)
    (marks-more _ _ _ _ (λ v. ap (λ x. eqb x v) (omega (arith, c.wide.ensures.0))) c.loop-number.invariant)

pub returns : goal.returns
unfolding named
returns c = marks-done _ _ _ _ c.loop-number.auto.number-index-end c.loop-number-test.false c.loop-number.invariant
