-- `call_refuse::numbers::sequence_ok`: one that is no router decides.
use Rattle.std.proofs.Common.{sym, arith}
use borrow.Author.Tests.{lt-ltb, le-ltb}
use Rattle.base.proofs.Below.{all_none, all_more, all-fail, all_done}
use Rattle.call_rules.specs.Refusals.{sequence_ok}
use Rattle.call_refuse.proofs.numbers.sequence_ok.Goals as goal

pub loop-named-init : goal.loop-named-init
loop-named-init c = all_none _

pub returns-then-n-named : goal.returns-then-n-named
unfolding sequence_ok
returns-then-n-named c = sym (all-fail _ _ _ (omega arith) (le-ltb _ _ c.if-n-named.true))

pub loop-named-preserved : goal.loop-named-preserved
loop-named-preserved c = all_more _ _ c.loop-named.invariant (lt-ltb _ _ c.if-n-named.false)

pub returns : goal.returns
unfolding sequence_ok
returns c = sym (all_done _ _ _ c.loop-named.auto.named-index-end c.loop-named-test.false c.loop-named.invariant)
