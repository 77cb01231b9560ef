-- `net_everylist::walking::steps`: one step more, or a reflector without clients left.
use Rattle.std.proofs.Common.{arith}
use Rattle.net_everylist.proofs.Stepping.{row-none, stepped_start, stepped-none, stepped-more, stepped-done}
use Rattle.net_everylist.proofs.walking.steps.Goals as goal
use Rattle.net_everylist.proofs.walking.steps.Goals.{then-left-w-ne0, else-left-w-ne0}

pub loop-w-init : goal.loop-w-init
loop-w-init c = let p = c.requires in rw (p.2, p.3) (stepped_start _)

pub next_step-on-requires : goal.next_step-on-requires
next_step-on-requires c = (c.requires.0, c.loop-w-test.true, c.requires.1, omega (arith, c.if-left-w-ne0.true))

pub loop-w-preserved : goal.loop-w-preserved
loop-w-preserved c =
    let p = c.requires in
    let few = p.0.count in
    elim c.if-left-w-ne0.branch [
      | then-left-w-ne0 w ↦
          rw (w.clients-is, w.nexts-is) (stepped-more _ few _ _ _ c.loop-w-test.true c.loop-w.invariant _ _ w.next_step-on.ensures)
      | else-left-w-ne0 w ↦
          rw (w.clients-is, w.nexts-is)
          (stepped-none _ few _ _ _ c.loop-w-test.true c.loop-w.invariant (row-none _ _ p.1 _ w.if-left-w-ne0.false))
    ]

pub returns : goal.returns
returns c = stepped-done _ _ _ _ c.loop-w-test.false c.loop-w.invariant
