-- The walk's laws are in proofs/ListWalk.antt of crate plan_rules.
use Rattle.std.proofs.Common.{arith, add_assoc, sym}
use Rattle.base.proofs.Numbers.{granted, denied}
use Rattle.plan_rules.proofs.Facts.{list-facts}
use Rattle.plan_rules.proofs.ListWalk.{walked_start, walked_more, each-fail, each-done}
use Rattle.plan_lists.proofs.each_list_ok.Goals as goal

pub loop-k-init : goal.loop-k-init
loop-k-init c = walked_start _ _ c.requires

pub returns-then-not-list_at_ok : goal.returns-then-not-list_at_ok
returns-then-not-list_at_ok c =
    sym (each-fail _ _ _ _ _ c.loop-k-test.true c.loop-k.invariant (denied _ c.list_at_ok.ensures c.if-not-list_at_ok.true))

-- the list just read lies within the body
pub bounds-s-place : goal.bounds-s-place
bounds-s-place c = (list-facts _ _ _ (granted _ c.list_at_ok.ensures c.if-not-list_at_ok.false)).starts

pub overflow_add-place-in-loop-k : goal.overflow_add-place-in-loop-k
overflow_add-place-in-loop-k c =
    omega (arith, (list-facts _ _ _ (granted _ c.list_at_ok.ensures c.if-not-list_at_ok.false)).within)

pub loop-k-preserved : goal.loop-k-preserved
loop-k-preserved c =
    rw (c.wide.ensures.0, ← add_assoc)
    (walked_more _ _ _ _ c.loop-k.invariant (granted _ c.list_at_ok.ensures c.if-not-list_at_ok.false))

pub returns : goal.returns
returns c = sym (each-done _ _ _ _ _ c.loop-k.auto._k-end c.loop-k-test.false c.loop-k.invariant)
