-- `call_figures::figures::count_lists`: each list is counted over the network that the plan was opened with.
use Rattle.std.proofs.Common.{◌<◌, refl, arith}
use Rattle.plan_rules.specs.EgressLists.{list_count}
use Rattle.plan_rules.proofs.Passed.{passed}
use Rattle.net_rules.proofs.Opened.{opened-over}
use Rattle.call_figures.proofs.AllLists.{reached-start, reached-room, reached-more, reached-done}
use Rattle.call_figures.proofs.figures.count_lists.Goals as goal

pub open_plan-first-requires : goal.open_plan-first-requires
open_plan-first-requires c =
    let p = c.requires.0 in
    (p, omega (arith, (passed _ p.ok).lists.some), refl)

pub loop-list-init : goal.loop-list-init
loop-list-init c = reached-start _ _ _ c.requires.1 c.requires.2

pub with_list-net-requires : goal.with_list-net-requires
with_list-net-requires c = (c.requires.0, omega (arith, c.loop-list-test.true, c.requires.0.lists))

pub count_list-known-requires : goal.count_list-known-requires
count_list-known-requires c =
    let p = c.requires in
    let below : c.loop-list.list < list_count c.args.plan.now = omega (arith, c.loop-list-test.true, p.0.lists) in
    let opened = c.with_list-net.ensures 0 _ _ (opened-over c.open_plan-first.ensures c.part-distances.ensures.bytes) in
    (opened.formed, rw opened.count (reached-room _ _ _ p.1 p.2 _ _ _ _ c.loop-list.invariant (passed _ p.0.ok) below))

pub loop-list-preserved : goal.loop-list-preserved
loop-list-preserved c =
    let p = c.requires in
    let opened = c.with_list-net.ensures 0 _ _ (opened-over c.open_plan-first.ensures c.part-distances.ensures.bytes) in
    reached-more _ _ _ p.1 p.2 _ _ _ _ c.loop-list.invariant _ _ _ c.count_list-known.auto.ranks c.count_list-known.auto.routers
    (rw opened.same at c.count_list-known.ensures)

pub returns : goal.returns
returns c =
    let p = c.requires in
    reached-done _ _ _ p.1 p.2 _ _ _ _ c.loop-list.invariant (omega (arith, p.0.lists)) (omega (arith, c.loop-list-test.false, p.0.lists))
