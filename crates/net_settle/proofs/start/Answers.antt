-- `net_settle::start`: an entry more a turn.
use Rattle.std.proofs.Common.{◌≤◌, ◌*◌, length, arith}
use Rattle.net_rules.specs.Decoded.{decoded}
use Rattle.net_settle.proofs.ByRank.{started_none, started-more, started-done}
use Rattle.net_settle.proofs.start.Goals as goal

pub loop-v-init : goal.loop-v-init
loop-v-init c rows distances = started_none (decoded c.args.net rows distances) c.requires.0 _

pub loop-v-preserved : goal.loop-v-preserved
loop-v-preserved c rows distances =
    let long : 2 * c.args.net.n ≤ length c.loop-v.table = omega arith in
    rw c.put_route.ensures
    (started-more (decoded c.args.net rows distances) c.requires.0 _ c.loop-v.v c.loop-v.table _ c.loop-v-test.true long
    (c.first_route.ensures rows distances) (c.loop-v.invariant rows distances))

pub returns : goal.returns
returns c rows distances =
    started-done (decoded c.args.net rows distances) c.requires.0 _ c.loop-v.v _ c.loop-v.auto.v-end c.loop-v-test.false
    (c.loop-v.invariant rows distances)
