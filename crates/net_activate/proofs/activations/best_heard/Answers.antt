-- `net_activate::activations::best_heard`: a neighbour more a turn.
use Rattle.std.proofs.Common.{◌≡◌, ◌∙◌, ap, min, arith, rules}
use Rattle.route_rules.specs.Instance.{Route}
use Rattle.route_rules.specs.Activation.{advertises}
use Rattle.net_rules.specs.Decoded.{decoded}
use Rattle.net_tables.specs.TableBytes.{route_at}
use Rattle.net_activate.specs.OnePass.{numbers_of, told_key}
use Rattle.net_activate.proofs.MayAdvertise.{hearing-start, hearing-below, hearing-kind, hearing-more, hearing-done}
use Rattle.net_activate.proofs.activations.best_heard.Goals as goal

pub loop-left-init : goal.loop-left-init
loop-left-init c = rw c.requires.3 (hearing-start _ _ _ c.requires.0 _ _)

pub route_at-held-requires : goal.route_at-held-requires
route_at-held-requires c =
    let a = c.args in
    let below = hearing-below a.net a.rows.now a.distances.now c.requires.0 a.w (route_at a.table.now) _ _ c.loop-left.invariant _ c.lowest_bit-v.ensures.0 in
    omega (arith, below, c.requires.2.long)

pub advertised-requires : goal.advertised-requires
advertised-requires c =
    let a = c.args in
    let p = c.requires in
    let low = c.lowest_bit-v.ensures.0 in
    let below = hearing-below a.net a.rows.now a.distances.now p.0 a.w (route_at a.table.now) _ _ c.loop-left.invariant _ low in (
      p.0.count,
      p.1,
      below,
      p.0.pairs,
      rw c.route_at-held.ensures (p.2.below _ below),
      hearing-kind a.net a.rows.now a.distances.now p.0 a.w (route_at a.table.now) _ _ c.loop-left.invariant _ low,
      p.3,
    )

pub loop-left-preserved : goal.loop-left-preserved
loop-left-preserved c =
    let a = c.args in
    let low = c.lowest_bit-v.ensures.0 in
    let v = c.lowest_bit-v.result in
    let told = λ (x : Route). told_key (numbers_of a.net a.distances.now a.w) v (advertises (decoded a.net a.rows.now a.distances.now) v x a.w) in
    let least : c.min-least.result ≡ min c.loop-left.least c.advertised.result = search rules in
    hearing-more a.net a.rows.now a.distances.now c.requires.0 a.w (route_at a.table.now) _ _ c.loop-left.invariant _ low _ _
    (c.without_lowest-left.ensures.1 _ low)
    (least ∙ ap (min c.loop-left.least) (c.advertised.ensures a.rows.now ∙ ap told c.route_at-held.ensures))

pub returns : goal.returns
returns c =
    let a = c.args in
    hearing-done a.net a.rows.now a.distances.now c.requires.0 a.w (route_at a.table.now) _ _ c.loop-left.invariant c.loop-left-test.false
