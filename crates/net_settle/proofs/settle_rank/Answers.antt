-- `net_settle::settle_rank`: a router of rank r acts, and any other is passed over.
use Rattle.std.proofs.Common.{◌∙◌, sym, arith}
use Rattle.net_settle.proofs.ByRank.{below-legal, turn-start, turn-skip, turn-act, turn-done}
use Rattle.net_settle.proofs.settle_rank.Goals.{then-wide-r+then-takes_step, then-wide-r+else-takes_step, else-wide-r}
use Rattle.net_settle.proofs.settle_rank.Goals as goal

pub loop-w-init : goal.loop-w-init
loop-w-init c = turn-start _ _ c.requires.0.falls _ _ c.requires.1

pub takes_step-requires : goal.takes_step-requires
takes_step-requires c = omega (arith, c.loop-w-test.true, c.requires.0.formed.count)

pub activate-requires : goal.activate-requires
activate-requires c = (
  c.requires.0.formed,
  c.loop-w-test.true,
  record { long = omega (arith, c.requires.0.long, c.loop-w.auto.table); rule = below-legal _ _ c.requires.0.falls _ _ _ c.loop-w.invariant.on },
)

pub activate_in_one_pass-requires : goal.activate_in_one_pass-requires
activate_in_one_pass-requires c = (
  c.requires.0.formed,
  c.loop-w-test.true,
  record { long = omega (arith, c.requires.0.long, c.loop-w.auto.table); rule = below-legal _ _ c.requires.0.falls _ _ _ c.loop-w.invariant.on },
  cc (c.takes_step.ensures c.args.rows.now c.args.distances.now),
)

pub loop-w-preserved : goal.loop-w-preserved
loop-w-preserved c =
    elim c.if-wide-r.branch [
      | then-wide-r+then-takes_step w ↦
          rw (w.table-is ∙ w.activate.ensures)
          (turn-act _ _ c.requires.0.falls c.args.r _ c.loop-w.w c.loop-w.table c.requires.0.formed.count c.loop-w-test.true
          (omega (arith, c.requires.0.long, c.loop-w.auto.table)) (sym c.wide.ensures.0 ∙ w.if-wide-r.true) c.loop-w.invariant)
      | then-wide-r+else-takes_step w ↦
          rw (w.table-is ∙ w.activate_in_one_pass.ensures)
          (turn-act _ _ c.requires.0.falls c.args.r _ c.loop-w.w c.loop-w.table c.requires.0.formed.count c.loop-w-test.true
          (omega (arith, c.requires.0.long, c.loop-w.auto.table)) (sym c.wide.ensures.0 ∙ w.if-wide-r.true) c.loop-w.invariant)
      | else-wide-r w ↦
          rw w.table-is
          (turn-skip _ _ c.requires.0.falls _ _ c.loop-w.w c.loop-w.table (λ e. w.if-wide-r.false (c.wide.ensures.0 ∙ e)) c.loop-w.invariant)
    ]

pub returns : goal.returns
returns c = turn-done _ _ c.requires.0.falls _ _ c.loop-w.w c.loop-w.table c.loop-w-test.false c.loop-w.invariant
