-- `net_run::apply`: the run's laws are in proofs/Running.antt: `Ran` holds after each act.
use Rattle.net_rules.specs.Decoded.{decoded}
use Rattle.net_run.specs.Tallied.{tallied}
use Rattle.net_run.proofs.Running.{Ran}
use Rattle.net_run.proofs.apply.Given as goal

abbrev pub invariant-loop-act : goal.invariant-loop-act
invariant-loop-act l = Ran (decoded l.net l.rows l.distances) l.sequence l.fn.table l.act-index l.table (tallied l.tally)
