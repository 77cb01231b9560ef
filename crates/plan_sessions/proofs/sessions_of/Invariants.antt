-- `plan_sessions::sessions_of`: the sessions before j are v's or of a router before it.
use Rattle.std.proofs.Common.{◌+◌}
use Rattle.plan_parents.specs.Counts.{Counted}
use Rattle.plan_sessions.proofs.Walking.{Among}
use Rattle.plan_sessions.proofs.sessions_of.Given as goal

abbrev pub invariant-loop-j : goal.invariant-loop-j
invariant-loop-j l = Among l.s l.n l.v l.last l.j × Counted l.routers l.s l.n (l.v + 1) l.j l.counts
