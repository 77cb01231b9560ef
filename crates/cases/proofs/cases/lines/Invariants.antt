use Rattle.std.proofs.Common.{◌≡◌, ◌-◌, length}
use Rattle.cases.proofs.cases.lines.Given as goal

abbrev pub invariant-loop-at : goal.invariant-loop-at
invariant-loop-at g l = (length l.plan ≡ length l.initial.plan) × (length l.table ≡ length l.initial.table)

abbrev pub decreases-loop-at : goal.decreases-loop-at
decreases-loop-at g l = length l.input - l.at
