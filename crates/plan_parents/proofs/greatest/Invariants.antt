-- `plan_parents::greatest`: `most` is the highest of the counts gone through.
use Rattle.std.proofs.Common.{◌≡◌, get_or}
use Rattle.base.specs.Seek.{highest}
use Rattle.plan_parents.proofs.greatest.Given as goal

abbrev pub invariant-loop-count : goal.invariant-loop-count
invariant-loop-count l = l.most ≡ highest (λ u. get_or l.counts u 0) l.count-index
