-- `call_refuse::numbers::sequence_ok`: those before are routers.
use Rattle.std.proofs.Common.{◌≡◌, true, get_or}
use lib.Dec.{ltb}
use Rattle.base.specs.Below.{all_below}
use Rattle.call_refuse.proofs.numbers.sequence_ok.Given as goal

abbrev pub invariant-loop-named : goal.invariant-loop-named
invariant-loop-named l = all_below (λ k. ltb (get_or l.sequence k 0) l.n) l.named-index ≡ true
