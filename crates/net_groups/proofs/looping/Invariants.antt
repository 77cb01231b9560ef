-- `net_groups::looping`: the routers below w that reach themselves are marked.
use Rattle.std.proofs.Common.{◌≡◌, eqb}
use Rattle.base.specs.Bits.{bits, marked}
use Rattle.net_groups.proofs.looping.Given as goal

abbrev pub invariant-loop-w : goal.invariant-loop-w
invariant-loop-w l = l.found ≡ marked (λ w. eqb (bits l.closed w w) 1) l.w
