-- `links_fit::near_to`: the routers below u are marked.
use Rattle.std.proofs.Common.{◌≡◌}
use Rattle.links_fit.specs.Near.{near_to}
use Rattle.links_fit.proofs.near_to.Given as goal

abbrev pub invariant-loop-u : goal.invariant-loop-u
invariant-loop-u l = l.found ≡ near_to l.words l.u l.e
