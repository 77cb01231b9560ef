-- What the machine says of the bits.
use Rattle.graph_groups.specs.Closure.{Irreflexive}
use Rattle.steady_rules.specs.Equations.{Equations, Along}
use Rattle.grade_rules.specs.Moving.{machine, Antitone, BitsMove}
use Rattle.grade_rules.proofs.Leading.{bits-can-rest, unsolved-stuck}
use Rattle.grade_rules.proofs.Looping.{back-loops}
use Rattle.grade_rules.proofs.Machines.{machine-means}
use Rattle.grade_rules.proofs.NeverResting.{bits-stuck}
use Rattle.grade_rules.proofs.Rests.{bits-rest}
use Rattle.grade_rules.proofs.Returning.{bits-loop}
use Rattle.grade_rules.proofs.Steps.{machine-closed}

pub bits-move : (E : Equations) → Along E → Antitone E → Irreflexive E.relation E.n → BitsMove E
bits-move E along antitone apart =
    record {
      rests = bits-rest E along antitone apart;
      can_rest = bits-can-rest E along apart;
      is_stuck = bits-stuck E along apart antitone;
      come_back = (bits-loop E along apart antitone, back-loops E along antitone apart);
      stuck_loops = (machine-means (machine E) (machine-closed E)).stuck_loops;
      unsolved = unsolved-stuck E along apart;
    }
