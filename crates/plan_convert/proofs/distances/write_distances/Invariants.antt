-- `plan_convert::distances::write_distances`: the first i distances are written.
use Rattle.base.specs.Bytes.{bytes_of}
use Rattle.base.proofs.Buffer.{Pieces}
use Rattle.plan_rules.specs.Distances.{placed}
use Rattle.plan_convert.proofs.distances.write_distances.Given as goal

abbrev pub invariant-loop-i : goal.invariant-loop-i
invariant-loop-i l = Pieces (λ j. bytes_of l.to (placed l.width l.s j)) l.to l.count l.fn.out l.at l.out l.i
