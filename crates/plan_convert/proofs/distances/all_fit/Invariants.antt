-- `plan_convert::distances::all_fit`: as many fit as were asked exactly if all of them do.
use Rattle.std.proofs.Common.{◌≡◌, ◌≤◌, eqb}
use Rattle.base.specs.Below.{all_below}
use Rattle.plan_rules.specs.Converted.{distance_fits}
use Rattle.plan_rules.specs.Distances.{placed}
use Rattle.plan_convert.proofs.distances.all_fit.Given as goal

abbrev pub invariant-loop-i : goal.invariant-loop-i
invariant-loop-i l =
    (l.fitting ≤ l.i) × (eqb l.fitting l.i ≡ all_below (λ j. distance_fits l.to (placed l.width l.s j)) l.i)
