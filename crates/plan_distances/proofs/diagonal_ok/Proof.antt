use mathlib.Core.Path.{ap}
use lib.Dec.{eqb}
use borrow.Author.Rules.{rules}
use Rattle.plan_distances.proofs.diagonal_ok.Statement.{statement}
use Rattle.plan_distances.proofs.diagonal_ok.Tie as tie

pub diagonal_ok_spec : {M : Type 1} → statement M
diagonal_ok_spec = tie.close (tie.spec (λ c κs. search rules) (λ c. ap (λ d. eqb d 0) c.distance.ensures.0))
