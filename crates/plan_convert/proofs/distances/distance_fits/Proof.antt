use borrow.Author.Tests.{eq-eqb, ne_eqb}
use Rattle.plan_rules.proofs.Widths.{not-two}
use Rattle.plan_convert.proofs.distances.distance_fits.Statement.{statement}
use Rattle.plan_convert.proofs.distances.distance_fits.Tie as tie

pub distance_fits_spec : {M : Type 1} → statement M
distance_fits_spec =
    tie.close
    (tie.spec
    (λ c. rw (eq-eqb _ 4294967295 c.if-distance-eq-NO_WAY.true))
    (λ c. rw (ne_eqb _ 4294967295 c.if-distance-eq-NO_WAY.false, c.if-to-eq2.true))
    (λ c. rw (ne_eqb _ 4294967295 c.if-distance-eq-NO_WAY.false, not-two _ c.requires c.if-to-eq2.false)))
