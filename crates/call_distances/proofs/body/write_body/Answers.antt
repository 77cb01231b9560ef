use Rattle.std.proofs.Common.{ℕ, ◌*◌, zero-add, mul_assoc, arith}
use Rattle.plan_rules.specs.Distances.{body_of}
use Rattle.plan_rules.proofs.KindThree.{length-row}
use Rattle.base.proofs.Joined.{join-start, join_more, join-done}
use Rattle.call_distances.proofs.body.write_body.Goals as goal

pub loop-row-init : goal.loop-row-init
loop-row-init c =
    let n : ℕ = c.args.n in
    join-start _ _ (λ u. length-row 2 _ n) n _ 0 (omega (arith, mul_assoc 2 n n))

pub loop-row-preserved : goal.loop-row-preserved
loop-row-preserved c =
    join_more _ _ (λ u. length-row 2 _ _) _ _ 0 _ _ c.loop-row.invariant _ (omega (arith, c.loop-row-test.true)) (rw zero-add c.write_row.ensures)

pub returns : goal.returns
unfolding body_of
returns c =
    let n : ℕ = c.args.n in
    rw (zero-add (2 * n * n), mul_assoc 2 n n) at
    (join-done _ _ (λ u. length-row 2 _ _) _ _ 0 _ _ c.loop-row.invariant (omega (arith, c.loop-row-test.false)))
