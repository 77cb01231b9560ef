use mathlib.Core.Path.{◌∙◌, ap}
use mathlib.Core.Bool.{◌&&◌, ◌||◌}
use borrow.Author.Rules.{rules}
use borrow.Author.Tests.{eqb-true}
use lib.Dec.{eqb}
use Rattle.base.specs.Bits.{bit_n, bits}
use Rattle.route_rules.specs.Instance.{Instance, is_router}
use Rattle.route_rules.proofs.Reliance.{best_client-below}
use Rattle.net_rules.specs.Decoded.{decoded}
use Rattle.net_reliance.proofs.RelianceRows.{Noting, asked-start, noting-below, noting-more, noting-done}
use Rattle.net_reliance.proofs.reflector_row.Statement.{statement}
use Rattle.net_reliance.proofs.reflector_row.Tie as tie

abbrev invariant-loop-left : tie.invariant-loop-left
invariant-loop-left net rows distances best w own row₀ left₀ row left = Noting (decoded net rows distances) w left₀ row left

abbrev decreases-loop-left : tie.decreases-loop-left
decreases-loop-left net rows distances best w own row₀ left₀ row left = left

abbrev instance : tie.Start invariant-loop-left decreases-loop-left → Instance
instance c = decoded c.args.net c.args.rows.now c.args.distances.now

candidates-requires : tie.Need-candidates-left-requires invariant-loop-left decreases-loop-left
candidates-requires c κs =
    let d = c.before.before in
    let p = d.requires in
    (p.0.count, p.1, rw p.3.client (best_client-below (instance d.before) d.args.w))

loop-holds : tie.Need-loop-left-init invariant-loop-left decreases-loop-left
loop-holds c =
    let d = c.before.before.before in
    let a = d.args in
    let p = d.requires in
    asked-start (instance d.before) a.w p.3.unlisted p.3.reflector (λ v h. p.0.neighbours a.w v (eqb-true _ 1 h)) _
    (λ v.
    c.candidates-left.ensures v
    ∙ ap (λ o. (eqb (bits a.rows.now a.w v) 1 && eqb (bit_n a.net.reflectors v) 1) || is_router v o) p.3.client)

reflector-relies-requires : tie.Need-reflector_relies-requires invariant-loop-left decreases-loop-left
reflector-relies-requires c κs =
    let v = c in
    let p = v.requires in
    let below = noting-below _ _ _ _ _ v.loop-left.invariant _ v.lowest_bit-v.ensures.0 in
    (p.0, p.1, below, p.3, p.2 _ below)

loop-again : tie.Need-loop-left-preserved invariant-loop-left decreases-loop-left
loop-again c =
    let t = c in
    let v = t in
    let low = v.lowest_bit-v.ensures.0 in
    rw t.with_bit_if-row.ensures
    (noting-more _ _ _ _ _ v.loop-left.invariant _ low _ (c.without_lowest-left.ensures.1 _ low) _ t.reflector_relies.ensures)

pub reflector_row_spec : {M : Type 1} → statement M
reflector_row_spec =
    tie.close
    (tie.spec
    invariant-loop-left
    decreases-loop-left
    (λ c. search rules)
    candidates-requires
    loop-holds
    (λ c κs. search rules)
    (λ c. search rules)
    reflector-relies-requires
    (λ c κs. search rules)
    (λ c κs. search rules)
    (λ c. c.without_lowest-left.ensures.0)
    loop-again
    (λ c. noting-done _ _ _ _ _ c.loop-left.invariant c.loop-left-test.false))
