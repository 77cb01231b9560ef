-- `graph_groups::closing::pass_through`: by the lemmas of a turn.
use Rattle.std.proofs.Common.{ap, arith}
use Rattle.std.proofs.lemmas.List.{get_or-take, length-take-le}
use Rattle.base.specs.Bits.{bit_n}
use Rattle.graph_groups.proofs.RowClosure.{none-beyond, passed_start, passed-more, passed-front}
use Rattle.graph_groups.proofs.closing.pass_through.Goals as goal

pub returns-then-beyond-eq0 : goal.returns-then-beyond-eq0
returns-then-beyond-eq0 c = none-beyond c.args.rows.now _ c.args.k c.if-beyond-eq0.true

pub loop-row-init : goal.loop-row-init
loop-row-init c = passed_start _ _ _

pub loop-row-preserved : goal.loop-row-preserved
loop-row-preserved c =
    passed-more _ _ _ _ c.loop-row.row-index _ c.loop-row.invariant
    (λ j. omega (arith, c.joined.ensures j, ap (λ y. bit_n y j) (get_or-take c.args.n c.args.rows.now c.args.k 0 c.requires.1)))
    (omega (arith, length-take-le c.args.n c.args.rows.now))

pub returns : goal.returns
returns c =
    passed-front _ _ c.args.rows.now _ _ c.loop-row.row-index c.requires.1 (omega arith) c.loop-row.auto.row-items
    (omega (arith, length-take-le c.args.n c.args.rows.now)) c.loop-row.invariant
