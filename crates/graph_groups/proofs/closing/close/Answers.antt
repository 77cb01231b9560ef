-- `graph_groups::closing::close`: a stage more a turn, which adds nothing at a router that none is related to.
use Rattle.std.proofs.Common.{arith}
use Rattle.base.specs.Bits.{bits}
use Rattle.graph_groups.proofs.RowClosure.{span-through, closing-start, closing-more, closing-skip, closing-done}
use Rattle.graph_groups.proofs.closing.close.Goals.{then-bit-ne0, else-bit-ne0}
use Rattle.graph_groups.proofs.closing.close.Goals as goal

pub loop-k-init : goal.loop-k-init
loop-k-init c = (closing-start _ _, c.related_to-inner.ensures)

pub loop-k-preserved : goal.loop-k-preserved
loop-k-preserved c =
    elim c.if-bit-ne0.branch [
      | then-bit-ne0 w ↦
          rw (w.rows-is) (
            closing-more _ _ _ _ c.loop-k.k c.loop-k-test.true c.loop-k.invariant.0 w.pass_through.ensures,
            span-through c.loop-k.rows _ _ _ c.loop-k.k c.loop-k-test.true c.loop-k.invariant.1 w.pass_through.ensures,
          )
      | else-bit-ne0 w ↦
          rw (w.rows-is) (
            closing-skip _ _ (bits c.loop-k.rows) c.loop-k.k c.loop-k-test.true
                (λ i l. omega (arith, c.loop-k.invariant.1 i c.loop-k.k l c.loop-k-test.true, c.bit.ensures, w.if-bit-ne0.false)) c.loop-k.invariant.0,
            c.loop-k.invariant.1,
          )
    ]

pub returns : goal.returns
returns c = closing-done _ _ _ c.loop-k.k c.loop-k.auto.k-end c.loop-k-test.false c.loop-k.invariant.0
