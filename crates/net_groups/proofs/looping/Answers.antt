-- `net_groups::looping`: a router more a turn.
use Rattle.std.proofs.Common.{◌≡◌, ◌∙◌, sym, ap, arith}
use Rattle.base.specs.Bits.{marked}
use Rattle.base.proofs.Marked.{marked-none, marked_more}
use Rattle.net_groups.proofs.looping.Goals as goal

pub loop-w-init : goal.loop-w-init
loop-w-init c = sym (marked-none _)

pub loop-w-preserved : goal.loop-w-preserved
loop-w-preserved c = c.with_bit_if-found.ensures ∙ marked_more _ c.loop-w.w _ _ c.has_bit.ensures c.loop-w.invariant

pub returns : goal.returns
returns c = let e : c.loop-w.w ≡ c.args.n = omega arith in c.loop-w.invariant ∙ ap (marked _) e
