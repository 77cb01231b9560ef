-- `plan_convert::copy_bytes`: one byte more, and at the end all of them.
use Rattle.std.proofs.Common.{◌≡◌, ◌+◌, ◌∙◌, ap, length, get_or, arith}
use native.Mathlib.Numerals.{add-one}
use lib.ListN.{set}
use lib.Seq.{paste-zero, paste-suc, take-length}
use Rattle.base.specs.Buffer.{written}
use Rattle.plan_convert.proofs.copy_bytes.Goals as goal

pub loop-i-init : goal.loop-i-init
loop-i-init c = paste-zero c.args.out.now c.args.at c.args.bytes.now

pub loop-i-preserved : goal.loop-i-preserved
loop-i-preserved c =
    let a = c.args in
    let i = c.loop-i.i in
    ap (λ l. set l (a.at + i) (get_or a.bytes.now i 0)) c.loop-i.invariant
    ∙ paste-suc a.out.now a.at a.bytes.now i 0 (omega (arith, c.requires)) c.loop-i-test.true
    ∙ rw add-one

pub returns : goal.returns
unfolding written
returns c =
    let e : c.loop-i.i ≡ length c.args.bytes.now = omega arith in
    c.loop-i.invariant ∙ rw (e, take-length c.args.bytes.now)
