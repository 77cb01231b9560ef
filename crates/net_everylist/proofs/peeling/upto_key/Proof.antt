-- `net_everylist::peeling::upto_key`: those found so far.
use Prim.Native.Nat.{◌≤◌, ◌<◌}
use native.Mathlib.Omega.{arith}
use mathlib.Core.Path.{◌∙◌, ap}
use borrow.Author.Rules.{rules}
use lib.Dec.{leb}
use Rattle.net_everylist.specs.Peeling.{key_at}
use Rattle.net_everylist.proofs.Words.{Picking, picking-start, picking-below, picking-more, picking-done}
use Rattle.net_everylist.proofs.peeling.upto_key.Statement.{statement}
use Rattle.net_everylist.proofs.peeling.upto_key.Tie as tie

abbrev invariant-loop-left : tie.invariant-loop-left
invariant-loop-left distances width n w word bound found₀ left₀ found left = Picking (key_at width distances n w) word bound n found left

abbrev decreases-loop-left : tie.decreases-loop-left
decreases-loop-left distances width n w word bound found₀ left₀ found left = left

below : (c : tie.After-lowest_bit-e invariant-loop-left decreases-loop-left) → c.lowest_bit-e.result < c.args.n
below c =
    let d = c in
    let a = d.args in
    picking-below (key_at a.width a.distances.now a.n a.w) a.word a.bound a.n d.requires.3 _ _ c.loop-left.invariant _ c.lowest_bit-e.ensures.0

loop-again : tie.Need-loop-left-preserved invariant-loop-left decreases-loop-left
loop-again c =
    let b = c in
    let k = c in
    let v = c in
    let d = c in
    let low = v.lowest_bit-e.ensures.0 in
    let a = d.args in
    rw b.with_bit_if-found.ensures
    (picking-more (key_at a.width a.distances.now a.n a.w) a.word a.bound a.n d.requires.3 _ _ v.loop-left.invariant _ low _ (c.without_lowest-left.ensures.1 _ low) _
    (ap (λ x. leb x a.bound) k.client_key.ensures))

pub upto_key_spec : {M : Type 1} → statement M
upto_key_spec =
    tie.close
    (tie.spec
    invariant-loop-left
    decreases-loop-left
    (λ c. let a = c.args in picking-start (key_at a.width a.distances.now a.n a.w) a.word a.bound a.n)
    (λ c κs. search rules)
    (λ c κs. let p = c.requires in (p.0, below c, p.1, p.2))
    (λ c κs. omega (arith, below c.before, c.requires.1))
    (λ c κs. search rules)
    (λ c. c.without_lowest-left.ensures.0)
    loop-again
    (λ c.
    let d = c in
    let a = d.args in
    picking-done (key_at a.width a.distances.now a.n a.w) a.word a.bound a.n d.requires.3 _ _ c.loop-left.invariant c.loop-left-test.false))
