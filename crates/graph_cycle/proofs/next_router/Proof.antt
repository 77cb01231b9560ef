-- `graph_cycle::next_router`: w is related to none of the routers visited in its group.
use Prim.Native.Nat.{ℕ, ◌<◌}
use native.Mathlib.Omega.{arith}
use mathlib.Core.Path.{◌≡◌, ◌∙◌}
use borrow.Author.Rules.{rules}
use lib.ListN.{get_or}
use Rattle.base.specs.Bits.{bits}
use Rattle.base.proofs.BitSeek.{Seeking, seeking-start, seeking-set, seeking-below, seeking-hit, seeking-more, seeking-miss}
use Rattle.graph_cycle.specs.Cycle.{next}
use Rattle.graph_cycle.proofs.InGroup.{next_test, next-off, next-on}
use Rattle.graph_cycle.proofs.next_router.Statement.{statement}
use Rattle.graph_cycle.proofs.next_router.Tie as tie

abbrev invariant-loop-left : tie.invariant-loop-left
invariant-loop-left rows closed n w left₀ left = Seeking (next_test rows closed w) (get_or rows w 0) n left

abbrev decreases-loop-left : tie.decreases-loop-left
decreases-loop-left rows closed n w left₀ left = left

abbrev Start : Type 0
Start = tie.Start invariant-loop-left decreases-loop-left

abbrev test : Start → ℕ → ℕ
test d = next_test d.args.rows.now d.args.closed.now d.args.w

off : (d : Start) (u : ℕ) → bits d.args.rows.now d.args.w u ≡ 0 → test d u ≡ 0
off d u = next-off d.args.rows.now d.args.closed.now d.args.w u

within : (d : Start) (u : ℕ) → bits d.args.rows.now d.args.w u ≡ 1 → u < d.args.n
within d u e = d.requires.2 _ u d.requires.1 (omega arith)

-- after a router is found
abbrev Visit : Type 0
Visit = tie.After-lowest_bit-v invariant-loop-left decreases-loop-left

abbrev start : Visit → Start
start c = c.before.before.before.before.before

share-requires : tie.Need-share-requires invariant-loop-left decreases-loop-left
share-requires c κs =
    let d = start c in
    omega (arith, seeking-below (test d) _ _ (off d) _ c.loop-left.invariant (within d) _ c.lowest_bit-v.ensures.0, d.requires.0, d.requires.1)

-- what is asked of it is the test
asked : (c : tie.After-share invariant-loop-left decreases-loop-left) → c.share.result ≡ test (start c.before) c.lowest_bit-v.result
asked c =
    let v = c.before in
    let d = start v in
    c.share.ensures
    ∙ next-on d.args.rows.now d.args.closed.now d.args.w _
    (seeking-set (test d) _ _ (off d) _ v.loop-left.invariant (within d) _ v.lowest_bit-v.ensures.0)

returns : tie.Need-returns-then-share-gt0 invariant-loop-left decreases-loop-left
unfolding next
returns c =
    let v = c.before.before in
    let d = start v in
    seeking-hit (test d) _ _ (off d) _ v.loop-left.invariant (within d) _ v.lowest_bit-v.ensures.0 (omega (arith, asked c.before))

loop-again : tie.Need-loop-left-preserved invariant-loop-left decreases-loop-left
loop-again c =
    let s = c.before.before in
    let v = s.before in
    let d = start v in
    let low = v.lowest_bit-v.ensures.0 in
    seeking-more (test d) _ _ (off d) _ v.loop-left.invariant (within d) _ low _ (c.without_lowest-left.ensures.1 _ low) (omega (arith, asked s))

returns-2 : tie.Need-returns invariant-loop-left decreases-loop-left
unfolding next
returns-2 c = let d = c.before.before.before in seeking-miss (test d.before) _ _ (off d.before) _ c.loop-left.invariant c.loop-left-test.false

pub next_router_spec : {M : Type 1} → statement M
next_router_spec =
    tie.close
    (tie.spec
    invariant-loop-left
    decreases-loop-left
    (λ c. search rules)
    (λ c. search rules)
    (λ c. seeking-start _ _ _)
    (λ c κs. search rules)
    share-requires
    returns
    (λ c κs. search rules)
    (λ c. c.without_lowest-left.ensures.0)
    loop-again
    returns-2)
