-- `net_everylist::peeling::joined`: the clients of those seen so far.
use Prim.Native.Nat.{◌<◌}
use native.Mathlib.Omega.{arith}
use borrow.Author.Rules.{rules}
use Rattle.net_everylist.proofs.Words.{Joining, joining-start, joining-below, joining-more, joining-done}
use Rattle.net_everylist.proofs.peeling.joined.Statement.{statement}
use Rattle.net_everylist.proofs.peeling.joined.Tie as tie

abbrev invariant-loop-unseen : tie.invariant-loop-unseen
invariant-loop-unseen left n reflectors found₀ unseen₀ found unseen = Joining left reflectors n found unseen

abbrev decreases-loop-unseen : tie.decreases-loop-unseen
decreases-loop-unseen left n reflectors found₀ unseen₀ found unseen = unseen

loop-again : tie.Need-loop-unseen-preserved invariant-loop-unseen decreases-loop-unseen
loop-again c =
    let v = c in
    let d = c in
    let low = v.lowest_bit-v.ensures.0 in
    joining-more d.args.left.now d.args.reflectors d.args.n d.requires.1 _ _ v.loop-unseen.invariant _ low _ (c.without_lowest-unseen.ensures.1 _ low)

pub joined_spec : {M : Type 1} → statement M
joined_spec =
    tie.close
    (tie.spec
    invariant-loop-unseen
    decreases-loop-unseen
    (λ c. joining-start c.args.left.now c.args.reflectors c.args.n)
    (λ c κs. search rules)
    (λ c. search rules)
    (λ c. search rules)
    (λ c κs. search rules)
    (λ c. c.without_lowest-unseen.ensures.0)
    loop-again
    (λ c.
    let d = c in
    joining-done d.args.left.now d.args.reflectors d.args.n d.requires.1 _ _ c.loop-unseen.invariant c.loop-unseen-test.false))
