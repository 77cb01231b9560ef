-- `net_everylist::peeling::peel`: the rows hold all that is left in the end; each pass but the last leaves fewer pairs.
use native.Mathlib.Omega.{arith}
use borrow.Author.Rules.{rules}
use Rattle.everylist_rules.proofs.Pairs.{pairs_in}
use Rattle.net_rules.specs.Decoded.{decoded}
use Rattle.net_everylist.specs.Peeling.{pair_in}
use Rattle.net_everylist.proofs.Passes.{Peeled, peeled-start, peeled-more, peeled-done}
use Rattle.net_everylist.proofs.peeling.peel.Statement.{statement}
use Rattle.net_everylist.proofs.peeling.peel.Tie as tie

abbrev invariant-loop-net : tie.invariant-loop-net
invariant-loop-net net rows distances left₀ left = Peeled (decoded net rows distances) left

abbrev decreases-loop-net : tie.decreases-loop-net
decreases-loop-net net rows distances left₀ left = pairs_in (pair_in left) 64 64

pub peel_spec : {M : Type 1} → statement M
peel_spec =
    tie.close
    (tie.spec
    invariant-loop-net
    decreases-loop-net
    (λ c. peeled-start _ _ c.requires.1)
    (λ c κs. (c.requires.0, c.loop-net.invariant.within))
    (λ c.
    let p = c.before in
    let o = p.pass-taken.ensures in
    peeled-done _ _ (peeled-more _ _ _ _ p.loop-net.invariant o) (o.still c.if-taken-eq0.true))
    (λ c. c.pass-taken.ensures.fewer (omega (arith, c.if-taken-eq0.false)))
    (λ c. let p = c.before in peeled-more _ _ _ _ p.loop-net.invariant p.pass-taken.ensures))
