use mathlib.Core.Path.{refl}
use borrow.Author.Rules.{rules}
use borrow.Author.Tests.{eqb-true}
use Rattle.route_rules.specs.Instance.{Instance}
use Rattle.net_rules.specs.Decoded.{decoded}
use Rattle.net_rules.specs.RouterBytes.{as_router}
use Rattle.net_rules.proofs.RouterBytes.{router-none}
use Rattle.net_offers.proofs.Clients.{Seeking, seeking-start, seeking-below, seeking-router, seeking-more, seeking-done}
use Rattle.net_offers.proofs.best_client.Statement.{statement}
use Rattle.net_offers.proofs.best_client.Tie as tie

abbrev invariant-loop-left : tie.invariant-loop-left
invariant-loop-left net rows distances v best₀ left₀ best left = Seeking (decoded net rows distances) v left₀ (as_router best) left

abbrev decreases-loop-left : tie.decreases-loop-left
decreases-loop-left net rows distances v best₀ left₀ best left = left

abbrev instance : tie.Start invariant-loop-left decreases-loop-left → Instance
instance c = decoded c.args.net c.args.rows.now c.args.distances.now

loop-holds : tie.Need-loop-left-init invariant-loop-left decreases-loop-left
loop-holds c =
    let d = c.before.before in
    let clients = c.listed_clients-left.ensures d.args.distances.now in
    seeking-start (instance d) d.args.v _ _ (router-none 255 refl) clients.marks
    (λ e set. d.requires.0.neighbours d.args.v e (eqb-true _ 1 (clients.near e set)))

keep-client-requires : tie.Need-keep_client-best-requires invariant-loop-left decreases-loop-left
keep-client-requires c κs =
    let d = c in
    let inv = c.loop-left.invariant in
    let low = c.lowest_bit-e.ensures.0 in
    (d.requires.1, seeking-below _ _ _ _ _ inv _ low, d.requires.0.count, d.requires.0.pairs, seeking-router _ _ _ _ _ inv _ low)

loop-again : tie.Need-loop-left-preserved invariant-loop-left decreases-loop-left
loop-again c =
    let k = c in
    let v = k in
    let d = v.before.before.before.before.before in
    let low = v.lowest_bit-e.ensures.0 in
    seeking-more _ _ _ _ _ v.loop-left.invariant _ low _ _ (c.without_lowest-left.ensures.1 _ low) (k.keep_client-best.ensures (instance d.before.before) (record { dist = refl; way = refl }))

pub best_client_spec : {M : Type 1} → statement M
best_client_spec =
    tie.close
    (tie.spec
    invariant-loop-left
    decreases-loop-left
    (λ c κs. search rules)
    loop-holds
    (λ c κs. search rules)
    keep-client-requires
    (λ c κs. search rules)
    (λ c. c.without_lowest-left.ensures.0)
    loop-again
    (λ c. seeking-done _ _ _ _ _ c.loop-left.invariant c.loop-left-test.false))
