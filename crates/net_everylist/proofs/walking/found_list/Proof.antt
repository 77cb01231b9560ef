-- `net_everylist::walking::found_list`: n steps, and n more that name.
use native.Mathlib.Nat.{zero-add}
use native.Mathlib.Omega.{arith}
use mathlib.Core.Path.{◌≡◌, refl, ◌∙◌, ap}
use mathlib.Core.Bool.{true}
use borrow.Author.Rules.{rules}
use Rattle.base.specs.Below.{any_below}
use Rattle.route_rules.specs.Instance.{Instance}
use Rattle.everylist_rules.specs.Pairs.{has_left, walk, found}
use Rattle.net_rules.specs.Decoded.{decoded}
use Rattle.net_everylist.proofs.Stepping.{walk-some}
use Rattle.net_everylist.proofs.walking.found_list.Statement.{statement}
use Rattle.net_everylist.proofs.walking.found_list.Tie as tie

abbrev network : tie.Start → Instance
network c = decoded c.args.net c.args.rows.now c.args.distances.now

some_left : (c : tie.Start) → any_below (has_left (network c)) (network c).n ≡ true
some_left c = walk-some (network c) (omega (arith, c.requires.2, c.requires.3))

returns : tie.Need-returns
unfolding found
returns c =
    let k = c in
    let s = c in
    let d = c.before.before.before.before.before.before.before.before.before in
    let I : Instance = network d in
    c.named.ensures I I.n s.steps.ensures (some_left d) (k.walked-start.ensures.1 I _ 0 s.steps.ensures (some_left d) d.requires.3 ∙ ap (walk I) (zero-add I.n))

pub found_list_spec : {M : Type 1} → statement M
found_list_spec =
    tie.close
    (tie.spec
    (λ c κs. let d = c.before.before.before in (d.requires.0, d.requires.1, refl, refl))
    (λ c κs.
    let d = c.before.before.before.before.before in
    (omega (arith, d.requires.2, d.requires.0.count), c.steps.ensures.small_nexts))
    (λ c κs.
    let k = c in
    let s = c in
    (k.walked-start.ensures.0, s.steps.ensures.small_clients, s.steps.ensures.small_nexts))
    returns)
