-- `call_distances::least_body`: the checks after those of n and of the links, in order.
use Prim.Native.Nat.{◌*◌, ◌≤◌}
use native.Mathlib.Omega.{arith}
use mathlib.Core.Path.{◌≡◌}
use mathlib.Core.Bool.{true}
use borrow.Author.Rules.{rules}
use borrow.Author.Tests.{le-leb, lt-leb}
use Rattle.base.proofs.Numbers.{granted, denied, square_le}
use Rattle.links_rules.specs.Sums.{least_sums}
use Rattle.links_rules.specs.Distances.{sums_ok}
use Rattle.call_distances.proofs.Written.{words-body}
use Rattle.links_rules.proofs.Returns.{sums-refused, room-refused, call-made}
use Rattle.call_distances.proofs.least_body.Statement.{statement}
use Rattle.call_distances.proofs.least_body.Tie as tie

abbrev summed : tie.After-sums_fit → tie.After-least_sums
summed c = c.before.before.before

abbrev start : tie.After-sums_fit → tie.Start
start c = (summed c).before.before.before.before.before

square : (c : tie.Else-not-sums_fit) → let n = (start c.before).args.n in n * n ≤ 4096
square c = square_le (start c.before).args.n 64 (start c.before).requires.0

-- where the sums fit
sums-pass : (c : tie.Else-not-sums_fit) →
    let a = (start c.before).args in sums_ok (least_sums a.links.now a.n) a.n ≡ true
sums-pass c = granted _ c.sums_fit.ensures c.if-not-sums_fit.false

pub least_body_spec : {M : Type 1} → statement M
least_body_spec =
    tie.close
    (tie.spec
    (λ c κs. search rules)
    (λ c κs. search rules)
    (λ c. search rules)
    (λ c. let b = c.before in let p = (start b).requires in sums-refused _ _ _ p.1 p.2 (denied _ b.sums_fit.ensures c.if-not-sums_fit.true))
    (λ c. record { fits = omega (arith, square c) })
    (λ c. record { fits = omega (arith, square c) })
    (λ c. search rules)
    (λ c. let p = (start c.before.before).requires in room-refused _ _ _ p.1 p.2 (sums-pass c.before) (lt-leb _ _ c.if-out-n.true))
    (λ c κs. (search rules, (summed c.before.before.before).least_sums.ensures.room, search rules))
    (λ c. search rules)
    (λ c. search rules)
    (λ c.
    let w = c in
    let g = w in
    let b = g.before in
    let p = (start b.before.before.before.before.before).requires in
    call-made _ _ _ p.1 p.2 (sums-pass b.before.before.before.before) _ _ (le-leb _ _ g.if-out-n.false) w.write_body.ensures
    (words-body _ _ _ (summed b.before.before.before.before.before).least_sums.ensures (sums-pass b.before.before.before.before))))
