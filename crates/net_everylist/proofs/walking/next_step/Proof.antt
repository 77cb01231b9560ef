use Prim.Native.Nat.{◌%◌}
use native.Mathlib.Omega.{arith}
use borrow.Author.Rules.{rules}
use Rattle.net_rules.specs.Decoded.{decoded}
use Rattle.net_everylist.specs.Walking.{NextStep}
use Rattle.net_everylist.proofs.Rows.{near-below}
use Rattle.net_everylist.proofs.Stepping.{left-pairs, step_is}
use Rattle.net_everylist.proofs.walking.next_step.Statement.{statement}
use Rattle.net_everylist.proofs.walking.next_step.Tie as tie

-- the step is the network's
on : (c : tie.After-first_with-next) → let k = c.before.before.before in let a = k.args in
    NextStep (decoded a.net a.rows.now a.distances.now) a.w (k.foreign_key-client.result % 64) c.first_with-next.result
on c =
    let k = c.before.before.before in
    let s = k in
    let d = k in
    let a = d.args in
    rw c.first_with-next.ensures
    (step_is a.net a.rows.now a.distances.now d.requires.0 (λ i. omega (arith, s.shared_slice_known-1.given i)) a.left.now d.requires.2 a.w
    d.requires.3 _ k.foreign_key-client.ensures)

pub next_step_spec : {M : Type 1} → statement M
next_step_spec =
    tie.close
    (tie.spec
    (λ c κs. let d = c.before in (d.requires.0, d.requires.1, left-pairs _ _ d.requires.2))
    (λ c. search rules)
    (λ c. search rules)
    (λ c κs.
    let d = c.before.before.before.before in
    let a = d.args in
    (d.requires.0.count, omega arith, near-below a.net a.rows.now a.distances.now d.requires.0 a.w))
    (λ c. search rules)
    (λ c. record { fits = omega (arith, (on c).below.1, c.requires.0.count) })
    (λ c. on c))
