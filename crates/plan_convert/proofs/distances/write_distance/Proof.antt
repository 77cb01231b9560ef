-- Two bytes or four, as the width says.
use Prim.Native.Nat.{◌+◌, ◌*◌, ◌≤◌}
use native.Mathlib.Omega.{arith}
use mathlib.Core.Path.{◌≡◌}
use borrow.Author.Rules.{rules}
use lib.ListN.{length}
use Rattle.plan_rules.proofs.Widths.{not-two}
use Rattle.plan_convert.proofs.distances.write_distance.Statement.{statement}
use Rattle.plan_convert.proofs.distances.write_distance.Tie as tie

is-2 : (c : tie.Then-to-eq2) → c.args.to ≡ 2
is-2 c = c.if-to-eq2.true

is-4 : (c : tie.Else-to-eq2) → c.args.to ≡ 4
is-4 c = not-two _ c.requires.0 c.if-to-eq2.false

within-2 : (c : tie.Then-to-eq2) → let a = c.args in a.at + 2 * a.i + 2 ≤ length a.out.now
within-2 c = rw (is-2 c) at c.requires.1

within-4 : (c : tie.Else-to-eq2) → let a = c.args in a.at + 4 * a.i + 4 ≤ length a.out.now
within-4 c = rw (is-4 c) at c.requires.1

pub write_distance_spec : {M : Type 1} → statement M
write_distance_spec =
    tie.close
    (tie.spec
    (λ c. omega (arith, within-2 c.before))
    (λ c. omega (arith, within-2 c.before))
    (λ c κs. within-2 c.before)
    (λ c. search rules)
    (λ c. let b = c.before.before in rw (is-2 b.before.before) b.write2.ensures)
    (λ c. omega (arith, within-4 c.before))
    (λ c. omega (arith, within-4 c.before))
    (λ c κs. within-4 c.before)
    (λ c. search rules)
    (λ c. let b = c.before.before in rw (is-4 b.before.before) b.write4.ensures))
