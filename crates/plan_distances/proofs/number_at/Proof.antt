-- Two bytes or four, as the width says.
use Prim.Native.Nat.{◌+◌, ◌*◌, ◌≤◌}
use native.Mathlib.Omega.{arith}
use mathlib.Core.Path.{◌≡◌, ◌∙◌, sym, ap}
use borrow.Author.Rules.{rules}
use lib.ListN.{length}
use Rattle.plan_rules.specs.Distances.{number_at}
use Rattle.plan_rules.proofs.Widths.{not-two}
use Rattle.plan_distances.proofs.number_at.Statement.{statement}
use Rattle.plan_distances.proofs.number_at.Tie as tie

is-2 : (c : tie.Then-width-eq2) → c.args.width ≡ 2
is-2 c = c.if-width-eq2.true

is-4 : (c : tie.Else-width-eq2) → c.args.width ≡ 4
is-4 c = not-two _ c.requires.0 c.if-width-eq2.false

within-2 : (c : tie.Then-width-eq2) → 2 * c.args.i + 2 ≤ length c.args.s.now
within-2 c = rw (is-2 c) at c.requires.1

within-4 : (c : tie.Else-width-eq2) → 4 * c.args.i + 4 ≤ length c.args.s.now
within-4 c = rw (is-4 c) at c.requires.1

returns : tie.Need-returns-then-width-eq2
returns c =
    let d = c.before in
    let a = d.args in (
      c.read2.ensures.0 ∙ sym (ap (λ w. number_at w a.s.now a.i) (is-2 d)),
      rw (is-2 d) (omega (arith, c.read2.ensures.1)),
      omega (arith, c.read2.ensures.1),
    )

returns-2 : tie.Need-returns
returns-2 c =
    let d = c.before in
    let a = d.args in (
      c.read4.ensures.0 ∙ sym (ap (λ w. number_at w a.s.now a.i) (is-4 d)),
      rw (is-4 d) (omega (arith, c.read4.ensures.1)),
      c.read4.ensures.1,
    )

pub number_at_spec : {M : Type 1} → statement M
number_at_spec =
    tie.close
    (tie.spec
    (λ c. omega (arith, within-2 c))
    (λ c κs. within-2 c)
    returns
    (λ c. omega (arith, within-4 c))
    (λ c κs. within-4 c)
    returns-2)
