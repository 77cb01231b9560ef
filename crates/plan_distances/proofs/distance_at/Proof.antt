-- Two bytes may stand for no way; four bytes are the distance or no way as they are.
use Prim.Native.Nat.{◌<◌}
use native.Mathlib.Omega.{arith}
use mathlib.Core.Path.{◌≡◌, ◌∙◌, sym, ap}
use borrow.Author.Rules.{rules}
use borrow.Author.Tests.{eqb-false, not-true}
use Rattle.plan_rules.specs.Distances.{as_distance, number_at, placed}
use Rattle.plan_rules.proofs.Widths.{not-two, four-as-it-is}
use Rattle.plan_distances.proofs.distance_at.Statement.{statement}
use Rattle.plan_distances.proofs.distance_at.Tie as tie

is-4 : (c : tie.Else-width-eq2) → c.args.width ≡ 4
is-4 c = not-two _ c.requires.0 c.if-width-eq2.false

from-two-requires : tie.Need-from_two-requires
from-two-requires c κs = let h = rw c.if-width-eq2.true at c.number_at-number.ensures.1 in omega arith

returns : tie.Need-returns-then-width-eq2
returns c =
    let d = c in
    let a = d.args in
    let is-2 : a.width ≡ 2 = d.if-width-eq2.true in (
      c.from_two.ensures.0
          ∙ ap (as_distance 2) d.number_at-number.ensures.0
          ∙ ap (λ w. as_distance w (number_at a.width a.s.now a.i)) (sym is-2),
      rw is-2 c.from_two.ensures.1,
    )

returns-2 : tie.Need-returns
returns-2 c =
    let a = c.args in
    let number = c.number_at-number in
    let below : number.result < 4294967296 = number.ensures.2 in (
      number.ensures.0
          ∙ sym (four-as-it-is _)
          ∙ ap (λ w. as_distance w (number_at a.width a.s.now a.i)) (sym (is-4 c)),
      rw (is-4 c) (record { most = below; way = λ h. omega (arith, eqb-false number.result 4294967295 (not-true _ h)) }),
    )

pub distance_at_spec : {M : Type 1} → statement M
distance_at_spec = tie.close (tie.spec (λ c κs. search rules) from-two-requires returns returns-2)
