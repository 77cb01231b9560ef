use Prim.Native.Nat.{ℕ, ◌^◌, ◌≤◌, ◌<◌}
use native.Mathlib.Omega.{arith}
use mathlib.Core.Path.{◌≡◌, ◌∙◌, ap}
use mathlib.Core.Bool.{false, cond, ◌||◌}
use borrow.Author.Rules.{rules}
use borrow.Author.Tests.{ne_eqb}
use lib.Bits.{bit_or}
use lib.Dec.{eqb}
use Rattle.net_read.proofs.with_role.Statement.{statement}
use Rattle.net_read.proofs.with_role.Tie as tie

-- a role up to 2 is none of two above it, so that what these add is not added
not-added : (role a b : ℕ) (with_it without : ℕ) → role ≤ 2 → 2 < a → 2 < b → without ≡ cond (eqb role a || eqb role b) with_it without
not-added role a b with_it without l p q =
    let x : eqb role a ≡ false = ne_eqb role a (λ e. omega arith) in
    let y : eqb role b ≡ false = ne_eqb role b (λ e. omega arith) in
    rw (x, y)

returns : tie.Need-returns-then-role-le-CLIENT
returns c =
    let a = c.args in (
      c.with_bit_if-reflectors.ensures,
      not-added a.role 3 5 _ _ c.if-role-le-CLIENT.true (omega arith) (omega arith),
      not-added a.role 4 5 _ _ c.if-role-le-CLIENT.true (omega arith) (omega arith),
    )

returns-2 : tie.Need-returns
returns-2 c =
    let skips = c in
    let a = skips.args in (
      skips.with_bit_if-reflectors.ensures,
      skips.with_bit_if.ensures ∙ ap (λ b. cond b (bit_or a.words.skips (2 ^ a.v)) a.words.skips) skips.skips_clients.ensures,
      c.with_bit_if-2.ensures ∙ ap (λ b. cond b (bit_or a.words.hop (2 ^ a.v)) a.words.hop) c.has_step.ensures,
    )

pub with_role_spec : {M : Type 1} → statement M
with_role_spec =
    tie.close
    (tie.spec
    (λ c κs. search rules)
    returns
    (λ c κs. search rules)
    (λ c κs. search rules)
    (λ c κs. search rules)
    (λ c κs. search rules)
    returns-2)
