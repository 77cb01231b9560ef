-- A router, or none, in a byte.
use Prim.Native.Nat.{ℕ, ◌<◌}
use native.Mathlib.Omega.{arith}
use mathlib.Core.Path.{◌≡◌, refl}
use mathlib.Core.Bool.{Bool, true, false}
use mathlib.Core.Option.{none, some}
use lib.Dec.{eqb}
use borrow.Author.Tests.{eqb-true, ne_eqb}
use Rattle.route_rules.specs.Instance.{is_router, RouterBelow}
use Rattle.net_rules.specs.RouterBytes.{as_router}

pub router-none : (x : ℕ) → x ≡ 255 → as_router x ≡ none
unfolding as_router
router-none x h = cc

pub router-some : (x : ℕ) → (x ≡ 255 → ⊥) → as_router x ≡ some x
unfolding as_router
router-some x d = cc (ne_eqb x 255 d)

pub router-below : (n x : ℕ) → (x ≡ 255 → ⊥) → RouterBelow n (as_router x) → x < n
router-below n x d b = rw (router-some x d) at b

pub router-is : (x v : ℕ) → v < 64 → is_router v (as_router x) ≡ eqb x v
unfolding as_router
router-is x v l = go (eqb x 255) refl
  where
    go : (b : Bool) → eqb x 255 ≡ b → is_router v (as_router x) ≡ eqb x v
    go true h = cc (ne_eqb x v (omega (arith, eqb-true x 255 h)))
    go false h = cc
