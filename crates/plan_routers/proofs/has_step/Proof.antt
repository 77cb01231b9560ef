use Prim.Native.Nat.{ℕ, ◌≤◌}
use native.Mathlib.Omega.{arith}
use mathlib.Core.Path.{◌≡◌, refl}
use mathlib.Core.Bool.{◌||◌}
use mathlib.Core.Logic.{◌⊎◌, inl, inr}
use borrow.Author.Tests.{lt-leb, ne_eqb}
use lib.Dec.{leb, eqb}
use Rattle.base.proofs.Numbers.{eq-or-ne}
use Rattle.plan_routers.proofs.has_step.Statement.{statement}
use Rattle.plan_routers.proofs.has_step.Tie as tie

-- of the roles up to 5, those from 4 on are 4 and 5
from-four : (role : ℕ) → role ≤ 5 → leb 4 role ≡ (eqb role 4 || eqb role 5)
from-four role most = go (eq-or-ne role 4) (eq-or-ne role 5)
  where
    go : (role ≡ 4) ⊎ (role ≡ 4 → ⊥) → (role ≡ 5) ⊎ (role ≡ 5 → ⊥) → leb 4 role ≡ (eqb role 4 || eqb role 5)
    go (inl e) o = rw e refl
    go (inr f) (inl e) = rw e refl
    go (inr f) (inr g) = cc (lt-leb 4 role (omega arith), ne_eqb role 4 f, ne_eqb role 5 g)

pub has_step_spec : {M : Type 1} → statement M
has_step_spec = tie.close (tie.spec (λ c. from-four _ c.requires))
