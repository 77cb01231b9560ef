-- Laws of who is in a session with whom.
use Prim.Native.Nat.{ℕ}
use mathlib.Core.Path.{◌≡◌, refl, ◌∙◌, ap, ap₂, fun_ext}
use mathlib.Core.Bool.{Bool, true, false, ◌&&◌, ◌||◌, and_comm, or_comm}
use mathlib.Core.List.{List}
use mathlib.Core.Logic.{◌⊎◌, inl, inr}
use lib.Dec.{eqb}
use Rattle.base.specs.Below.{any_below}
use Rattle.base.proofs.Numbers.{facts}
use Rattle.plan_rules.specs.Sessions.{session_count, session_first, session_second, pairs, in_session}

-- a session pairs in either order, and pairs its own two routers alone
pub pairs-swap : (s : List ℕ) (w v j : ℕ) → pairs s w v j ≡ pairs s v w j
unfolding pairs
pairs-swap s w v j =
    ap₂ ◌||◌ (and_comm (eqb (session_first s j) w) (eqb (session_second s j) v)) (and_comm (eqb (session_second s j) w) (eqb (session_first s j) v))
    ∙ or_comm (eqb (session_second s j) v && eqb (session_first s j) w) (eqb (session_first s j) v && eqb (session_second s j) w)

pub pairs-are : (s : List ℕ) (w v j : ℕ) → pairs s w v j ≡ true
    → ((session_first s j ≡ w) × (session_second s j ≡ v)) ⊎ ((session_second s j ≡ w) × (session_first s j ≡ v))
unfolding pairs
pairs-are s w v j h = go (eqb (session_first s j) w && eqb (session_second s j) v) refl
  where
    go : (b : Bool) → (eqb (session_first s j) w && eqb (session_second s j) v) ≡ b
        → ((session_first s j ≡ w) × (session_second s j ≡ v)) ⊎ ((session_second s j ≡ w) × (session_first s j ≡ v))
    go true e = inl (simp facts at e)
    go false e =
        let other : (eqb (session_second s j) w && eqb (session_first s j) v) ≡ true = cc in
        inr (simp facts at other)

pub session-swap : (s : List ℕ) (w v : ℕ) → in_session s w v ≡ in_session s v w
unfolding in_session
session-swap s w v = ap (λ q. any_below q (session_count s)) (fun_ext (pairs-swap s w v))
