-- The network of a plan that is not refused: what its bodies give the code that reads it, and what holds of it.
use Prim.Native.Nat.{ℕ, ◌*◌, ◌<◌}
use native.Mathlib.Omega.{arith}
use mathlib.Core.Path.{◌≡◌, refl, ◌∙◌, ap, ap₂}
use mathlib.Core.Bool.{Bool, true, false, not, ◌&&◌, ◌||◌}
use mathlib.Core.List.{List}
use mathlib.Core.Logic.{◌⊎◌, inl, inr, ⊎_elim}
use borrow.Author.Tests.{lt-ltb, eqb-true}
use lib.Dec.{eqb, lit<}
use lib.ListN.{length, get_or}
use Rattle.base.proofs.Below.{Witness, any_at}
use Rattle.base.proofs.Numbers.{eq-or-ne}
use Rattle.plan_contents.specs.Header.{router_count}
use Rattle.plan_contents.specs.Contents.{routers_body, sessions_body}
use Rattle.plan_rules.specs.Routers.{role}
use Rattle.plan_rules.specs.Sessions.{session_count, session_first, session_second, pairs, in_session}
use Rattle.plan_rules.proofs.Neighbours.{pairs-are, session-swap}
use Rattle.plan_rules.specs.Distances.{is_way}
use Rattle.plan_rules.specs.EgressLists.{list_count, list_numbers}
use Rattle.plan_rules.specs.Refusal.{plan_refusal}
use Rattle.plan_rules.specs.Passed.{Passed}
use Rattle.plan_rules.proofs.Passed.{passed, part_length}
use Rattle.plan_rules.proofs.ListWithin.{numbers_of}
use Rattle.net_rules.specs.FromPlan.{named, instance_of, RoleOf, Trusted}

module _ (plan : List ℕ) (p : Passed plan) where
  pub routers-length : length (routers_body plan) ≡ 5 * router_count plan
  routers-length = part_length plan p 0 (lit< tt) ∙ p.contents.routers_size

  pub session-below : (j : ℕ) → j < session_count (sessions_body plan) → (session_first (sessions_body plan) j < 64) × (session_second (sessions_body plan) j < 64)
  session-below j l = omega (arith, p.sessions.below j l, p.sessions.ordered j l, p.count.most)

  pub number-below : (k : ℕ) → k < list_count plan → (j : ℕ) → j < length (list_numbers plan k) → get_or (list_numbers plan k) j 0 < router_count plan
  number-below k l j h =
      let numbers = numbers_of plan p k l in
      numbers.below j (omega (arith, numbers.count))

module _ (plan : List ℕ) (p : Passed plan) where
  neighbour-bounds : (w v : ℕ) → in_session (sessions_body plan) w v ≡ true → (w ≡ v → ⊥) × (v < router_count plan)
  unfolding in_session
  neighbour-bounds w v h =
      let s = sessions_body plan in
      let found : Witness (pairs s w v) (session_count s) = any_at (pairs s w v) (session_count s) h in
      let below = p.sessions.below found.at found.below in
      let ordered = p.sessions.ordered found.at found.below in
      ⊎_elim
      (λ (e : (session_first s found.at ≡ w) × (session_second s found.at ≡ v)). (λ same. omega arith, omega arith))
      (λ (e : (session_second s found.at ≡ w) × (session_first s found.at ≡ v)). (λ same. omega arith, omega arith))
      (pairs-are s w v found.at found.holds)

  neighbour-apart : (v : ℕ) → in_session (sessions_body plan) v v ≡ false
  neighbour-apart v = go (in_session (sessions_body plan) v v) refl
    where
      go : (b : Bool) → in_session (sessions_body plan) v v ≡ b → in_session (sessions_body plan) v v ≡ false
      go true e = absurd ((neighbour-bounds v v e).0 refl)
      go false e = e

  listed-below : (k : ℕ) → k < list_count plan → (v : ℕ) → named (list_numbers plan k) v ≡ true → v < router_count plan
  unfolding named
  listed-below k l v h =
      let found : Witness (λ j. eqb (get_or (list_numbers plan k) j 0) v) (length (list_numbers plan k)) = any_at _ _ h in
      omega (arith, number-below plan p k l found.at found.below, eqb-true (get_or (list_numbers plan k) found.at 0) v found.holds)

  module _ (k v : ℕ) (l : v < router_count plan) where
    role-of : (number : ℕ) → role (routers_body plan) v ≡ number
        → RoleOf plan (instance_of plan k) v number (not (eqb number 2)) (eqb number 3 || eqb number 5) (eqb number 4 || eqb number 5)
    role-of number e = (
      e,
      ap₂ (λ b r. b && not (eqb r 2)) (lt-ltb v _ l) e,
      ap₂ (λ b r. b && (eqb r 3 || eqb r 5)) (lt-ltb v _ l) e,
      ap₂ (λ b r. b && (eqb r 4 || eqb r 5)) (lt-ltb v _ l) e,
    )

    roles :
        RoleOf plan (instance_of plan k) v 1 true false false
        ⊎ RoleOf plan (instance_of plan k) v 2 false false false
        ⊎ RoleOf plan (instance_of plan k) v 3 true true false
        ⊎ RoleOf plan (instance_of plan k) v 4 true false true
        ⊎ RoleOf plan (instance_of plan k) v 5 true true true
    roles =
        let r = role (routers_body plan) v in
        ⊎_elim (λ (e : r ≡ 1). inl (role-of 1 e))
        (λ (a : r ≡ 1 → ⊥).
        inr
        (⊎_elim (λ (e : r ≡ 2). inl (role-of 2 e))
        (λ (b : r ≡ 2 → ⊥).
        inr
        (⊎_elim (λ (e : r ≡ 3). inl (role-of 3 e))
        (λ (c : r ≡ 3 → ⊥).
        inr
        (⊎_elim (λ (e : r ≡ 4). inl (role-of 4 e))
        (λ (d : r ≡ 4 → ⊥). inr (role-of 5 (omega (arith, p.routers.role_least v l, p.routers.role_most v l))))
        (eq-or-ne r 4)))
        (eq-or-ne r 3)))
        (eq-or-ne r 2)))
        (eq-or-ne r 1)

pub trusted : (plan : List ℕ) (k : ℕ) → plan_refusal plan ≡ 0 → k < list_count plan → Trusted plan (instance_of plan k)
trusted plan k accepted l =
    let p = passed plan accepted in
    record {
      symmetric = session-swap (sessions_body plan);
      apart = neighbour-apart plan p;
      neighbour_below = λ w v h. (neighbour-bounds plan p w v h).1;
      listed_below = listed-below plan p k l;
      distance_own = p.distances.diagonal;
      way_own = λ u l. ap is_way (p.distances.diagonal u l);
      roles = roles plan p k;
    }
