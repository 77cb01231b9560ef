-- Each check of rows 4 to 7 passes exactly if its plain facts hold: `..-facts` one way, `..-holds` the other.
use Prim.Native.Nat.{ℕ, ◌+◌, ◌≤◌, ◌<◌}
use mathlib.Core.Path.{◌≡◌, refl}
use mathlib.Core.Bool.{true, ◌||◌, not, or-true}
use mathlib.Core.List.{List}
use mathlib.Core.Logic.{⊎_elim, ◌↔◌}
use borrow.Author.Tests.{eq-eqb, ne_eqb, eqb-true}
use lib.Dec.{eqb}
use lib.ListN.{length}
use Rattle.base.specs.Below.{all_below}
use Rattle.base.proofs.Below.{all-at, all-intro}
use Rattle.base.proofs.Numbers.{facts, both, eq-or-ne, leb-iff}
use Rattle.plan_rules.specs.Rising.{rises_at}
use Rattle.plan_rules.specs.Routers.{role, identifier, identifier_before, router_ok, routers_ok}
use Rattle.plan_rules.specs.Sessions.{session_count, session_first, session_second, session_before, session_ok, sessions_ok}
use Rattle.plan_rules.specs.Distances.{diagonal_ok, distances_ok}
use Rattle.plan_rules.specs.Lists.{list_count_in, list_place, member_count, member, member_before, member_ok, list_at_ok, list_ok, each_list_ok, lists_ok}
use Rattle.plan_rules.specs.BodyFacts.{Routers, Sessions, Distances, ListAt, Lists}
use Rattle.plan_rules.proofs.Rising.{numbers-rise, numbers-step, pairs-rise, pairs-step}

-- row 4
module _ (s : List ℕ) where
  abbrev RouterAt : ℕ → Type 0
  RouterAt v = ((1 ≤ role s v) × (role s v ≤ 5)) × (rises_at (identifier_before s) v ≡ true)

  router-iff : (v : ℕ) → (router_ok s v ≡ true) ↔ RouterAt v
  unfolding router_ok
  router-iff v = (λ h. simp facts at h, λ h. simp facts h)

  pub routers-facts : (n : ℕ) → routers_ok s n ≡ true → Routers s n
  unfolding routers_ok
  routers-facts n h =
      let each : (v : ℕ) → v < n → RouterAt v = λ v l. (router-iff v).0 (all-at _ n h v l) in
      record {
        role_least = λ v l. (each v l).0.0;
        role_most = λ v l. (each v l).0.1;
        rising = numbers-rise (identifier s) n (λ v l. (each v l).1);
      }

  pub routers-holds : (n : ℕ) → Routers s n → routers_ok s n ≡ true
  unfolding routers_ok
  routers-holds n f =
      all-intro _ n
      (λ v l. (router-iff v).1 ((f.role_least v l, f.role_most v l), numbers-step (identifier s) n f.rising v l))

-- row 5
module _ (s : List ℕ) where
  abbrev pub SessionAt : ℕ → ℕ → Type 0
  SessionAt n j = ((session_second s j < n) × (session_first s j < session_second s j)) × (rises_at (session_before s) j ≡ true)

  pub session-iff : (n j : ℕ) → (session_ok s n j ≡ true) ↔ SessionAt n j
  unfolding session_ok
  session-iff n j = (λ h. simp facts at h, λ h. simp facts h)

  pub sessions-facts : (n : ℕ) → sessions_ok s n ≡ true → Sessions s n
  unfolding sessions_ok
  sessions-facts n h =
      let each : (j : ℕ) → j < session_count s → SessionAt n j = λ j l. (session-iff n j).0 (all-at _ _ h j l) in
      record {
        below = λ j l. (each j l).0.0;
        ordered = λ j l. (each j l).0.1;
        rising = pairs-rise (session_first s) (session_second s) (session_count s) (λ j l. (each j l).1);
      }

  pub sessions-holds : (n : ℕ) → Sessions s n → sessions_ok s n ≡ true
  unfolding sessions_ok
  sessions-holds n f =
      all-intro _ _
      (λ j l.
      (session-iff n j).1 (
        (f.below j l, f.ordered j l),
        pairs-step (session_first s) (session_second s) (session_count s) f.rising j l,
      ))

-- row 6
module _ (width : ℕ) (s : List ℕ) (n : ℕ) where
  pub distances-facts : distances_ok width s n ≡ true → Distances width s n
  unfolding distances_ok
  distances-facts h = record { diagonal = λ u l. eqb-true _ 0 (all-at (diagonal_ok width s n) n h u l) }

  pub distances-holds : Distances width s n → distances_ok width s n ≡ true
  unfolding distances_ok
  distances-holds f = all-intro (diagonal_ok width s n) n (λ u l. eq-eqb _ 0 (f.diagonal u l))

-- row 7
module _ (s : List ℕ) (n : ℕ) where
  abbrev MemberAt : ℕ → ℕ → Type 0
  MemberAt place j = (member s place j < n) × (rises_at (member_before s place) j ≡ true)

  member-iff : (place j : ℕ) → (member_ok s n place j ≡ true) ↔ MemberAt place j
  unfolding member_ok
  member-iff place j = (λ h. simp facts at h, λ h. simp facts h)

  pub list-facts : (place : ℕ) → list_at_ok s n place ≡ true → ListAt s n place
  unfolding list_at_ok
  list-facts place h =
      let c = member_count s place in
      let f :
      (((place < length s) × (c ≤ n)) × (place + 1 + c ≤ length s))
      × (all_below (member_ok s n place) c ≡ true) = simp facts at h
      in
      let each : (j : ℕ) → j < c → MemberAt place j = λ j l. (member-iff place j).0 (all-at _ c f.1 j l) in
      record {
        starts = f.0.0.0;
        most = f.0.0.1;
        within = f.0.1;
        below = λ j l. (each j l).0;
        rising = numbers-rise (member s place) c (λ j l. (each j l).1);
      }

  pub list-holds : (place : ℕ) → ListAt s n place → list_at_ok s n place ≡ true
  unfolding list_at_ok
  list-holds place f =
      simp facts (
        ((f.starts, f.most), f.within),
        all-intro _ _
            (λ j l. (member-iff place j).1 (f.below j l, numbers-step (member s place) (member_count s place) f.rising j l)),
      )

  pub lists-facts : lists_ok s n ≡ true → Lists s n
  unfolding lists_ok each_list_ok list_ok
  lists-facts h =
      let m = list_count_in s in
      let f :
      (((1 ≤ length s) × (1 ≤ m)) × (m ≤ 64))
      × ((all_below (list_ok s n) m ≡ true) × (list_place s m ≡ length s)) = simp facts at h
      in
      record {
        held = f.0.0.0;
        some = f.0.0.1;
        most = f.0.1;
        lists = λ k l. list-facts (list_place s k) (all-at (list_ok s n) m f.1.0 k l);
        filled = f.1.1;
      }

  pub lists-holds : Lists s n → lists_ok s n ≡ true
  unfolding lists_ok each_list_ok list_ok
  lists-holds f =
      simp facts
      (((f.held, f.some), f.most), (all-intro _ _ (λ k l. list-holds (list_place s k) (f.lists k l)), f.filled))
