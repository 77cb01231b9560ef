-- Each check of a link sheet passes exactly if its plain facts hold: `..-facts` one way, `..-holds` the other.
use Prim.Native.Nat.{ℕ, ◌+◌, ◌*◌, ◌%◌, ◌≤◌, ◌<◌}
use native.Mathlib.Omega.{arith}
use mathlib.Core.Path.{◌≡◌, refl}
use mathlib.Core.Bool.{true, false}
use mathlib.Core.List.{List}
use mathlib.Core.Logic.{◌↔◌}
use mathlib.Core.Option.{Option, none, some}
use borrow.Author.Tests.{le-leb, leb-true, leb-false, not-true}
use lib.ListN.{length}
use Rattle.base.specs.Below.{all_below}
use Rattle.base.specs.Bytes.{Bytes}
use Rattle.base.proofs.Below.{all-at, all-intro, all-broken}
use Rattle.base.proofs.Numbers.{facts, not-both}
use Rattle.plan_rules.specs.Rising.{rises_at}
use Rattle.plan_rules.proofs.Rising.{pairs-rise, pairs-step}
use Rattle.links_rules.specs.Sheet.{links_most, link_count, link_from, link_to, link_weight, link_before, link_ok, sheet_ok}
use Rattle.links_rules.specs.Walks.{Walk, Least, LeastIs}
use Rattle.links_rules.specs.Sums.{least_sums}
use Rattle.links_rules.specs.Distances.{fits, sums_ok}
use Rattle.links_rules.specs.SheetFacts.{Sheet, Near, AllNear, Above, SomeFar}
use Rattle.links_rules.proofs.LeastSums.{least-sums}

-- 11
module _ (s : List ℕ) (n : ℕ) where
  abbrev LinkAt : ℕ → Type 0
  LinkAt k = (((link_from s k < n) × (link_to s k < n)) × (1 ≤ link_weight s k)) × (rises_at (link_before s) k ≡ true)

  link-iff : (k : ℕ) → (link_ok s n k ≡ true) ↔ LinkAt k
  unfolding link_ok
  link-iff k = (λ h. simp facts at h, λ h. simp facts h)

  pub sheet-facts : sheet_ok s n ≡ true → Sheet s n
  unfolding sheet_ok
  sheet-facts h =
      let f : ((length s % 4 ≡ 0) × (link_count s ≤ links_most)) × (all_below (link_ok s n) (link_count s) ≡ true) = simp facts at h in
      let each : (k : ℕ) → k < link_count s → LinkAt k = λ k l. (link-iff k).0 (all-at _ _ f.1 k l) in
      record {
        whole = f.0.0;
        most = f.0.1;
        froms = λ k l. (each k l).0.0.0;
        tos = λ k l. (each k l).0.0.1;
        weights = λ k l. (each k l).0.1;
        rising = pairs-rise (link_from s) (link_to s) (link_count s) (λ k l. (each k l).1);
      }

  pub sheet-holds : Sheet s n → sheet_ok s n ≡ true
  unfolding sheet_ok
  sheet-holds f =
      simp facts (
        (f.whole, f.most),
        all-intro _ _
            (λ k l.
            (link-iff k).1 (
              ((f.froms k l, f.tos k l), f.weights k l),
              pairs-step (link_from s) (link_to s) (link_count s) f.rising k l,
            )),
      )

pub weight-most : (s : List ℕ) → Bytes s → (k : ℕ) → link_weight s k ≤ 65535
weight-most s bytes k = omega (arith, bytes (4 * k + 2), bytes (4 * k + 2 + 1))

-- 12
pub least-unique : (s : List ℕ) (i j d e : ℕ) → Least s i j d → Least s i j e → d ≡ e
least-unique s i j d e p q = omega (arith, p.has, q.has, p.least q.walk, q.least p.walk)

-- the least sum of a pair that is near if it has a walk
pub near-most : (s : List ℕ) (u e d : ℕ) → Least s u e d → (Walk s u e → Near s u e) → d ≤ 65534
near-most s u e d l h = let p = h l.walk in omega (arith, least-unique s u e d p.distance l p.least, p.most)

module _ (s : List ℕ) (n : ℕ) (f : Sheet s n) where
  abbrev computed : ℕ → ℕ → Option ℕ
  computed = least_sums s n

  pub computed-least : (u e : ℕ) → u < n → e < n → LeastIs s u e (computed u e)
  computed-least = least-sums s n f.froms f.tos

  near : (u e : ℕ) (x : Option ℕ) → LeastIs s u e x → fits x ≡ true → Walk s u e → Near s u e
  unfolding LeastIs
  near u e none l h w = absurd (l w)
  near u e (some d) l h w = record { distance = d; least = l; most = leb-true d 65534 h }

  far : (u e : ℕ) (x : Option ℕ) → LeastIs s u e x → fits x ≡ false → Above s u e
  unfolding LeastIs
  far u e none l h = not-both true refl h
  far u e (some d) l h = record { distance = d; least = l; above = leb-false d 65534 h }

  not-far : (u e : ℕ) → (Walk s u e → Near s u e) → Above s u e → ⊥
  not-far u e h q = omega (arith, near-most s u e q.distance q.least h, q.above)

  sum_fits : (u e : ℕ) (x : Option ℕ) → LeastIs s u e x → (Walk s u e → Near s u e) → fits x ≡ true
  unfolding LeastIs
  sum_fits u e none l h = refl
  sum_fits u e (some d) l h = le-leb d 65534 (near-most s u e d l h)

  pub sums-facts : sums_ok computed n ≡ true → AllNear s n
  unfolding sums_ok
  sums-facts h u e l m = near u e (computed u e) (computed-least u e l m) (all-at _ n (all-at _ n h u l) e m)

  pub sums-holds : AllNear s n → sums_ok computed n ≡ true
  unfolding sums_ok
  sums-holds h =
      all-intro _ n (λ u l. all-intro _ n (λ e m. sum_fits u e (computed u e) (computed-least u e l m) (h u e l m)))

  pub sums_far : sums_ok computed n ≡ false → SomeFar s n
  unfolding sums_ok
  sums_far h =
      let row = all-broken _ n h in
      let pair = all-broken _ n (not-true _ row.holds) in
      record {
        from = row.at;
        to = pair.at;
        from_below = row.below;
        to_below = pair.below;
        far = far _ _ _ (computed-least row.at pair.at row.below pair.below) (not-true _ pair.holds);
      }

  pub far-not-near : SomeFar s n → AllNear s n → ⊥
  far-not-near p h = not-far p.from p.to (h p.from p.to p.from_below p.to_below) p.far
