-- The cycle: the walk stays in its group, comes back within n steps, and the part that it repeats is a cycle of the relation.
use Prim.Native.Nat.{ℕ, zero, suc, ◌+◌, ◌-◌, ◌≤◌, ◌<◌, min}
use native.Mathlib.Omega.{arith}
use mathlib.Core.Path.{◌≡◌, refl, ◌∙◌, sym, ap, ap₂, fun_ext}
use mathlib.Core.Bool.{false}
use mathlib.Core.Logic.{⊎_elim}
use lib.Dec.{eqb}
use lib.ListN.{length, get_or}
use Rattle.base.specs.Seek.{flag, seek, highest, count}
use Rattle.base.proofs.Tab.{length-tab, get_or-tab}
use Rattle.base.proofs.Seek.{flag_one, flag_same, Found, seek_found, seek-below, seek-cong, Top, highest-top, highest-over, highest-suc, count_less, count-le}
use Rattle.base.proofs.Numbers.{eq-or-ne, lt-or-le, not-both}
use Rattle.base.specs.Elimination.{Agree}
use Rattle.graph_groups.specs.Closure.{Relation, closure, Chain, step, more}
use Rattle.graph_groups.specs.Groups.{together, stable, grouped}
use Rattle.graph_cycle.specs.Cycle.{start, next, walk, trail, same_router, met_again_at, met_first_at, repeated_part, cycle_in, cycle, IsCycle}
use Rattle.graph_groups.proofs.Reaching.{closure-is, closure-related, closure-trans, closure-cong}
use Rattle.graph_groups.proofs.Sharing.{together-cases, together-self, together-both, together-sym, together-trans, stable-groups, Other, grouped-other, grouped-by, together-cong, grouped-cong}

-- a relation that is not stable has a router in a group of two or more
pub start-below : (C : Relation) (n : ℕ) → stable C n ≡ false → start C n < n
unfolding start
start-below C n s = ⊎_elim (λ (l : seek (grouped C n) n < n). l) none (lt-or-le (seek (grouped C n) n) n)
  where
    none : n ≤ seek (grouped C n) n → seek (grouped C n) n < n
    none l =
        not-both (stable C n)
        ((stable-groups C n).1 (λ i j a b h.
        ⊎_elim (λ (e : i ≡ j). e)
        (λ (e : i ≡ j → ⊥). absurd (omega (arith, grouped-by C n i j b e h, (seek_found (grouped C n) n).before i (omega arith))))
        (eq-or-ne i j)))
        s

pub start-grouped : (C : Relation) (n : ℕ) → stable C n ≡ false → 1 ≤ grouped C n (start C n)
unfolding start
start-grouped C n s = (seek_found (grouped C n) n).hit (start-below C n s)

-- an endless walk along R below n, in one group
pub record Tour (R C : Relation) (n : ℕ) (f : ℕ → ℕ) : Type 0 where
  pub below : (k : ℕ) → f k < n
  pub related : (k : ℕ) → 1 ≤ R (f k) (f (suc k))
  pub shares : (i k : ℕ) → 1 ≤ together C (f i) (f k)

module _ (R : Relation) (n : ℕ) where
  -- a router related to w in the group of w
  record Ahead (w : ℕ) : Type 0 where
    at : ℕ
    below : at < n
    holds : 1 ≤ min (R w at) (together (closure R n) w at)

  -- a chain from w back to w starts in the group of w
  chain-ahead : (w : ℕ) → w < n → {j : ℕ} → j ≡ w → Chain R n w j → Ahead w
  chain-ahead w l e (step h) =
      let g : 1 ≤ R w w = rw e at h in
      record { at = w; below = l; holds = omega (arith, together-self (closure R n) w w refl) }
  chain-ahead w l e (more {k = k} m h c) =
      let back : 1 ≤ closure R n k w = (closure-is R n k w m l).1 (rw e at c) in
      record { at = k; below = m; holds = omega (arith, together-both (closure R n) w k (closure-related R n w k l m h) back) }

  grouped-ahead : (w : ℕ) → w < n → 1 ≤ grouped (closure R n) n w → Ahead w
  grouped-ahead w l h =
      let o : Other (closure R n) n w = grouped-other (closure R n) n w h in
      ⊎_elim (λ (e : w ≡ o.at). absurd (o.differs e))
      (λ (b : (1 ≤ closure R n w o.at) × (1 ≤ closure R n o.at w)).
      chain-ahead w l refl ((closure-is R n w w l l).0 (closure-trans R n w o.at w l o.below l b.0 b.1)))
      (together-cases (closure R n) w o.at o.shares)

  -- the walk is at w and goes on to v
  record Stepped (w v : ℕ) : Type 0 where
    below : v < n
    related : 1 ≤ R w v
    shares : 1 ≤ together (closure R n) w v
    still : 1 ≤ grouped (closure R n) n v

  stepped : (w : ℕ) → w < n → 1 ≤ grouped (closure R n) n w → Stepped w (next R (closure R n) n w)
  unfolding next
  stepped w l h =
      let a : Ahead w = grouped-ahead w l h in
      let f : ℕ → ℕ = λ v. min (R w v) (together (closure R n) w v) in
      let b : seek f n < n = seek-below f n a.at a.below a.holds in
      let c : 1 ≤ f (seek f n) = (seek_found f n).hit b in
      let s : 1 ≤ together (closure R n) w (seek f n) = omega arith in
      record {
        below = b;
        related = omega arith;
        shares = s;
        still =
            ⊎_elim (λ (e : w ≡ seek f n). rw e at h)
            (λ (e : w ≡ seek f n → ⊥).
            grouped-by (closure R n) n (seek f n) w l (λ q. e (sym q)) (together-sym (closure R n) w (seek f n) s))
            (eq-or-ne w (seek f n));
      }

  -- the walk after k steps
  record Walked (s w : ℕ) : Type 0 where
    below : w < n
    still : 1 ≤ grouped (closure R n) n w
    shares : 1 ≤ together (closure R n) s w

  walked : stable (closure R n) n ≡ false → (k : ℕ) → Walked (start (closure R n) n) (trail R (closure R n) n k)
  unfolding walk
  walked u zero =
      record { below = start-below _ n u; still = start-grouped _ n u; shares = together-self (closure R n) _ _ refl }
  walked u (suc k) =
      let w : Walked (start (closure R n) n) (trail R (closure R n) n k) = walked u k in
      let v : Stepped (trail R (closure R n) n k) (trail R (closure R n) n (suc k)) = stepped _ w.below w.still in
      record {
        below = v.below;
        still = v.still;
        shares = together-trans R n _ _ _ (start-below _ n u) w.below v.below w.shares v.shares;
      }

  pub tour : stable (closure R n) n ≡ false → Tour R (closure R n) n (trail R (closure R n) n)
  unfolding walk
  tour u = record {
    below = λ k. (walked u k).below;
    related = λ k. (stepped _ (walked u k).below (walked u k).still).related;
    shares = λ i k.
        together-trans R n _ _ _ (walked u i).below (start-below _ n u) (walked u k).below
        (together-sym (closure R n) _ _ (walked u i).shares)
        (walked u k).shares;
  }

-- f is at no place below m where it was before
abbrev pub Fresh : (ℕ → ℕ) → ℕ → Type 0
Fresh f m = (k : ℕ) → k < m → highest (same_router f k) k ≡ 0

-- which routers f meets in its first m places
abbrev met : (ℕ → ℕ) → ℕ → ℕ → ℕ
met f m v = highest (λ i. flag (eqb (f i) v)) m

-- as many routers as places: so there are at most n such places
met-many : (f : ℕ → ℕ) (n m : ℕ) → ((k : ℕ) → f k < n) → Fresh f m → m ≤ count (met f m) n
met-many f n zero b h = omega arith
met-many f n (suc m) b h =
    omega (
      arith,
      met-many f n m b (λ k l. h k (omega arith)),
      count_less (met f m) (met f (suc m)) n (f m) (b m) (h m (omega arith))
          (omega (arith, highest-over (λ i. flag (eqb (f i) (f m))) (suc m) m (omega arith), flag_one (f m) (f m) refl))
          (λ v l g. omega (arith, highest-suc (λ i. flag (eqb (f i) v)) m)),
    )

pub fresh-few : (f : ℕ → ℕ) (n m : ℕ) → ((k : ℕ) → f k < n) → Fresh f m → m ≤ n
fresh-few f n m b h = omega (arith, met-many f n m b h, count-le (met f m) n)

-- where f is for the second time, and where it was there first
pub record Repeated (f : ℕ → ℕ) (n p m : ℕ) : Type 0 where
  pub upto : m ≤ n
  pub fresh : Fresh f m
  pub earlier : p < m
  pub back : f p ≡ f m

pub repeated-found : (f : ℕ → ℕ) (n : ℕ) → ((k : ℕ) → f k < n) → Repeated f n (met_first_at f n) (met_again_at f n)
unfolding met_again_at met_first_at
repeated-found f n b =
    let again : ℕ → ℕ = λ k. highest (same_router f k) k in
    let w : Found again (suc n) (seek again (suc n)) = seek_found again (suc n) in
    let m : ℕ = seek again (suc n) in
    let l : m ≤ n = fresh-few f n m b w.before in
    let o : Top (same_router f m) m = highest-top (same_router f m) m (w.hit (omega arith)) in
    let q : seek (same_router f m) m < m = seek-below (same_router f m) m o.at o.below (omega (arith, o.is, w.hit (omega arith))) in
    record {
      upto = l;
      fresh = w.before;
      earlier = q;
      back = flag_same _ _ ((seek_found (same_router f m) m).hit q);
    }

repeated-at : (f : ℕ → ℕ) (n k : ℕ) → k < met_again_at f n - met_first_at f n → get_or (repeated_part f n) k 0 ≡ f (met_first_at f n + k)
unfolding repeated_part
repeated-at f n k l = get_or-tab (λ d. f (met_first_at f n + d)) (met_again_at f n - met_first_at f n) 0 k l

repeated-length : (f : ℕ → ℕ) (n : ℕ) → length (repeated_part f n) ≡ met_again_at f n - met_first_at f n
unfolding repeated_part
repeated-length f n = length-tab (λ d. f (met_first_at f n + d)) (met_again_at f n - met_first_at f n)

-- what a tour repeats is a cycle
pub repeated-is : (R C : Relation) (n : ℕ) (f : ℕ → ℕ) → Tour R C n f → IsCycle R C n (repeated_part f n)
repeated-is R C n f t = record {
  some = omega (arith, w, len);
  short = omega (arith, w, len);
  below = λ k l. rw (repeated-at f n k (omega (arith, len))) (t.below _);
  distinct = λ i k l m e.
      let q : f (p + i) ≡ f (p + k) = sym (repeated-at f n i (omega (arith, len))) ∙ e ∙ repeated-at f n k (omega (arith, len)) in
      omega (
        arith,
        flag_one _ _ q,
        w.fresh (p + k) (omega (arith, len)),
        highest-over (same_router f (p + k)) (p + k) (p + i) (omega arith),
      );
  onwards = λ k l.
      let e : p + (k + 1) ≡ suc (p + k) = omega arith in
      rw (repeated-at f n k (omega (arith, len)), repeated-at f n (k + 1) (omega (arith, len)), e) (t.related (p + k));
  closes =
      let e : f (suc (p + (length (repeated_part f n) - 1))) ≡ f (p + 0) = ap f (omega (arith, len, w)) ∙ sym w.back ∙ ap f (omega arith) in
      rw (repeated-at f n (length (repeated_part f n) - 1) (omega (arith, len, w)), repeated-at f n 0 (omega (arith, w)), ← e) (t.related _);
  group = λ i k l m. rw (repeated-at f n i (omega (arith, len)), repeated-at f n k (omega (arith, len))) (t.shares _ _);
}
  where
    p : ℕ
    p = met_first_at f n

    w : Repeated f n (met_first_at f n) (met_again_at f n)
    w = repeated-found f n t.below

    len : length (repeated_part f n) ≡ met_again_at f n - met_first_at f n
    len = repeated-length f n

-- "Suspect: the ring .."
pub cycle-is : (R : Relation) (n : ℕ) → stable (closure R n) n ≡ false → IsCycle R (closure R n) n (cycle R n)
unfolding cycle cycle_in
cycle-is R n u = repeated-is R (closure R n) n _ (tour R n u)

-- the cycle depends on the relations' values below n alone
start-cong : (C D : Relation) (n : ℕ) → Agree C D n → start C n ≡ start D n
unfolding start
start-cong C D n h = seek-cong _ _ n (grouped-cong C D n h)

next-cong : (R S C D : Relation) (n : ℕ) → Agree R S n → Agree C D n → (w : ℕ) → w < n → next R C n w ≡ next S D n w
unfolding next
next-cong R S C D n g h w l = seek-cong _ _ n (λ v m. ap₂ min (g w v l m) (together-cong C D n h w v l m))

pub trail-cong : (R S C D : Relation) (n : ℕ) → Agree R S n → Agree C D n → ((k : ℕ) → trail R C n k < n) → (k : ℕ) → trail R C n k ≡ trail S D n k
unfolding walk
trail-cong R S C D n g h b zero = start-cong C D n h
trail-cong R S C D n g h b (suc k) =
    next-cong R S C D n g h (trail R C n k) (b k) ∙ ap (next S D n) (trail-cong R S C D n g h b k)

pub cycle-in-cong : (R S C D : Relation) (n : ℕ) → Agree R S n → Agree C D n → ((k : ℕ) → trail R C n k < n) → cycle_in R C n ≡ cycle_in S D n
unfolding cycle_in
cycle-in-cong R S C D n g h b = ap (λ f. repeated_part f n) (fun_ext (trail-cong R S C D n g h b))

pub cycle-cong : (R S : Relation) (n : ℕ) → Agree R S n → stable (closure R n) n ≡ false → cycle R n ≡ cycle S n
unfolding cycle
cycle-cong R S n h u =
    cycle-in-cong R S (closure R n) (closure S n) n h (λ i j l m. ap (λ f. f i j) (closure-cong R S n h)) (tour R n u).below
