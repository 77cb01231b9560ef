-- The loop that follows a walk and keeps its path.
use Prim.Native.Nat.{ℕ, suc, ◌+◌, ◌-◌, ◌≤◌, ◌<◌}
use native.Mathlib.Numerals.{add-one}
use native.Mathlib.Omega.{arith}
use mathlib.Core.Path.{◌≡◌, refl, ◌∙◌, sym, ap, ap₂}
use mathlib.Core.List.{List, ◌++◌}
use borrow.Author.Count.{below_more}
use lib.Dec.{eqb}
use lib.ListN.{length, get_or, drop, set, length-set}
use lib.Seq.{get_or-set_same, get_or-set_other}
use Rattle.base.specs.Seek.{flag, seek, highest}
use Rattle.base.proofs.Seek.{Found, seek_found, found-is, seek-cong, highest-over, highest-under}
use Rattle.base.specs.Tab.{tab}
use Rattle.base.proofs.Tab.{length-tab, tab-cong}
use Rattle.base.specs.Elimination.{Agree}
use Rattle.graph_groups.specs.Closure.{Relation, closure}
use Rattle.graph_groups.proofs.Sharing.{closure-grouped}
use Rattle.graph_cycle.specs.Cycle.{next, walk, trail, same_router, met_again_at, met_first_at, repeated_part, cycle_in, cycle, CycleAsked}
use Rattle.graph_cycle.specs.Follow.{Stays, FollowAsked, Followed}
use Rattle.graph_cycle.proofs.Walking.{Fresh, fresh-few, tour, Repeated, repeated-found, trail-cong, cycle-in-cong}

pub trail-next : (R C : Relation) (n k : ℕ) → trail R C n (k + 1) ≡ next R C n (trail R C n k)
unfolding walk
trail-next R C n k = ap (trail R C n) (add-one k)

-- the walk f is at w after k steps, its path is kept, and `met` is where it was at w before, k if it was not
pub record Follows (f : ℕ → ℕ) (n : ℕ) (path : List ℕ) (w k met : ℕ) : Type 0 where
  pub small : n ≤ 64
  pub below : (i : ℕ) → f i < n
  pub long : length path ≡ 64
  pub here : w ≡ f k
  pub kept : (i : ℕ) → i < k → get_or path i 0 ≡ f i
  pub fresh : Fresh f k
  pub met_is : met ≡ seek (same_router f k) k

module _ (f : ℕ → ℕ) (n : ℕ) where
  pub follows-start : (path : List ℕ) (w : ℕ) → n ≤ 64 → ((i : ℕ) → f i < n) → length path ≡ 64 → w ≡ f 0 → Follows f n path w 0 0
  follows-start path w s b l e = record {
    small = s;
    below = b;
    long = l;
    here = e;
    kept = λ i h. absurd (omega arith);
    fresh = λ i h. absurd (omega arith);
    met_is = omega (arith, (seek_found (same_router f 0) 0).upto);
  }

  -- at a router met for the first time there is room for one more
  fresh-more : (path : List ℕ) (w k met : ℕ) → Follows f n path w k met → met ≡ k → Fresh f (k + 1)
  fresh-more path w k met g e =
      below_more _ k g.fresh
      (let z : highest (same_router f k) k ≤ 0
      = highest-under (same_router f k) k 0 (λ i h. omega (arith, (seek_found (same_router f k) k).before i (omega (arith, g.met_is)))) in
      omega arith)

  pub follows-room : (path : List ℕ) (w k met : ℕ) → Follows f n path w k met → met ≡ k → k < n
  follows-room path w k met g e = omega (arith, fresh-few f n (k + 1) g.below (fresh-more path w k met g e))

  pub follows-below : (path : List ℕ) (w k met : ℕ) → Follows f n path w k met → w < n
  follows-below path w k met g = omega (arith, g.here, g.below k)

  pub follows-more : (path : List ℕ) (w k met v next-met : ℕ) → Follows f n path w k met → met ≡ k → v ≡ f (k + 1)
      → next-met ≡ seek (λ i. flag (eqb (get_or (set path k w) i 0) v)) (k + 1)
      → Follows f n (set path k w) v (k + 1) next-met
  follows-more path w k met v next-met g e h q = record {
    small = g.small;
    below = g.below;
    long = length-set path k w ∙ g.long;
    here = h;
    kept = kept;
    fresh = fresh-more path w k met g e;
    met_is = q ∙ seek-cong _ _ (k + 1) (λ i o. ap₂ (λ x y. flag (eqb x y)) (kept i o) h);
  }
    where
      room : k < length path
      room = omega (arith, follows-room path w k met g e, g.small, g.long)

      kept : (i : ℕ) → i < k + 1 → get_or (set path k w) i 0 ≡ f i
      kept =
          below_more _ k (λ i o. get_or-set_other path k i w 0 (λ d. omega arith) ∙ g.kept i o)
          (get_or-set_same path k w 0 room ∙ g.here)

  pub follows-done : (path : List ℕ) (w k met : ℕ) → Follows f n path w k met → (met ≡ k → ⊥) → Followed f n path met k
  unfolding met_first_at met_again_at
  follows-done path w k met g e =
      let s : Found (same_router f k) k (seek (same_router f k) k) = seek_found (same_router f k) k in
      let l : seek (same_router f k) k < k = omega (arith, g.met_is, s.upto) in
      let m : k ≡ met_again_at f n
      = sym (found-is (λ i. highest (same_router f i) i) (suc n) k (record {
        upto = omega (arith, fresh-few f n k g.below g.fresh);
        before = g.fresh;
        hit = λ o. omega (arith, s.hit l, highest-over (same_router f k) k (seek (same_router f k) k) l);
      })) in
      record { starts = g.met_is ∙ ap (λ i. seek (same_router f i) i) m; ends = m; kept = g.kept }

-- what the caller of the loop needs
module _ (R D : Relation) (n : ℕ) (out : List ℕ) (a : CycleAsked R D n out) where
  bounded : (k : ℕ) → trail R (closure R n) n k < n
  bounded = (tour R n a.suspect).below

  agreed : Agree (closure R n) D n
  agreed i j l m = sym (a.closed i j l m)

  stays : Stays R D n
  stays k = rw (trail-cong R R (closure R n) D n (λ i j l m. refl) agreed bounded k) at (bounded k)

  pub follow-asked : (path : List ℕ) → length path ≡ 64 → FollowAsked R D n path
  follow-asked path e =
      record { small = a.small; long = e; stays = stays; within = a.within; loops = closure-grouped R D n a.irreflexive a.closed }

  pub followed-part : (path : List ℕ) (from upto : ℕ) → Followed (trail R D n) n path from upto → (from < upto) × (upto ≤ n)
  followed-part path from upto w =
      let l : Repeated (trail R D n) n (met_first_at (trail R D n) n) (met_again_at (trail R D n) n) = repeated-found (trail R D n) n stays in
      omega (arith, w.starts, w.ends, l.earlier, l.upto)

  followed-cycle : (path : List ℕ) (from upto : ℕ) → Followed (trail R D n) n path from upto
      → tab (λ d. get_or path (from + d) 0) (upto - from) ≡ cycle R n
  unfolding cycle cycle_in repeated_part
  followed-cycle path from upto w =
      tab-cong _ (λ d. trail R D n (from + d)) (upto - from) (λ d o. w.kept (from + d) (omega (arith, followed-part path from upto w)))
      ∙ ap₂ (λ p m. tab (λ d. trail R D n (p + d)) (m - p)) w.starts w.ends
      ∙ sym (cycle-in-cong R R (closure R n) D n (λ i j l m. refl) agreed bounded)

  pub followed-written : (path l : List ℕ) (from upto : ℕ) → Followed (trail R D n) n path from upto
      → l ≡ tab (λ d. get_or path (from + d) 0) (upto - from) ++ drop (upto - from) out
      → (upto - from ≡ length (cycle R n)) × (l ≡ cycle R n ++ drop (upto - from) out)
  followed-written path l from upto w e =
      let q : tab (λ d. get_or path (from + d) 0) (upto - from) ≡ cycle R n = followed-cycle path from upto w in
      (sym (length-tab _ (upto - from)) ∙ ap length q, e ∙ ap (λ t. t ++ drop (upto - from) out) q)
