-- What the figures mean.
use Prim.Native.Nat.{ℕ, zero, suc, ◌+◌, ◌-◌, ◌≤◌, ◌<◌, min, max}
use native.Mathlib.Omega.{arith}
use mathlib.Core.Path.{◌≡◌, refl, ◌∙◌, ap, subst}
use mathlib.Core.Bool.{Bool, true, false, not, cond, ◌&&◌}
use mathlib.Core.Logic.Iff
use mathlib.Core.Logic.{◌↔◌, ⊎_elim}
use lib.Dec.{eqb}
use borrow.Author.Tests.{eqb-true, eq-eqb}
use Rattle.std.specs.Prelude.{Option, Some, None}
use Rattle.base.specs.Seek.{flag, count}
use Rattle.base.proofs.Numbers.{lt-or-le, eq-or-ne, both_left, both_right, not-both}
use Rattle.base.proofs.Seek.{flag-yes, highest-under, count_none, count-suc, count-le, Nth, nth}
use Rattle.graph_groups.specs.Closure.{closure, Acyclic}
use Rattle.graph_groups.specs.Groups.{together}
use Rattle.graph_groups.proofs.Sharing.{Other, grouped-other, grouped-by, stable-groups, stable-acyclic}
use Rattle.graph_ranks.specs.Rank.{rank}
use Rattle.graph_ranks.proofs.RankRule.{rank_below}
use Rattle.route_rules.specs.Instance.{Instance}
use Rattle.route_rules.specs.Reliance.{reliance}
use Rattle.steady_rules.specs.Steady.{grouped_in, LabelShared}
use Rattle.net_verdict.specs.Assessed.{is_stable, highest_of}
use Rattle.steady_rules.proofs.Members.{reliance-apart}
use Rattle.figures_rules.specs.Sums.{total, group_sizes}
use Rattle.figures_rules.specs.Figures.{stable_lists, suspect_lists, higher_of, highest_stable, stable_with, grouped_lists}
use Rattle.figures_rules.specs.Meaning.{label_of, IsHighest, GreatestCounted, EveryFiguresMean}
use Rattle.figures_rules.proofs.Sums.{total-cong, total-flags, total-counts, count-some, count_at}
use Rattle.figures_rules.proofs.GroupSizes.{grouped-shares, grouped-sizes}

-- of one network
module _ (I : Instance) where
  -- "each rank from 0 to n minus 1": the highest rank of a stable list is one of these
  pub highest-below : 1 ≤ I.n → is_stable I ≡ true → highest_of I < I.n
  unfolding is_stable highest_of
  highest-below one s =
      let acyclic : Acyclic (reliance I) I.n = stable-acyclic (reliance I) I.n (reliance-apart I) s in
      omega (
        arith,
        highest-under (rank (reliance I) I.n) I.n (I.n - 1) (λ w l. omega (arith, rank_below (reliance I) I.n acyclic w l)),
      )

  -- a list is stable exactly if no router is in a group of two or more
  pub stable-grouped : (is_stable I ≡ true) ↔ ((w : ℕ) → w < I.n → grouped_in I w ≡ 0)
  unfolding is_stable
  stable-grouped = (none, all)
    where
      single : (is_stable I ≡ true)
          ↔ ((i j : ℕ) → i < I.n → j < I.n → 1 ≤ together (closure (reliance I) I.n) i j → i ≡ j)
      single = stable-groups (closure (reliance I) I.n) I.n

      none : is_stable I ≡ true → (w : ℕ) → w < I.n → grouped_in I w ≡ 0
      none s w l =
          ⊎_elim (λ (h : 0 < grouped_in I w).
          let o : Other (closure (reliance I) I.n) I.n w = grouped-other (closure (reliance I) I.n) I.n w h in
          absurd (o.differs (single.0 s w o.at l o.below o.shares)))
          (λ (h : grouped_in I w ≤ 0). omega arith)
          (lt-or-le 0 (grouped_in I w))

      all : ((w : ℕ) → w < I.n → grouped_in I w ≡ 0) → is_stable I ≡ true
      all h =
          single.1 (λ i j l m t.
          ⊎_elim (λ (e : i ≡ j). e)
          (λ (d : i ≡ j → ⊥). absurd (omega (arith, h i l, grouped-by (closure (reliance I) I.n) I.n i j m d t)))
          (eq-or-ne i j))

-- a test and its opposite
one_of : (b : Bool) → min 1 (flag b) + min 1 (flag (not b)) ≡ 1
one_of true = refl
one_of false = refl

make-up : (p : ℕ → Bool) (m : ℕ) → count (λ k. flag (p k)) m + count (λ k. flag (not (p k))) m ≡ m
make-up p zero = omega (arith, count_none (λ k. flag (p k)), count_none (λ k. flag (not (p k))))
make-up p (suc m) =
    omega (arith, count-suc (λ k. flag (p k)) m, count-suc (λ k. flag (not (p k))) m, make-up p m, one_of (p m))

-- a stable list that has r as its highest rank
record HighestOfList (nets : ℕ → Instance) (m r : ℕ) : Type 0 where
  pub list : ℕ
  pub below : list < m
  pub stable : is_stable (nets list) ≡ true
  pub is : highest_of (nets list) ≡ r

module _ (nets : ℕ → Instance) where
  -- what the highest rank among the lists below m says
  Says : ℕ → Option ℕ → Type 0
  Says m None = (k : ℕ) → k < m → is_stable (nets k) ≡ false
  Says m (Some r) = IsHighest nets m r

  -- one suspect list more
  says-suspect : (m : ℕ) (h : Option ℕ) → is_stable (nets m) ≡ false → Says m h → Says (suc m) h
  unfolding Says
  says-suspect m None s w = λ k l.
      ⊎_elim (λ (e : k ≡ m). ap (λ j. is_stable (nets j)) e ∙ s) (λ (d : k ≡ m → ⊥). w k (omega arith)) (eq-or-ne k m)
  says-suspect m (Some r) s w =
      record {
        list = w.list;
        below = omega (arith, w.below);
        stable = w.stable;
        is = w.is;
        most = λ k l t.
            ⊎_elim (λ (e : k ≡ m). not-both _ t (ap (λ j. is_stable (nets j)) e ∙ s)) (λ (d : k ≡ m → ⊥). w.most k (omega arith) t)
            (eq-or-ne k m);
      }

  -- one stable list more
  says-stable : (m : ℕ) (h : Option ℕ) → is_stable (nets m) ≡ true → Says m h → Says (suc m) (higher_of h (highest_of (nets m)))
  unfolding Says
  says-stable m None s w =
      record {
        list = m;
        below = omega arith;
        stable = s;
        is = refl;
        most = λ k l t.
            ⊎_elim (λ (e : k ≡ m). omega (arith, ap (λ j. highest_of (nets j)) e))
            (λ (d : k ≡ m → ⊥). not-both _ t (w k (omega arith)))
            (eq-or-ne k m);
      }
  says-stable m (Some r) s w = ⊎_elim new old (lt-or-le r (highest_of (nets m)))
    where
      most : (k : ℕ) → k < suc m → is_stable (nets k) ≡ true → highest_of (nets k) ≤ max r (highest_of (nets m))
      most k l t =
          ⊎_elim (λ (e : k ≡ m). omega (arith, ap (λ j. highest_of (nets j)) e))
          (λ (d : k ≡ m → ⊥). omega (arith, w.most k (omega arith) t))
          (eq-or-ne k m)

      new : r < highest_of (nets m) → IsHighest nets (suc m) (max r (highest_of (nets m)))
      new l = record { list = m; below = omega arith; stable = s; is = omega arith; most = most }

      old : highest_of (nets m) ≤ r → IsHighest nets (suc m) (max r (highest_of (nets m)))
      old l = record { list = w.list; below = omega (arith, w.below); stable = w.stable; is = omega (arith, w.is); most = most }

  says : (m : ℕ) → Says m (highest_stable nets m)
  unfolding highest_stable Says
  says zero = λ k l. absurd (omega arith)
  says (suc m) = go (is_stable (nets m)) refl (says m)
    where
      go : (b : Bool) → is_stable (nets m) ≡ b → Says m (highest_stable nets m)
          → Says (suc m) (cond b (higher_of (highest_stable nets m) (highest_of (nets m))) (highest_stable nets m))
      go true s w = says-stable m (highest_stable nets m) s w
      go false s w = says-suspect m (highest_stable nets m) s w

  -- one rank alone is the highest, and where some list is stable there is one
  one-highest : (m r s : ℕ) → IsHighest nets m r → IsHighest nets m s → r ≡ s
  one-highest m r s v w =
      omega (
        arith,
        v.most w.list w.below w.stable,
        w.most v.list v.below v.stable,
        v.is,
        w.is,
      )

  module _ (m : ℕ) where
    highest-is : (r : ℕ) → (highest_stable nets m ≡ Some r) ↔ IsHighest nets m r
    unfolding Says
    highest-is r = (λ e. rw e at (says m), λ w. back (highest_stable nets m) (says m) w)
      where
        back : (h : Option ℕ) → Says m h → IsHighest nets m r → h ≡ Some r
        back None v w = not-both _ w.stable (v w.list w.below)
        back (Some s) v w = ap Some (one-highest m s r v w)

    absent-is : (highest_stable nets m ≡ None) ↔ ((k : ℕ) → k < m → is_stable (nets k) ≡ false)
    unfolding Says
    absent-is = (λ e. rw e at (says m), λ w. back (highest_stable nets m) (says m) w)
      where
        back : (h : Option ℕ) → Says m h → ((k : ℕ) → k < m → is_stable (nets k) ≡ false) → h ≡ None
        back None v w = refl
        back (Some s) v w = not-both _ v.stable (w v.list v.below)

    -- a rank is counted exactly if some stable list has it as its highest
    abbrev at-rank : ℕ → ℕ → ℕ
    at-rank r k = flag (is_stable (nets k) && eqb (highest_of (nets k)) r)

    counts : (r k : ℕ) → k < m → is_stable (nets k) ≡ true → highest_of (nets k) ≡ r → 1 ≤ stable_with nets m r
    unfolding stable_with
    counts r k l s e = count-some (at-rank r) m k l (rw (s, eq-eqb _ _ e) (omega arith))

    counted-list : (r : ℕ) → 1 ≤ stable_with nets m r → HighestOfList nets m r
    unfolding stable_with
    counted-list r h =
        let k : Nth (at-rank r) m 0 = nth (at-rank r) m 0 h in
        let t : (is_stable (nets k.at) && eqb (highest_of (nets k.at)) r) ≡ true = flag-yes _ k.yes in
        record { list = k.at; below = k.below; stable = both_left _ _ t; is = eqb-true _ _ (both_right (is_stable (nets k.at)) _ t) }

    greatest : (r : ℕ) → IsHighest nets m r ↔ GreatestCounted (stable_with nets m) r
    greatest r = (there, back)
      where
        there : IsHighest nets m r → GreatestCounted (stable_with nets m) r
        there w =
            record {
              counted = counts r w.list w.below w.stable w.is;
              most = λ s h.
                  let k = counted-list s h in
                  omega (arith, w.most k.list k.below k.stable, k.is);
            }

        back : GreatestCounted (stable_with nets m) r → IsHighest nets m r
        back g =
            let k = counted-list r g.counted in
            record {
              list = k.list;
              below = k.below;
              stable = k.stable;
              is = k.is;
              most = λ j l s. g.most _ (counts _ j l s refl);
            }

    -- with no stable list no rank is counted, and the other way round
    uncounted-is : (highest_stable nets m ≡ None) ↔ ((r : ℕ) → stable_with nets m r ≡ 0)
    unfolding Says
    uncounted-is = (there, λ none. back (highest_stable nets m) (says m) none)
      where
        there : highest_stable nets m ≡ None → (r : ℕ) → stable_with nets m r ≡ 0
        there e r =
            ⊎_elim (λ (h : 0 < stable_with nets m r).
            let k = counted-list r h in
            not-both _ k.stable (absent-is.0 e k.list k.below))
            (λ (h : stable_with nets m r ≤ 0). omega arith)
            (lt-or-le 0 (stable_with nets m r))

        back : (h : Option ℕ) → Says m h → ((r : ℕ) → stable_with nets m r ≡ 0) → h ≡ None
        back None v none = refl
        back (Some s) v none = absurd (omega (arith, none s, counts s v.list v.below v.stable v.is))

    -- where every list has the same n routers
    module _ (n : ℕ) (one : 1 ≤ n) (same : (k : ℕ) → k < m → (nets k).n ≡ n) where
      below : (k : ℕ) → k < m → is_stable (nets k) ≡ true → highest_of (nets k) < n
      below k l s = omega (arith, same k l, highest-below (nets k) (omega (arith, same k l)) s)

      rank-sum : total (stable_with nets m) n ≡ stable_lists nets m
      unfolding stable_with stable_lists
      rank-sum =
          total-counts (λ k r. at-rank r k) n m
          ∙ total-cong _ _ m (λ k l. count_at (is_stable (nets k)) (highest_of (nets k)) n (below k l))
          ∙ total-flags (λ k. is_stable (nets k)) m

      router-sum : total (grouped_lists nets m) n ≡ total (λ k. group_sizes (label_of (nets k)) n) m
      unfolding grouped_lists
      router-sum =
          total-counts (λ k w. grouped_in (nets k) w) n m
          ∙ total-cong _ _ m (λ k l.
          subst (λ x. count (grouped_in (nets k)) x ≡ group_sizes (label_of (nets k)) x) (same k l) (grouped-sizes (nets k)))

pub figures-mean : EveryFiguresMean
unfolding stable_lists suspect_lists stable_with grouped_lists
figures-mean nets n m one same =
    record {
      make_up = make-up (λ k. is_stable (nets k)) m;
      ranks_below = below nets m n one same;
      rank_sum = rank-sum nets m n one same;
      router_sum = router-sum nets m n one same;
      grouped = λ k w l o.
          subst (λ x. (1 ≤ grouped_in (nets k) w) ↔ LabelShared (label_of (nets k)) x w) (same k l)
          (grouped-shares (nets k) w (omega (arith, same k l)));
      stable = λ k l.
          subst (λ x. (is_stable (nets k) ≡ true) ↔ ((w : ℕ) → w < x → grouped_in (nets k) w ≡ 0)) (same k l) (stable-grouped (nets k));
      highest = highest-is nets m;
      counted = λ r. Iff.trans (highest-is nets m r) (greatest nets m r);
      absent = absent-is nets m;
      uncounted = uncounted-is nets m;
      ranks_fit = λ r. count-le _ m;
      routers_fit = λ w. count-le _ m;
    }
