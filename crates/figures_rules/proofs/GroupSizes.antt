-- Groups counted from labels: as many routers are in groups of two or more as the sizes of these sum to.
use Prim.Native.Nat.{ℕ, ◌≤◌, ◌<◌}
use native.Mathlib.Omega.{arith}
use mathlib.Core.Path.{◌≡◌, refl, ◌∙◌, sym, ap}
use mathlib.Core.Bool.{Bool, true, false, cond, ◌&&◌, and-false}
use mathlib.Core.Logic.Iff
use mathlib.Core.Logic.{◌↔◌, ⊎_elim}
use lib.Dec.{leb, eqb}
use borrow.Author.Tests.{leb-true, le-leb, ne_eqb}
use Rattle.base.specs.Seek.{flag, count}
use Rattle.base.proofs.Numbers.{eq-or-ne}
use Rattle.base.proofs.Seek.{flag-yes, flag_same, flag_one, flag-none, count_less, count_no, count-cong, Nth, nth}
use Rattle.base.proofs.Tab.{get_or-tab}
use Rattle.graph_groups.specs.Closure.{closure}
use Rattle.graph_groups.specs.Groups.{label}
use Rattle.graph_groups.proofs.Sharing.{label-upto}
use Rattle.route_rules.specs.Instance.{Instance}
use Rattle.route_rules.specs.Reliance.{reliance}
use Rattle.steady_rules.specs.Steady.{grouped_in, LabelShared}
use Rattle.net_verdict.specs.Assessed.{labels_of}
use Rattle.steady_rules.proofs.Members.{shares-label}
use Rattle.figures_rules.specs.Sums.{group_size, size_from_two, group_sizes}
use Rattle.figures_rules.specs.Meaning.{label_of}
use Rattle.figures_rules.proofs.Sums.{total-cong, total-flags, total-counts, count-iff, count-one, count_at}

module _ (label : ℕ → ℕ) (n : ℕ) where
  -- w has label x
  abbrev has : ℕ → ℕ → ℕ
  has x w = flag (eqb (label w) x)

  size_is : (x : ℕ) → group_size label n x ≡ count (has x) n
  unfolding group_size
  size_is x = refl

  -- another router has the label of w exactly if two or more have it
  module _ (w : ℕ) (l : w < n) where
    two-of : LabelShared label n w → 2 ≤ group_size label n (label w)
    unfolding group_size
    two-of s =
        omega (
          arith,
          count-one w n l,
          count_less (λ v. flag (eqb w v)) (has (label w)) n s.other s.below (flag-none w s.other s.differs)
              (flag_one (label s.other) (label w) (sym s.shares))
              (λ v o h. flag_one (label v) (label w) (ap label (sym (flag_same w v h)))),
        )

    other : {k : ℕ} (x : Nth (has (label w)) n k) → (w ≡ x.at → ⊥) → LabelShared label n w
    other x d = record { other = x.at; below = x.below; differs = d; shares = sym (flag_same (label x.at) (label w) x.yes) }

    of_two : 2 ≤ group_size label n (label w) → LabelShared label n w
    unfolding group_size
    of_two h =
        let first : Nth (has (label w)) n 0 = nth (has (label w)) n 0 (omega arith) in
        let second : Nth (has (label w)) n 1 = nth (has (label w)) n 1 (omega arith) in
        ⊎_elim
        (λ (e : first.at ≡ w). other second (λ d. omega (arith, ap (count (has (label w))) (e ∙ d), first.before, second.before)))
        (λ (d : first.at ≡ w → ⊥). other first (λ e. d (sym e)))
        (eq-or-ne first.at w)

    pub shares-two : LabelShared label n w ↔ (1 ≤ flag (leb 2 (group_size label n (label w))))
    shares-two =
        (λ s. rw (le-leb 2 _ (two-of s)) (omega arith), λ h. of_two (leb-true 2 _ (flag-yes _ h)))

  -- x is the label of w, and of two or more
  abbrev large : ℕ → ℕ → ℕ
  large w x = flag (leb 2 (group_size label n x) && eqb (label w) x)

  -- such routers by their label, and by themselves
  by-label : (x : ℕ) → size_from_two (group_size label n x) ≡ count (λ w. large w x) n
  by-label x = go (leb 2 (group_size label n x)) (size_is x)
    where
      go : (b : Bool) → group_size label n x ≡ count (has x) n
          → cond b (group_size label n x) 0 ≡ count (λ w. flag (b && eqb (label w) x)) n
      go true e = e
      go false e = sym (count_no (λ w. 0) n (λ w l. refl))

  by-router : (w : ℕ) → label w < n → count (large w) n ≡ flag (leb 2 (group_size label n (label w)))
  by-router w l =
      count-cong (large w) (λ x. flag (leb 2 (group_size label n (label w)) && eqb (label w) x)) n (λ x o. same x)
      ∙ count_at (leb 2 (group_size label n (label w))) (label w) n (λ e. l)
    where
      same : (x : ℕ) → large w x ≡ flag (leb 2 (group_size label n (label w)) && eqb (label w) x)
      same x =
          ⊎_elim (λ (e : label w ≡ x). ap (λ y. flag (leb 2 (group_size label n y) && eqb (label w) x)) (sym e))
          (λ (d : label w ≡ x → ⊥).
          rw (ne_eqb (label w) x d)
          (ap flag (and-false (leb 2 (group_size label n x)) ∙ sym (and-false (leb 2 (group_size label n (label w)))))))
          (eq-or-ne (label w) x)

  -- the routers that share their label are as many as the sizes of the groups of two or more sum to
  pub sizes-count : (g : ℕ → ℕ) → ((w : ℕ) → w < n → label w < n) → ((w : ℕ) → w < n → (1 ≤ g w) ↔ LabelShared label n w)
      → count g n ≡ group_sizes label n
  unfolding group_sizes
  sizes-count g below shares =
      count-iff g (λ w. flag (leb 2 (group_size label n (label w)))) n (λ w l. Iff.trans (shares w l) (shares-two w l))
      ∙ sym (total-flags (λ w. leb 2 (group_size label n (label w))) n)
      ∙ total-cong _ _ n (λ w l. sym (by-router w (below w l)))
      ∙ sym (total-counts large n n)
      ∙ total-cong _ _ n (λ x l. sym (by-label x))

-- what depends on the labels of the n routers alone
module _ (label other : ℕ → ℕ) (n : ℕ) (h : (w : ℕ) → w < n → label w ≡ other w) where
  pub size-cong : (g : ℕ) → group_size label n g ≡ group_size other n g
  unfolding group_size
  size-cong g = count-cong _ _ n (λ w l. ap (λ x. flag (eqb x g)) (h w l))

  pub sizes-cong : group_sizes label n ≡ group_sizes other n
  unfolding group_sizes
  sizes-cong = total-cong _ _ n (λ g l. ap size_from_two (size-cong g))

-- of a network: as many routers are in groups of two or more as the sizes of these sum to, by the verdict's labels
module _ (I : Instance) where
  label-of : (w : ℕ) → w < I.n → label_of I w ≡ label (closure (reliance I) I.n) w
  unfolding labels_of
  label-of w l = get_or-tab (label (closure (reliance I) I.n)) I.n 0 w l

  pub grouped-shares : (w : ℕ) → w < I.n → (1 ≤ grouped_in I w) ↔ LabelShared (label_of I) I.n w
  grouped-shares w l = (there, back)
    where
      there : 1 ≤ grouped_in I w → LabelShared (label_of I) I.n w
      there h =
          let s = (shares-label I w l).0 h in
          record {
            other = s.other;
            below = s.below;
            differs = s.differs;
            shares = label-of w l ∙ s.shares ∙ sym (label-of s.other s.below);
          }

      back : LabelShared (label_of I) I.n w → 1 ≤ grouped_in I w
      back s =
          (shares-label I w l).1 (record {
            other = s.other;
            below = s.below;
            differs = s.differs;
            shares = sym (label-of w l) ∙ s.shares ∙ label-of s.other s.below;
          })

  pub grouped-sizes : count (grouped_in I) I.n ≡ group_sizes (label_of I) I.n
  grouped-sizes =
      sizes-count (label_of I) I.n (grouped_in I)
      (λ w l. omega (arith, label-of w l, label-upto (closure (reliance I) I.n) w)) grouped-shares
