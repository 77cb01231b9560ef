-- Groups: sharing one is an equivalence, the label is the lowest of a group, and what stable means.
use Prim.Native.Nat.{ℕ, ◌≤◌, ◌<◌, min, max}
use native.Mathlib.Omega.{arith}
use mathlib.Core.Path.{◌≡◌, refl, sym, ap, ap₂}
use mathlib.Core.Bool.{true, not}
use mathlib.Core.Logic.{◌⊎◌, inl, inr, ⊎_elim, ◌↔◌}
use lib.Dec.{eqb}
use borrow.Author.Tests.{eqb-true, eq-eqb, ne_eqb}
use Rattle.base.specs.Below.{all_below}
use Rattle.base.specs.Seek.{flag, seek}
use Rattle.base.specs.Tab.{tab}
use Rattle.base.proofs.Tab.{tab-cong}
use Rattle.base.proofs.Below.{all-at, all-intro, all-cong}
use Rattle.base.proofs.Seek.{flag_same, flag_one, seek_found, seek-cong, scan-miss, Top, highest-top, highest-over, highest-cong}
use Rattle.base.proofs.Numbers.{lt-or-le}
use Rattle.base.specs.Elimination.{Agree}
use Rattle.graph_groups.specs.Closure.{Relation, closure, Chain, step, more, Returns, AllReturn, Irreflexive, Acyclic}
use Rattle.graph_groups.specs.Groups.{together, label, stable, grouped}
use Rattle.graph_groups.proofs.Reaching.{closure-is, closure-related, closure-trans}

-- another router in the group of i
pub record Other (C : Relation) (n i : ℕ) : Type 0 where
  pub at : ℕ
  pub below : at < n
  pub differs : i ≡ at → ⊥
  pub shares : 1 ≤ together C i at

module _ (C : Relation) where
  pub together-cases : (i j : ℕ) → 1 ≤ together C i j → (i ≡ j) ⊎ ((1 ≤ C i j) × (1 ≤ C j i))
  unfolding together
  together-cases i j h =
      ⊎_elim (λ (l : 0 < flag (eqb i j)). inl (flag_same i j l)) (λ (l : flag (eqb i j) ≤ 0). inr (omega arith))
      (lt-or-le 0 (flag (eqb i j)))

  pub together-self : (i j : ℕ) → i ≡ j → 1 ≤ together C i j
  unfolding together
  together-self i j e = omega (arith, flag_one i j e)

  pub together-both : (i j : ℕ) → 1 ≤ C i j → 1 ≤ C j i → 1 ≤ together C i j
  unfolding together
  together-both i j g h = omega arith

  pub together-sym : (i j : ℕ) → 1 ≤ together C i j → 1 ≤ together C j i
  together-sym i j h =
      ⊎_elim (λ (e : i ≡ j). together-self j i (sym e)) (λ (b : (1 ≤ C i j) × (1 ≤ C j i)). together-both j i b.1 b.0)
      (together-cases i j h)

  -- "A group's label is its lowest number."
  pub label-upto : (i : ℕ) → label C i ≤ i
  unfolding label
  label-upto i = (seek_found (together C i) i).upto

  pub label-shares : (i : ℕ) → 1 ≤ together C i (label C i)
  unfolding label
  label-shares i =
      ⊎_elim (λ (l : seek (together C i) i < i). (seek_found (together C i) i).hit l)
      (λ (l : i ≤ seek (together C i) i). together-self i _ (omega (arith, (seek_found (together C i) i).upto)))
      (lt-or-le (seek (together C i) i) i)

  pub label-lowest : (i j : ℕ) → 1 ≤ together C i j → label C i ≤ j
  unfolding label
  label-lowest i j h =
      ⊎_elim (λ (l : j < seek (together C i) i). absurd (omega (arith, (seek_found (together C i) i).before j l)))
      (λ (l : seek (together C i) i ≤ j). l)
      (lt-or-le j (seek (together C i) i))

  -- a router that does not reach itself shares its group with no other
  pub alone : (n i j : ℕ) → Returns C n i → C i i ≡ 0 → j < n → (i ≡ j → ⊥) → together C i j ≡ 0
  alone n i j h e l d =
      ⊎_elim (λ (o : 0 < together C i j).
      ⊎_elim (λ (q : i ≡ j). absurd (d q)) (λ (b : (1 ≤ C i j) × (1 ≤ C j i)). absurd (omega (arith, h j l b.0 b.1))) (together-cases i j o))
      (λ (o : together C i j ≤ 0). omega arith)
      (lt-or-le 0 (together C i j))

  pub label-alone : (i : ℕ) → Returns C i i → C i i ≡ 0 → i ≡ label C i
  unfolding label
  label-alone i h e =
      scan-miss (together C i) i i (record { upto = omega arith; none = λ d l. alone i i d h e l (λ q. omega arith) }) (omega arith)

  -- "Stable: every group has one router."
  pub stable-groups : (n : ℕ) → (stable C n ≡ true) ↔ ((i j : ℕ) → i < n → j < n → 1 ≤ together C i j → i ≡ j)
  unfolding stable
  stable-groups n = (single, all)
    where
      single : all_below (λ i. eqb (label C i) i) n ≡ true → (i j : ℕ) → i < n → j < n → 1 ≤ together C i j → i ≡ j
      single s i j l m h =
          let a : label C i ≡ i = eqb-true _ _ (all-at _ n s i l) in
          let b : label C j ≡ j = eqb-true _ _ (all-at _ n s j m) in
          omega (arith, label-lowest i j h, label-lowest j i (together-sym i j h))

      all : ((i j : ℕ) → i < n → j < n → 1 ≤ together C i j → i ≡ j) → all_below (λ i. eqb (label C i) i) n ≡ true
      all f =
          all-intro _ n (λ i l.
          eq-eqb _ _ (sym (f i (label C i) l (omega (arith, label-upto i)) (label-shares i))))

  -- whoever is in a group of two or more shares it with another router, and the other way round
  other-cases : (i j : ℕ) → 1 ≤ min (flag (not (eqb i j))) (together C i j) → i ≡ j → ⊥
  other-cases i j h e = let z : flag (not (eqb i j)) ≡ 0 = rw (eq-eqb i j e) in omega arith

  pub grouped-other : (n i : ℕ) → 1 ≤ grouped C n i → Other C n i
  unfolding grouped
  grouped-other n i h =
      let o : Top (λ j. min (flag (not (eqb i j))) (together C i j)) n = highest-top _ n h in
      record { at = o.at; below = o.below; differs = other-cases i o.at (omega (arith, o.is)); shares = omega (arith, o.is) }

  pub grouped-by : (n i j : ℕ) → j < n → (i ≡ j → ⊥) → 1 ≤ together C i j → 1 ≤ grouped C n i
  unfolding grouped
  grouped-by n i j l e h =
      let z : flag (not (eqb i j)) ≡ 1 = rw (ne_eqb i j e) in
      omega (arith, highest-over (λ k. min (flag (not (eqb i k))) (together C i k)) n j l)

-- the same of the closure of a relation
module _ (R : Relation) (n : ℕ) where
  pub together-trans : (i k j : ℕ) → i < n → k < n → j < n
      → 1 ≤ together (closure R n) i k → 1 ≤ together (closure R n) k j → 1 ≤ together (closure R n) i j
  together-trans i k j l m o g h =
      ⊎_elim (λ (e : i ≡ k). rw e h)
      (λ (a : (1 ≤ closure R n i k) × (1 ≤ closure R n k i)).
      ⊎_elim (λ (e : k ≡ j). rw e at g)
      (λ (b : (1 ≤ closure R n k j) × (1 ≤ closure R n j k)).
      together-both (closure R n) i j (closure-trans R n i k j l m o a.0 b.0) (closure-trans R n j k i o m l b.1 a.1))
      (together-cases (closure R n) k j h))
      (together-cases (closure R n) i k g)

  -- a router that reaches itself shares its group with another, and the other way round
  loop-other : Irreflexive R n → (i : ℕ) → i < n → {j : ℕ} → j ≡ i → Chain R n i j → Other (closure R n) n i
  loop-other q i l e (step h) = absurd (omega (arith, q i l, rw e at h))
  loop-other q i l e (more {k = k} m h c) =
      let back : 1 ≤ closure R n k i = (closure-is R n k i m l).1 (rw e at c) in
      record {
        at = k;
        below = m;
        differs = λ g. omega (arith, q i l, rw (sym g) at h);
        shares = together-both (closure R n) i k (closure-related R n i k l m h) back;
      }

  other-loop : (i : ℕ) → i < n → Other (closure R n) n i → 1 ≤ closure R n i i
  other-loop i l o =
      ⊎_elim (λ (e : i ≡ o.at). absurd (o.differs e))
      (λ (b : (1 ≤ closure R n i o.at) × (1 ≤ closure R n o.at i)). closure-trans R n i o.at i l o.below l b.0 b.1)
      (together-cases (closure R n) i o.at o.shares)

  -- demand 2: stable exactly if no router reaches itself by a chain
  pub stable-chains : Irreflexive R n → (stable (closure R n) n ≡ true) ↔ ((i : ℕ) → i < n → Chain R n i i → ⊥)
  stable-chains q = (none, all)
    where
      none : stable (closure R n) n ≡ true → (i : ℕ) → i < n → Chain R n i i → ⊥
      none s i l c =
          let o = loop-other q i l refl c in
          o.differs ((stable-groups (closure R n) n).0 s i o.at l o.below o.shares)

      all : ((i : ℕ) → i < n → Chain R n i i → ⊥) → stable (closure R n) n ≡ true
      all f =
          (stable-groups (closure R n) n).1 (λ i j l m h.
          ⊎_elim (λ (e : i ≡ j). e)
          (λ (b : (1 ≤ closure R n i j) × (1 ≤ closure R n j i)).
          absurd (f i l ((closure-is R n i i l l).0 (closure-trans R n i j i l m l b.0 b.1))))
          (together-cases (closure R n) i j h))

  pub stable-acyclic : Irreflexive R n → stable (closure R n) n ≡ true → Acyclic R n
  stable-acyclic q s i l =
      ⊎_elim (λ (h : 0 < closure R n i i). absurd ((stable-chains q).0 s i l ((closure-is R n i i l l).0 h)))
      (λ (h : closure R n i i ≤ 0). omega arith)
      (lt-or-le 0 (closure R n i i))

  -- the closure's rows as the loops over them ask
  pub closure-returns : (D : Relation) → Agree D (closure R n) n → AllReturn D n
  closure-returns D h i l j m a b =
      omega (arith, h i i l l, closure-trans R n i j i l m l (omega (arith, h i j l m)) (omega (arith, h j i m l)))

-- what depends on a closed relation's values below n alone
module _ (C D : Relation) (n : ℕ) (h : Agree C D n) where
  pub together-cong : Agree (together C) (together D) n
  unfolding together
  together-cong i j l m = ap₂ (λ a b. max (flag (eqb i j)) (min a b)) (h i j l m) (h j i m l)

  pub label-cong : (i : ℕ) → i < n → label C i ≡ label D i
  unfolding label
  label-cong i l = seek-cong _ _ i (λ j m. together-cong i j l (omega arith))

  pub labels-cong : tab (label C) n ≡ tab (label D) n
  labels-cong = tab-cong (label C) (label D) n label-cong

  pub stable-cong : stable C n ≡ stable D n
  unfolding stable
  stable-cong = all-cong _ _ n (λ i l. ap (λ x. eqb x i) (label-cong i l))

  pub grouped-cong : (i : ℕ) → i < n → grouped C n i ≡ grouped D n i
  unfolding grouped
  grouped-cong i l = highest-cong _ _ n (λ j m. ap (min (flag (not (eqb i j)))) (together-cong i j l m))

-- "in a group of two or more": exactly the routers that reach themselves
pub closure-grouped : (R D : Relation) (n : ℕ) → Irreflexive R n → Agree D (closure R n) n → (i : ℕ) → i < n → (1 ≤ D i i) ↔ (1 ≤ grouped D n i)
closure-grouped R D n q h i l = (there, back)
  where
    there : 1 ≤ D i i → 1 ≤ grouped D n i
    there r =
        let o = loop-other R n q i l refl ((closure-is R n i i l l).0 (omega (arith, h i i l l))) in
        omega (arith, grouped-by (closure R n) n i o.at o.below o.differs o.shares, grouped-cong D (closure R n) n h i l)

    back : 1 ≤ grouped D n i → 1 ≤ D i i
    back g = omega (arith, h i i l l, other-loop R n i l (grouped-other (closure R n) n i (omega (arith, grouped-cong D (closure R n) n h i l))))
