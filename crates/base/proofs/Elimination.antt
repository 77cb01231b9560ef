-- Elimination over any path algebra: what each stage holds, and that the stages are sound and complete for paths measured by length.
use Prim.Native.Nat.{ℕ, zero, suc, ◌+◌, ◌≤◌, ◌<◌}
use native.Mathlib.Omega.{arith}
use mathlib.Core.Path.{◌≡◌, ◌∙◌, ap}
use mathlib.Core.List.{[]}
use mathlib.Core.Logic.{◌⊎◌, inl, inr, ⊎_elim}
use lib.ListN.{get_or}
use Rattle.base.specs.Tab.{tab}
use Rattle.base.specs.Elimination.{PathAlgebra, table, cell, through, eliminated, Agree}
use Rattle.base.proofs.Tab.{get_or-tab, tab-cong}
use Rattle.base.proofs.Numbers.{eq-or-ne}

module _ {A : Type 0} where
  cell-table : (z : A) (D : ℕ → ℕ → A) (n : ℕ) → Agree (cell z (table D n)) D n
  cell-table z D n i j l m = ap (λ row. get_or row j z) (get_or-tab (λ k. tab (D k) n) n [] i l) ∙ get_or-tab (D i) n z j m

  table-cong : (D E : ℕ → ℕ → A) (n : ℕ) → Agree D E n → table D n ≡ table E n
  table-cong D E n h = tab-cong _ _ n (λ i l. tab-cong (D i) (E i) n (λ j m. h i j l m))

  module _ (P : PathAlgebra A) where
    pub eliminated-cong : (D E : ℕ → ℕ → A) (n k : ℕ) → Agree D E n → eliminated P D n k ≡ eliminated P E n k
    eliminated-cong D E n zero h = table-cong D E n h
    eliminated-cong D E n (suc k) h = ap (λ t. table (through P (cell P.none t) k) n) (eliminated-cong D E n k h)

    module _ (D : ℕ → ℕ → A) (n : ℕ) where
      pub stage-none : Agree (cell P.none (eliminated P D n 0)) D n
      stage-none = cell-table P.none D n

      pub stage-more : (k : ℕ)
          → Agree (cell P.none (eliminated P D n (suc k))) (through P (cell P.none (eliminated P D n k)) k) n
      stage-more k = cell-table P.none (through P (cell P.none (eliminated P D n k)) k) n

-- lengths of two paths that make up a third of length t or less
pub record Parts {A : Type 0} (Within : A → ℕ → Type 0) (x y : A) (t : ℕ) : Type 0 where
  pub first : ℕ
  pub second : ℕ
  pub left : Within x first
  pub right : Within y second
  pub both : first + second ≤ t

-- `Within x t`: the value x says that there is a path of length t or less
pub record Measure {A : Type 0} (P : PathAlgebra A) (Within : A → ℕ → Type 0) : Type 0 where
  pub longer : (x : A) (t u : ℕ) → t ≤ u → Within x t → Within x u
  pub one : (x y : A) (t : ℕ) → Within x t → Within (P.either x y) t
  pub other : (x y : A) (t : ℕ) → Within y t → Within (P.either x y) t
  pub cases : (x y : A) (t : ℕ) → Within (P.either x y) t → Within x t ⊎ Within y t
  pub join : (x y : A) (a b : ℕ) → Within x a → Within y b → Within (P.onward x y) (a + b)
  pub split : (x y : A) (t : ℕ) → Within (P.onward x y) t → Parts Within x y t

module _ {A : Type 0} (P : PathAlgebra A) (Within : A → ℕ → Type 0) (measure : Measure P Within) where
  -- D obeys the triangle law at the numbers below k
  Triangle : (ℕ → ℕ → A) → ℕ → ℕ → Type 0
  Triangle D n k = (m i j a b : ℕ) → m < k → i < n → j < n → Within (D i m) a → Within (D m j) b → Within (D i j) (a + b)

  -- one more number
  module _ (D E : ℕ → ℕ → A) (n k : ℕ) (u : k < n) (e : Agree E (through P D k) n) where
    old : (i j t : ℕ) → i < n → j < n → Within (D i j) t → Within (E i j) t
    old i j t l m h = rw (e i j l m) (measure.one (D i j) (P.onward (D i k) (D k j)) t h)

    via : (i j a b t : ℕ) → i < n → j < n → a + b ≤ t → Within (D i k) a → Within (D k j) b → Within (E i j) t
    via i j a b t l m s g h =
        rw (e i j l m)
        (measure.longer _ (a + b) t s (measure.other (D i j) (P.onward (D i k) (D k j)) (a + b) (measure.join (D i k) (D k j) a b g h)))

    way : (i j t : ℕ) → i < n → j < n → Within (E i j) t → Within (D i j) t ⊎ Parts Within (D i k) (D k j) t
    way i j t l m h =
        ⊎_elim inl (λ (g : Within (P.onward (D i k) (D k j)) t). inr (measure.split (D i k) (D k j) t g))
        (measure.cases (D i j) (P.onward (D i k) (D k j)) t (rw (e i j l m) at h))

    through-triangle : Triangle D n k → Triangle E n (suc k)
    unfolding Triangle
    through-triangle t m i j a b c l p g h = ⊎_elim last (λ q. earlier (omega arith)) (eq-or-ne m k)
      where
        o : m < n
        o = omega arith

        left : Within (D i m) a ⊎ Parts Within (D i k) (D k m) a
        left = way i m a l o g

        right : Within (D m j) b ⊎ Parts Within (D m k) (D k j) b
        right = way m j b o p h

        last : m ≡ k → Within (E i j) (a + b)
        last q = via i j a b (a + b) l p (omega arith)
            (⊎_elim (λ (x : Within (D i m) a). rw q at x)
            (λ (x : Parts Within (D i k) (D k m) a). measure.longer _ x.first a (omega (arith, x.both)) x.left) left)
            (⊎_elim (λ (x : Within (D m j) b). rw q at x)
            (λ (x : Parts Within (D m k) (D k j) b). measure.longer _ x.second b (omega (arith, x.both)) x.right) right)

        earlier : m < k → Within (E i j) (a + b)
        earlier f =
            ⊎_elim
            (λ (x : Within (D i m) a).
            ⊎_elim (λ (y : Within (D m j) b). old i j (a + b) l p (t m i j a b f l p x y))
            (λ (y : Parts Within (D m k) (D k j) b).
            via i j (a + y.first) y.second (a + b) l p (omega (arith, y.both)) (t m i k a y.first f l u x y.left) y.right)
            right)
            (λ (x : Parts Within (D i k) (D k m) a).
            ⊎_elim
            (λ (y : Within (D m j) b).
            via i j x.first (x.second + b) (a + b) l p (omega (arith, x.both)) x.left (t m k j x.second b f u p x.right y))
            (λ (y : Parts Within (D m k) (D k j) b).
            via i j x.first y.second (a + b) l p (omega (arith, x.both, y.both)) x.left y.right)
            right)
            left

  -- the stages
  module _ (D : ℕ → ℕ → A) (n : ℕ) where
    abbrev stage : ℕ → ℕ → ℕ → A
    stage k = cell P.none (eliminated P D n k)

    stage-old : (k i j t : ℕ) → k ≤ n → i < n → j < n → Within (D i j) t → Within (stage k i j) t
    stage-old zero i j t u l m h = rw (stage-none P D n i j l m) h
    stage-old (suc k) i j t u l m h =
        old (stage k) (stage (suc k)) n k u (stage-more P D n k) i j t l m (stage-old k i j t (omega arith) l m h)

    stage-triangle : (k : ℕ) → k ≤ n → Triangle (stage k) n k
    unfolding Triangle
    stage-triangle zero u = λ m i j a b c. absurd (omega arith)
    stage-triangle (suc k) u =
        through-triangle (stage k) (stage (suc k)) n k u (stage-more P D n k) (stage-triangle k (omega arith))

    -- complete: the last stage has what D has, and one path and another onward from its end
    pub has-direct : (i j t : ℕ) → i < n → j < n → Within (D i j) t → Within (stage n i j) t
    has-direct i j t = stage-old n i j t (omega arith)

    pub has-onward : (i k j a b : ℕ) → i < n → k < n → j < n → Within (stage n i k) a → Within (stage n k j) b → Within (stage n i j) (a + b)
    unfolding Triangle
    has-onward i k j a b l m o = stage-triangle n (omega arith) k i j a b m l o

    -- sound: it has nothing else. `Path i j t` is a path from i to j of length t or less.
    module _ (Path : ℕ → ℕ → ℕ → Type 0) (longer : (i j t u : ℕ) → t ≤ u → Path i j t → Path i j u)
        (direct : (i j t : ℕ) → i < n → j < n → Within (D i j) t → Path i j t)
        (onward : (i k j a b : ℕ) → k < n → Path i k a → Path k j b → Path i j (a + b)) where
      stage-path : (k i j t : ℕ) → k ≤ n → i < n → j < n → Within (stage k i j) t → Path i j t
      stage-path zero i j t u l m h = direct i j t l m (rw (stage-none P D n i j l m) at h)
      stage-path (suc k) i j t u l m h =
          ⊎_elim (stage-path k i j t (omega arith) l m)
          (λ (w : Parts Within (stage k i k) (stage k k j) t).
          longer i j (w.first + w.second) t w.both
          (onward i k j w.first w.second u
          (stage-path k i k w.first (omega arith) l u w.left) (stage-path k k j w.second (omega arith) u m w.right)))
          (way (stage k) (stage (suc k)) n k u (stage-more P D n k) i j t l m h)

      pub has-path : (i j t : ℕ) → i < n → j < n → Within (stage n i j) t → Path i j t
      has-path i j t = stage-path n i j t (omega arith)
