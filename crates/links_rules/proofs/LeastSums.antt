-- The computed sums are the least over all walks.
use Prim.Native.Nat.{ℕ, zero, suc, ◌+◌, ◌≤◌, ◌<◌}
use native.Mathlib.Omega.{arith}
use native.Mathlib.Nat.{zero-add, add_assoc}
use mathlib.Core.Path.{◌≡◌, refl, ◌∙◌, sym, ap, subst}
use mathlib.Core.Bool.{Bool, true, false, cond, ◌&&◌}
use mathlib.Core.List.{List}
use mathlib.Core.Option.{Option, none, some}
use mathlib.Core.Logic.{◌⊎◌, inl, inr, ⊎_elim}
use borrow.Author.Tests.{eq-eqb, eqb-true}
use lib.Dec.{eqb}
use Rattle.base.proofs.Elimination.{Parts, Measure, has-direct, has-onward, has-path}
use Rattle.base.proofs.Numbers.{both_left, both_right, lt-or-le, eq-or-ne}
use Rattle.links_rules.specs.Sheet.{link_count, link_from, link_to, link_weight}
use Rattle.links_rules.specs.Walks.{Walk, stay, along, sum, LeastIs}
use Rattle.links_rules.specs.Sums.{lesser, plus, least_of, direct, summing, least_sums}

-- there is a sum, and it is at most t
abbrev Within : Option ℕ → ℕ → Type 0
Within none t = ⊥
Within (some d) t = d ≤ t

within_more : (x : Option ℕ) (t u : ℕ) → t ≤ u → Within x t → Within x u
within_more none t u l h = elim h [ ]
within_more (some d) t u l h = omega arith

lesser-left : (x y : Option ℕ) (t : ℕ) → Within x t → Within (lesser x y) t
lesser-left none y t h = elim h [ ]
lesser-left (some a) none t h = h
lesser-left (some a) (some b) t h = omega arith

lesser-right : (x y : Option ℕ) (t : ℕ) → Within y t → Within (lesser x y) t
lesser-right none none t h = elim h [ ]
lesser-right none (some b) t h = h
lesser-right (some a) none t h = elim h [ ]
lesser-right (some a) (some b) t h = omega arith

lesser-cases : (x y : Option ℕ) (t : ℕ) → Within (lesser x y) t → Within x t ⊎ Within y t
lesser-cases none y t h = inr h
lesser-cases (some a) none t h = inl h
lesser-cases (some a) (some b) t h = ⊎_elim (λ (l : t < a). inr (omega arith)) inl (lt-or-le t a)

plus-within : (x y : Option ℕ) (a b : ℕ) → Within x a → Within y b → Within (plus x y) (a + b)
plus-within none y a b g h = elim g [ ]
plus-within (some c) none a b g h = elim h [ ]
plus-within (some c) (some d) a b g h = omega arith

plus-parts : (x y : Option ℕ) (t : ℕ) → Within (plus x y) t → Parts Within x y t
plus-parts none y t h = elim h [ ]
plus-parts (some a) none t h = elim h [ ]
plus-parts (some a) (some b) t h = record { first = a; second = b; left = omega arith; right = omega arith; both = h }

within : Measure least_of Within
within = record {
  longer = within_more;
  one = lesser-left;
  other = lesser-right;
  cases = lesser-cases;
  join = plus-within;
  split = plus-parts;
}

-- a walk with the given sum
pub record HasWalk (s : List ℕ) (i j d : ℕ) : Type 0 where
  pub walk : Walk s i j
  pub has : sum walk ≡ d

-- one walk after another
pub walk-on : {s : List ℕ} {i k j d : ℕ} (w : Walk s i k) → HasWalk s k j d → HasWalk s i j (sum w + d)
unfolding sum
walk-on {s} {i} {k} {j} {d} (stay e) h = let g : HasWalk s i j d = rw e h in rw zero-add g
walk-on {s} {d = d} (along l b e w) h =
    let r = walk-on w h in
    record { walk = along l b e r.walk; has = ap (λ x. link_weight s l + x) r.has ∙ sym (add_assoc (link_weight s l) (sum w) d) }

-- a walk with at most the given sum
record WalkWithin (s : List ℕ) (i j t : ℕ) : Type 0 where
  walk : Walk s i j
  most : sum walk ≤ t

within_on : {s : List ℕ} {i k j a b : ℕ} → WalkWithin s i k a → WalkWithin s k j b → WalkWithin s i j (a + b)
within_on v w =
    let r = walk-on v.walk (record { walk = w.walk; has = refl }) in
    record { walk = r.walk; most = omega (arith, r.has, v.most, w.most) }

module _ (s : List ℕ) where
  -- every walk of no link or of one
  direct-walk : (m : ℕ) → m ≤ link_count s → (i j t : ℕ) → Within (direct s m i j) t → WalkWithin s i j t
  unfolding direct sum
  direct-walk zero b i j t h = go (eqb i j) refl h
    where
      go : (q : Bool) → eqb i j ≡ q → Within (cond q (some 0) none) t → WalkWithin s i j t
      go true q g = record { walk = stay (eqb-true i j q); most = omega arith }
      go false q g = absurd g
  direct-walk (suc m) b i j t h =
      ⊎_elim (direct-walk m (omega arith) i j t) (go (eqb (link_from s m) i && eqb (link_to s m) j) refl)
      (lesser-cases (direct s m i j) _ t h)
    where
      go : (q : Bool) → (eqb (link_from s m) i && eqb (link_to s m) j) ≡ q → Within (cond q (some (link_weight s m)) none) t → WalkWithin s i j t
      go true q g =
          let f : link_from s m ≡ i = eqb-true _ _ (both_left _ _ q) in
          let e : link_to s m ≡ j = eqb-true _ _ (both_right (eqb (link_from s m) i) _ q) in
          record { walk = along m b f (stay e); most = omega (arith, g) }
      go false q g = absurd g

  -- the walks of no link and of one
  direct-stay : (m i : ℕ) → Within (direct s m i i) 0
  unfolding direct
  direct-stay zero i = rw (eq-eqb i i refl) (omega arith)
  direct-stay (suc m) i = lesser-left (direct s m i i) _ 0 (direct-stay m i)

  direct-along : (m k : ℕ) → k < m → Within (direct s m (link_from s k) (link_to s k)) (link_weight s k)
  unfolding direct
  direct-along zero k l = absurd (omega arith)
  direct-along (suc m) k l = ⊎_elim last (λ q. lesser-left (direct s m (link_from s k) (link_to s k)) _ (link_weight s k) (direct-along m k (omega arith))) (eq-or-ne k m)
    where
      last : k ≡ m → Within (direct s (suc m) (link_from s k) (link_to s k)) (link_weight s k)
      last q =
          let f : eqb (link_from s m) (link_from s k) ≡ true = eq-eqb _ _ (ap (link_from s) (sym q)) in
          let t : eqb (link_to s m) (link_to s k) ≡ true = eq-eqb _ _ (ap (link_to s) (sym q)) in
          lesser-right (direct s m (link_from s k) (link_to s k)) _ (link_weight s k) (rw (f, t) (omega (arith, ap (link_weight s) q)))

module _ (s : List ℕ) (n : ℕ) where
  -- what is computed is a walk's sum
  some_walk : (i j t : ℕ) → i < n → j < n → Within (least_sums s n i j) t → WalkWithin s i j t
  unfolding summing
  some_walk =
      has-path least_of Within within (direct s (link_count s)) n (WalkWithin s)
      (λ i j t u l w. record { walk = w.walk; most = omega (arith, w.most) })
      (λ i j t l m. direct-walk s (link_count s) (omega arith) i j t)
      (λ i k j a b l v w. within_on v w)

  -- no walk has less, where the links are of routers below n
  module _ (froms : (k : ℕ) → k < link_count s → link_from s k < n) (tos : (k : ℕ) → k < link_count s → link_to s k < n) where
    none-less : {i j : ℕ} → i < n → j < n → (w : Walk s i j) → Within (least_sums s n i j) (sum w)
    unfolding sum summing
    none-less {i} {j} l m (stay e) =
        has-direct least_of Within within (direct s (link_count s)) n i j 0 l m
        (subst (λ x. Within (direct s (link_count s) i x) 0) e (direct-stay s (link_count s) i))
    none-less {i} {j} l m (along k b e w) =
        let first = has-direct least_of Within within (direct s (link_count s)) n _ _ (link_weight s k) (froms k b) (tos k b) (direct-along s (link_count s) k b) in
        has-onward least_of Within within (direct s (link_count s)) n i (link_to s k) j (link_weight s k) (sum w) l (tos k b) m (rw e at first) (none-less (tos k b) m w)

    pub least-sums : (i j : ℕ) → i < n → j < n → LeastIs s i j (least_sums s n i j)
    unfolding LeastIs
    least-sums i j l m = go (least_sums s n i j) refl
      where
        go : (x : Option ℕ) → least_sums s n i j ≡ x → LeastIs s i j x
        go none e = λ w. rw e at (none-less l m w)
        go (some d) e =
            let h = some_walk i j d l m (rw e (omega arith)) in
            let least : (w : Walk s i j) → d ≤ sum w = λ w. rw e at (none-less l m w) in
            record { walk = h.walk; has = omega (arith, h.most, least h.walk); least = least }
