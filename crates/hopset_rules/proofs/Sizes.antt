-- Sets of routers and their numbers: which routers a number's set has, and how many.
use Prim.Native.Nat.{ℕ, zero, suc, ◌+◌, ◌≤◌, ◌<◌, min}
use native.Mathlib.Omega.{arith}
use mathlib.Core.Path.{◌≡◌, refl, ◌∙◌, sym, ap}
use mathlib.Core.Bool.{Bool, true, false, ◌&&◌, and-false}
use mathlib.Core.Logic.{⊎_elim}
use borrow.Author.Tests.{lt-ltb, le-ltb, ltb-true}
use lib.Dec.{ltb}
use Rattle.base.specs.Bits.{bit_n}
use Rattle.base.specs.Seek.{flag, count}
use Rattle.base.proofs.Numbers.{lt-or-le, both_left, both_right}
use Rattle.base.proofs.Seek.{flag-yes, count_none, count-suc, count-mono, count-cong}
use Rattle.base.proofs.SetBits.{bit-flag, bit-none}
use Rattle.route_rules.specs.Instance.{Instance}
use Rattle.steady_rules.specs.Numbers.{bit_at, number_of}
use Rattle.steady_rules.specs.Steady.{grouped_in, grouped_routers, bit_of, GroupedRouter}
use Rattle.steady_rules.proofs.Members.{grouped-router}
use Rattle.steady_rules.proofs.Numbers.{number_bit}
use Rattle.hopset_rules.specs.HopSet.{set_of, reflectors_in}

-- a test of the i-th yes of g, of each of them, counts as the test of i does
count-placed : (g : ℕ → ℕ) (p : ℕ → Bool) (n : ℕ) → count (λ w. flag (ltb 0 (g w) && p (count g w))) n ≡ count (λ i. flag (p i)) (count g n)
count-placed g p zero = count_none _ ∙ sym (ap (count (λ i. flag (p i))) (count_none g) ∙ count_none (λ i. flag (p i)))
count-placed g p (suc n) = count-suc f n ∙ ⊎_elim (counted (count-placed g p n)) (skipped (count-placed g p n)) (lt-or-le 0 (g n))
  where
    f : ℕ → ℕ
    f w = flag (ltb 0 (g w) && p (count g w))

    counted : count f n ≡ count (λ i. flag (p i)) (count g n) → 0 < g n → count f n + min 1 (f n) ≡ count (λ i. flag (p i)) (count g (suc n))
    counted before l =
        let here : f n ≡ flag (p (count g n)) = ap (λ b. flag (b && p (count g n))) (lt-ltb 0 (g n) l) in
        let next : count g (suc n) ≡ suc (count g n) = omega (arith, count-suc g n) in
        rw next (omega (arith, here, before, count-suc (λ i. flag (p i)) (count g n)))

    skipped : count f n ≡ count (λ i. flag (p i)) (count g n) → g n ≤ 0 → count f n + min 1 (f n) ≡ count (λ i. flag (p i)) (count g (suc n))
    skipped before l =
        let here : f n ≡ 0 = ap (λ b. flag (b && p (count g n))) (le-ltb 0 (g n) l) in
        let same : count g (suc n) ≡ count g n = omega (arith, count-suc g n) in
        rw same (omega (arith, here, before))

module _ (I : Instance) where
  pub set-grouped : (x w : ℕ) → 1 ≤ grouped_in I w → set_of I x w ≡ bit_at x (bit_of I w)
  unfolding set_of
  set-grouped x w g = ap (λ b. b && bit_at x (bit_of I w)) (lt-ltb 0 (grouped_in I w) g)

  pub in_group : (x w : ℕ) → set_of I x w ≡ true → 1 ≤ grouped_in I w
  unfolding set_of
  in_group x w h = ltb-true 0 (grouped_in I w) (both_left (ltb 0 (grouped_in I w)) _ h)

  pub set-none : (w : ℕ) → set_of I 0 w ≡ false
  unfolding set_of
  set-none w = ⊎_elim (λ (g : 0 < grouped_in I w). set-grouped 0 w g ∙ bit-none (bit_of I w))
      (λ (g : grouped_in I w ≤ 0). ap (λ b. b && bit_at 0 (bit_of I w)) (le-ltb 0 (grouped_in I w) g))
      (lt-or-le 0 (grouped_in I w))

  pub drawn : (x w : ℕ) → w < I.n → set_of I x w ≡ true → (1 ≤ grouped_in I w) × GroupedRouter I w
  drawn x w l h = (in_group x w h, grouped-router I w l (in_group x w h))

  -- the number of a set
  abbrev pub number_for : (ℕ → Bool) → ℕ
  number_for set = number_of (grouped_in I) I.n set

  pub number-set : (set : ℕ → Bool) (w : ℕ) → w < I.n → set_of I (number_for set) w ≡ (ltb 0 (grouped_in I w) && set w)
  unfolding set_of
  number-set set w l =
      ⊎_elim (λ (g : 0 < grouped_in I w). ap (◌&&◌ (ltb 0 (grouped_in I w))) (number_bit (grouped_in I) I.n set w l g))
      (λ (g : grouped_in I w ≤ 0). rw (le-ltb 0 (grouped_in I w) g))
      (lt-or-le 0 (grouped_in I w))

  -- all routers of a set are reflectors
  set-reflects : (x w : ℕ) → w < I.n → flag (I.reflector w && set_of I x w) ≡ flag (set_of I x w)
  set-reflects x w l = go (set_of I x w) refl
    where
      go : (b : Bool) → set_of I x w ≡ b → flag (I.reflector w && set_of I x w) ≡ flag (set_of I x w)
      go true e = rw (e, (drawn x w l e).1.reflector)
      go false e = rw e (ap flag (and-false (I.reflector w)))

  set-count : (x : ℕ) → count (λ w. flag (set_of I x w)) I.n ≡ count (λ i. flag (bit_at x i)) (grouped_routers I)
  unfolding set_of
  set-count x = count-placed (grouped_in I) (bit_at x) I.n

  pub set-size : (x : ℕ) → reflectors_in I (set_of I x) ≡ count (bit_n x) (grouped_routers I)
  unfolding reflectors_in
  set-size x =
      count-cong _ _ I.n (set-reflects x) ∙ set-count x ∙ count-cong _ _ (grouped_routers I) (λ i l. sym (bit-flag x i))

  -- cut down to the groups, a set has no more reflectors
  pub number_size : (set : ℕ → Bool) → reflectors_in I (set_of I (number_for set)) ≤ reflectors_in I set
  unfolding reflectors_in
  number_size set =
      count-mono _ _ I.n
      (λ w l h.
      let both = flag-yes _ h in
      let here : set w ≡ true = both_right (ltb 0 (grouped_in I w)) (set w) (sym (number-set set w l) ∙ both_right (I.reflector w) _ both) in
      rw (both_left (I.reflector w) _ both, here) (omega arith))
