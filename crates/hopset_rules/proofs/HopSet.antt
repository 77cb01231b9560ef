-- The number found is that of a smallest set, and of the lowest of these; some set always serves.
use Prim.Native.Nat.{ℕ, suc, ◌%◌, ◌^◌, ◌≤◌, ◌<◌}
use native.Mathlib.Omega.{arith}
use native.Mathlib.Nat.{zero-div}
use mathlib.Core.Path.{◌≡◌, refl, ◌∙◌, sym, ap}
use mathlib.Core.Bool.{Bool, true, ◌&&◌}
use mathlib.Core.Logic.{◌↔◌, ⊎_elim}
use borrow.Author.Tests.{lt-ltb, ltb-true, eq-eqb, eqb-true}
use lib.Dec.{ltb, eqb}
use Rattle.base.specs.Bits.{bit_n}
use Rattle.base.specs.Seek.{flag}
use Rattle.base.proofs.Numbers.{lt-or-le, both_left, both_right}
use Rattle.base.proofs.Seek.{flag-yes, Found, seek_found, seek-below, count-le, count_no}
use Rattle.graph_groups.specs.Closure.{closure}
use Rattle.graph_groups.specs.Groups.{stable}
use Rattle.route_rules.specs.Instance.{Instance}
use Rattle.route_rules.specs.Reliance.{reliance}
use Rattle.steady_rules.specs.Steady.{grouped_in, grouped_routers}
use Rattle.steady_rules.proofs.Numbers.{number-below}
use Rattle.hopset_rules.specs.HopSet.{serves, set_of, reflectors_in, serves_by, lowest_by, least_size, hop_set, Smallest, HopSet}
use Rattle.hopset_rules.proofs.Serving.{serves-left, all-serve, serves-alike, within-groups, none-serves, left_is}
use Rattle.hopset_rules.proofs.Sizes.{set-none, drawn, number_for, number-set, set-size, number_size}

module _ (I : Instance) where
  -- how many reflectors the set of a number has
  abbrev size : ℕ → ℕ
  size x = reflectors_in I (set_of I x)

  by-own : (x : ℕ) → serves I (set_of I x) ≡ true → serves_by I (size x) x ≡ true
  unfolding serves_by
  by-own x s = cc (eq-eqb (size x) (size x) refl)

  -- a number that serves bounds the lowest of its size, and the least size
  lowest-upto : (x : ℕ) → x < 2 ^ grouped_routers I → serves I (set_of I x) ≡ true → lowest_by I (size x) < 2 ^ grouped_routers I
  unfolding lowest_by
  lowest-upto x l s = seek-below _ (2 ^ grouped_routers I) x l (rw (by-own x s) (omega arith))

  least-found : Found (λ s. flag (ltb (lowest_by I s) (2 ^ grouped_routers I))) (suc (grouped_routers I)) (least_size I)
  unfolding least_size
  least-found = seek_found _ (suc (grouped_routers I))

  size-upto : (x : ℕ) → size x ≤ grouped_routers I
  size-upto x = omega (arith, set-size I x, count-le (bit_n x) (grouped_routers I))

  least-upto : (x : ℕ) → x < 2 ^ grouped_routers I → serves I (set_of I x) ≡ true → least_size I ≤ size x
  least-upto x l s =
      ⊎_elim (λ (h : size x < least_size I).
      absurd (omega (arith, least-found.before (size x) h, ap flag (lt-ltb _ (2 ^ grouped_routers I) (lowest-upto x l s)))))
      (λ (h : least_size I ≤ size x). h)
      (lt-or-le (size x) (least_size I))

  -- all routers in groups of two or more serve
  always : serves I (λ w. ltb 0 (grouped_in I w)) ≡ true
  always = all-serve I _ (λ w l g. lt-ltb 0 (grouped_in I w) g)

  number_lt : (set : ℕ → Bool) → number_for I set < 2 ^ grouped_routers I
  number_lt set = number-below (grouped_in I) I.n set

  number-serves : (set : ℕ → Bool) → serves I (set_of I (number_for I set)) ≡ serves I set
  number-serves set =
      serves-alike I (set_of I (number_for I set)) set
      (λ w l g. number-set I set w l ∙ ap (λ b. b && set w) (lt-ltb 0 (grouped_in I w) g))

  -- so there is a least size, and a lowest number of it
  least-below : least_size I < suc (grouped_routers I)
  least-below =
      let x = number_for I (λ w. ltb 0 (grouped_in I w)) in
      omega (arith, size-upto x, least-upto x (number_lt _) (number-serves _ ∙ always))

  pub hop-below : hop_set I < 2 ^ grouped_routers I
  unfolding hop_set
  hop-below = ltb-true _ _ (flag-yes _ (least-found.hit least-below))

  hop-found : Found (λ x. flag (serves_by I (least_size I) x)) (2 ^ grouped_routers I) (hop_set I)
  unfolding hop_set lowest_by
  hop-found = seek_found _ (2 ^ grouped_routers I)

  hop-serves : (size (hop_set I) ≡ least_size I) × (serves I (set_of I (hop_set I)) ≡ true)
  unfolding serves_by
  hop-serves =
      let h = flag-yes _ (hop-found.hit hop-below) in
      (eqb-true _ _ (both_left _ (serves I (set_of I (hop_set I))) h), both_right (eqb (size (hop_set I)) (least_size I)) _ h)

  hop-lowest : (y : ℕ) → serves I (set_of I y) ≡ true → size y ≡ size (hop_set I) → hop_set I ≤ y
  hop-lowest y s e =
      ⊎_elim (λ (h : y < hop_set I).
      let by : serves_by I (least_size I) y ≡ true = ap (λ s. serves_by I s y) (sym (e ∙ hop-serves.0)) ∙ by-own y s in
      absurd (omega (arith, hop-found.before y h, ap flag by)))
      (λ (h : hop_set I ≤ y). h)
      (lt-or-le y (hop_set I))

  smallest : Smallest I (hop_set I)
  smallest =
      record {
        below = hop-below;
        serving = hop-serves.1;
        least = λ set s.
            omega (
              arith,
              hop-serves.0,
              least-upto (number_for I set) (number_lt set) (number-serves set ∙ s),
              number_size I set,
            );
        lowest = λ y l s e. hop-lowest y s e;
      }

  -- whoever is least among the numbers, and lowest, is that number
  pub hop-is : (x : ℕ) → x < 2 ^ grouped_routers I → serves I (set_of I x) ≡ true
      → ((y : ℕ) → y < 2 ^ grouped_routers I → serves I (set_of I y) ≡ true → size x ≤ size y)
      → ((y : ℕ) → y < 2 ^ grouped_routers I → serves I (set_of I y) ≡ true → size y ≡ size x → x ≤ y)
      → x ≡ hop_set I
  hop-is x l s least lowest =
      let same : size x ≡ size (hop_set I)
      = omega (arith, hop-serves.0, least-upto x l s, least (hop_set I) hop-below hop-serves.1) in
      omega (arith, lowest (hop_set I) hop-below hop-serves.1 (sym same), hop-lowest x s same)

  stable-zero : (hop_set I ≡ 0) ↔ (stable (closure (reliance I) I.n) I.n ≡ true)
  stable-zero = (there, back)
    where
      none : serves I (set_of I 0) ≡ stable (closure (reliance I) I.n) I.n
      none = none-serves I (set_of I 0) (set-none I)

      there : hop_set I ≡ 0 → stable (closure (reliance I) I.n) I.n ≡ true
      there e = sym none ∙ sym (ap (λ x. serves I (set_of I x)) e) ∙ hop-serves.1

      back : stable (closure (reliance I) I.n) I.n ≡ true → hop_set I ≡ 0
      back s =
          sym (hop-is 0 (omega (arith, hop-below)) (none ∙ s)
          (λ y l t. omega (arith, empty))
          (λ y l t e. omega arith))
        where
          empty : size 0 ≡ 0
          empty = set-size I 0 ∙ count_no (bit_n 0) (grouped_routers I) (λ i l. ap (λ x. x % 2) (zero-div (2 ^ i)))

  pub hop-set : HopSet I
  hop-set =
      record {
        smallest = smallest;
        one = λ x k. hop-is x k.below k.serving (λ y l. k.least (set_of I y)) k.lowest;
        drawn = drawn I;
        numbered = λ set. (number_for I set, number_lt set, number-set I set);
        size = set-size I;
        always = always;
        stable_list = stable-zero;
        within_groups = within-groups I;
        then = λ x w v l. left_is I (set_of I x) w v (λ h. (drawn I x w l h).1);
        no_cycle_left = serves-left I;
      }
