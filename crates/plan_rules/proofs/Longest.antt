-- How long a plan can be by its other rows: as long as row 1 allows. So what a plan is converted to is not too long.
use Prim.Native.Nat.{ℕ, zero, suc, ◌+◌, ◌*◌, ◌-◌, ◌≤◌, ◌<◌}
use native.Mathlib.Nat.{mul_comm, mul-suc, suc-mul, mul-le-mul_left, mul-le-mul_right}
use native.Mathlib.Omega.{arith}
use mathlib.Core.Path.{◌≡◌, refl, ap}
use mathlib.Core.List.{List}
use mathlib.Core.Logic.{⊎_elim}
use lib.ListN.{length}
use Rattle.base.proofs.Numbers.{eq-or-ne, square_le}
use Rattle.plan_contents.specs.Header.{router_count}
use Rattle.plan_contents.specs.Contents.{contents_of, sessions_entry, lists_entry, sessions_body, lists_body}
use Rattle.plan_contents.specs.HeaderFacts.{RouterCount, Contents}
use Rattle.plan_contents.proofs.Places.{bodies-within, body-length}
use Rattle.plan_rules.specs.Rising.{PairBefore}
use Rattle.plan_rules.specs.Sessions.{session_count, session_first, session_second}
use Rattle.plan_rules.specs.Lists.{list_count_in, list_place}
use Rattle.plan_rules.specs.BodyFacts.{Sessions, Lists}

-- how many pairs of numbers below k there are, the first below the second
pair_count : ℕ → ℕ
pair_count zero = 0
pair_count (suc k) = pair_count k + k

pairs-more : (j k : ℕ) → j ≤ k → pair_count j ≤ pair_count k
unfolding pair_count
pairs-more j zero l = let e : j ≡ 0 = omega arith in rw e (omega arith)
pairs-more j (suc k) l =
    ⊎_elim (λ (e : j ≡ suc k). rw e (omega arith)) (λ (e : j ≡ suc k → ⊥). omega (arith, pairs-more j k (omega arith)))
    (eq-or-ne j (suc k))

pairs-twice : (k : ℕ) → pair_count k + pair_count k + k ≡ k * k
unfolding pair_count
pairs-twice zero = refl
pairs-twice (suc k) = omega (arith, pairs-twice k, suc-mul k (suc k), mul-suc k k)

-- those with one first number, and those with later ones
pairs-from : (n first : ℕ) → first < n → pair_count (n - first) ≡ pair_count (n - suc first) + (n - suc first)
unfolding pair_count
pairs-from n first l = let e : n - first ≡ suc (n - suc first) = omega arith in rw e

-- pairs that rise strictly are no more than there are
module _ (f g : ℕ → ℕ) (n m : ℕ) (below : (j : ℕ) → j < m → g j < n) (ordered : (j : ℕ) → j < m → f j < g j)
    (rising : (i j : ℕ) → i < j → j < m → PairBefore f g i j) where
  -- pair j stands after j others
  pairs-before : (j : ℕ) → j < m → j + 1 + f j + pair_count (n - f j) ≤ pair_count n + g j
  pairs-before zero l = omega (arith, ordered 0 l, pairs-more (n - f 0) n (omega arith))
  pairs-before (suc j) l =
      let before = pairs-before j (omega arith) in
      let within = below j (omega arith) in
      let order = ordered j (omega arith) in
      ⊎_elim
      (λ (h : f j < f (suc j)).
      omega (
        arith,
        ordered (suc j) l,
        pairs-from n (f j) (omega arith),
        pairs-more (n - f (suc j)) (n - suc (f j)) (omega arith),
      ))
      (λ (h : (f j ≡ f (suc j)) × (g j < g (suc j))). omega (arith, ap (λ x. pair_count (n - x)) h.0))
      (rising j (suc j) (omega arith) l)

  pairs-most : m ≤ pair_count n
  pairs-most =
      ⊎_elim (λ (e : m ≡ 0). omega arith)
      (λ (e : m ≡ 0 → ⊥).
      let last : m - 1 < m = omega arith in
      omega (
        arith,
        pairs-before (m - 1) last,
        below (m - 1) last,
        ordered (m - 1) last,
        pairs-from n (f (m - 1)) (omega (arith, below (m - 1) last, ordered (m - 1) last)),
      ))
      (eq-or-ne m 0)

-- the lists of a body: each has at most n numbers and its count byte
module _ (s : List ℕ) (n : ℕ) (lists : Lists s n) where
  place-most : (k : ℕ) → k ≤ list_count_in s → list_place s k ≤ 1 + k * (n + 1)
  unfolding list_place
  place-most zero l = omega arith
  place-most (suc k) l =
      omega (arith, place-most k (omega arith), (lists.lists k (omega arith)).most, suc-mul k (n + 1))

  lists-most : length s ≤ 65 + 64 * n
  lists-most =
      omega (
        arith,
        place-most (list_count_in s) (omega arith),
        lists.filled,
        mul-le-mul_right (n + 1) lists.most,
      )

-- 16,731 bytes with distances of 2 bytes, 24,923 with those of 4
pub length_most : (plan : List ℕ) (width : ℕ) → RouterCount (router_count plan)
    → Contents (contents_of plan) width (router_count plan) (length plan)
    → Sessions (sessions_body plan) (router_count plan) → Lists (lists_body plan) (router_count plan)
    → length plan ≤ 8539 + 4096 * width
length_most plan width count contents sessions lists =
    let n = router_count plan in
    let inside = bodies-within _ _ _ _ contents in
    omega (
      arith,
      body-length plan (sessions_entry (contents_of plan)) inside.sessions,
      body-length plan (lists_entry (contents_of plan)) inside.lists,
      pairs-most (session_first (sessions_body plan)) (session_second (sessions_body plan)) n (session_count (sessions_body plan))
          sessions.below sessions.ordered sessions.rising,
      pairs-twice n,
      lists-most (lists_body plan) n lists,
      square_le n 64 count.most,
      mul-le-mul_left width (square_le n 64 count.most),
      mul_comm width 4096,
    )
