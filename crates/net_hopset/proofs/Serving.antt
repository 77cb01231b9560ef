-- Whether the set of a number serves, by the places that are left.
use Prim.Native.Nat.{ℕ, suc, ◌-◌, ◌^◌, ◌≤◌, ◌<◌, min}
use native.Mathlib.Omega.{arith}
use native.Mathlib.Nat.{lt_of_lt_of_le}
use mathlib.Core.Path.{◌≡◌, refl, ◌∙◌, sym, ap, ap₂}
use mathlib.Core.Bool.{true, false, not, ◌&&◌, ◌||◌, and-false, or-true}
use mathlib.Core.List.{List}
use mathlib.Core.Logic.{⊎_elim}
use borrow.Author.Tests.{eqb-true, eq-eqb, ne_eqb, not-true}
use lib.Bits.{bit_or, bit_and, or_lt, or_add_and, and_le_l, and_le_r}
use lib.Count.{count_trailing_zeros}
use lib.Dec.{eqb}
use lib.ListN.{get_or}
use lib.Pow.{pow-lt, pow_mono}
use Rattle.base.specs.Bits.{bit_n}
use Rattle.base.specs.BitWalk.{from_bit, LowestBit}
use Rattle.base.specs.Seek.{flag, seek}
use Rattle.base.proofs.BitLaws.{bit_past}
use Rattle.base.proofs.BitSeek.{Seeking, seeking-start, seeking-miss, seeking-below, seeking-set, seeking-hit, seeking-more}
use Rattle.base.proofs.BitWalk.{lowest-is}
use Rattle.base.proofs.Numbers.{lt-or-le, eq-or-ne, both_left, both_right, not-both, true-or-false}
use Rattle.base.proofs.Seek.{flag-yes, Found, seek_found}
use Rattle.base.proofs.SetBits.{bit-none, bit-with, set-and, set-less}
use Rattle.route_rules.specs.Instance.{Instance}
use Rattle.route_rules.specs.Reliance.{relies}
use Rattle.steady_rules.specs.Numbers.{bit_at, nth_of}
use Rattle.steady_rules.specs.Steady.{grouped_in, bit_of}
use Rattle.steady_rules.proofs.Numbers.{count-lt, nth-is, nth-count}
use Rattle.hopset_rules.specs.HopSet.{serves, set_of}
use Rattle.hopset_rules.proofs.Serving.{all-serve, free-serves, none_free}
use Rattle.hopset_rules.proofs.Sizes.{set-grouped}
use Rattle.net_steady.specs.Building.{in_set}
use Rattle.net_hopset.specs.Places.{is_free, Places, Tried}

-- a word that is not 0 has a set bit
some-bit : (k x : ℕ) → x < 2 ^ k → (x ≡ 0 → ⊥) → (i : ℕ) × (i < k) × (bit_at x i ≡ true)
some-bit k x l d =
    let low = lowest-is k x (omega (arith, d)) l in
    (count_trailing_zeros k x, low.1, eq-eqb _ 1 low.0.set)

-- a word with a bit more is higher
pub higher : (x i : ℕ) → bit_at x i ≡ false → x < bit_or x (2 ^ i)
higher x i e =
    ⊎_elim (λ (q : bit_or x (2 ^ i) ≡ x).
    not-both (bit_at (bit_or x (2 ^ i)) i) (bit-with x i i ∙ ap (◌||◌ (bit_at x i)) (eq-eqb i i refl) ∙ or-true (bit_at x i)) (ap (λ y. bit_at y i) q ∙ e))
    (λ (q : bit_or x (2 ^ i) ≡ x → ⊥). omega (arith, or_add_and x (2 ^ i), and_le_r x (2 ^ i)))
    (eq-or-ne (bit_or x (2 ^ i)) x)

-- a number with a bit for at most 12 places
pub number_small : (k x : ℕ) → k ≤ 12 → x < 2 ^ k → x < 4096
number_small k x h l = lt_of_lt_of_le l (pow_mono h)

pub with-place : (k x i : ℕ) → x < 2 ^ k → i < k → bit_or x (2 ^ i) < 2 ^ k
with-place k x i b l = or_lt k x (2 ^ i) b (pow-lt l)

-- no place from k on is left
pub left_below : (k all x left : ℕ) → all < 2 ^ k → ((j : ℕ) → bit_n left j ≡ min (bit_n all j) (1 - bit_n x j)) → (u : ℕ) → bit_n left u ≡ 1 → u < k
left_below k all x left fits without u h =
    ⊎_elim (λ (l : u < k). l) (λ (l : k ≤ u). absurd (omega (arith, without u, bit_past k all u fits l))) (lt-or-le u k)

-- a free place is one of those left
pub free-below : (rows : List ℕ) (k all x left : ℕ) → all < 2 ^ k → ((j : ℕ) → bit_n left j ≡ min (bit_n all j) (1 - bit_n x j))
    → (i : ℕ) → is_free (get_or rows i 0) left i ≡ true → i < k
free-below rows k all x left fits without i free =
    left_below k all x left fits without i (eqb-true (bit_n left i) 1 (both_left (bit_at left i) _ free))

-- the search for a free place among those left
module _ (rows : List ℕ) (left : ℕ) where
  abbrev free : ℕ → ℕ
  free i = flag (is_free (get_or rows i 0) left i)

  abbrev pub FreeSought : ℕ → Type 0
  FreeSought unseen = Seeking free left 12 unseen

  pub sought-start : FreeSought left
  sought-start = seeking-start free left 12

  off : (i : ℕ) → bit_n left i ≡ 0 → free i ≡ 0
  off i h = ap (λ b. flag (b && eqb (bit_and (get_or rows i 0) left) 0)) (ne_eqb (bit_n left i) 1 (λ e. omega arith))

  module _ (unseen : ℕ) (w : FreeSought unseen) where
    pub sought-miss : unseen ≡ 0 → 12 ≡ seek free 12
    sought-miss = seeking-miss free left 12 off unseen w

    module _ (within : (u : ℕ) → bit_n left u ≡ 1 → u < 12) (v : ℕ) (low : LowestBit unseen v) where
      pub sought-below : v < 12
      sought-below = seeking-below free left 12 off unseen w within v low

      pub sought-hit : bit_and (get_or rows v 0) left ≡ 0 → v ≡ seek free 12
      sought-hit z =
          seeking-hit free left 12 off unseen w within v low
          (rw (eq-eqb (bit_n left v) 1 (seeking-set free left 12 off unseen w within v low), eq-eqb (bit_and (get_or rows v 0) left) 0 z) (omega arith))

      pub sought-more : (bit_and (get_or rows v 0) left ≡ 0 → ⊥) → (unseen' : ℕ) → unseen' ≡ from_bit unseen (suc v) → FreeSought unseen'
      sought-more d unseen' e =
          seeking-more free left 12 off unseen w within v low unseen' e
          (ap flag (ap (◌&&◌ (bit_at left v)) (ne_eqb (bit_and (get_or rows v 0) left) 0 d) ∙ and-false (bit_at left v)))

  -- what the search says
  module _ (i : ℕ) (e : i ≡ seek free 12) where
    found : Found free 12 i
    found = rw e (seek_found free 12)

    pub free-found : i < 12 → is_free (get_or rows i 0) left i ≡ true
    free-found l = flag-yes _ (found.hit l)

    pub free-none : i ≡ 12 → ((u : ℕ) → bit_n left u ≡ 1 → u < 12) → (j : ℕ) → is_free (get_or rows j 0) left j ≡ false
    free-none l within j =
        ⊎_elim (λ (h : is_free (get_or rows j 0) left j ≡ true).
        let m : j < 12 = within j (eqb-true _ 1 (both_left (bit_at left j) _ h)) in
        absurd (omega (arith, found.before j (omega arith), ap flag h)))
        (λ h. h)
        (true-or-false (is_free (get_or rows j 0) left j))

module _ (I : Instance) (rows : List ℕ) (k all : ℕ) (p : Places I rows k all) where
  -- the router of a place
  abbrev router : ℕ → ℕ
  router i = nth_of (grouped_in I) I.n i

  router-is : (i : ℕ) → i < k → (router i < I.n) × (1 ≤ grouped_in I (router i)) × (bit_of I (router i) ≡ i)
  router-is i l = nth-is (grouped_in I) I.n i (omega (arith, p.counted))

  pub place-below : (w : ℕ) → w < I.n → 1 ≤ grouped_in I w → bit_of I w < k
  place-below w l g = omega (arith, p.counted, count-lt (grouped_in I) w I.n l g)

  module _ (x left : ℕ) (without : (j : ℕ) → bit_n left j ≡ min (bit_n all j) (1 - bit_n x j)) where
    -- the places left are those outside the set
    left-bit : (w : ℕ) → w < I.n → 1 ≤ grouped_in I w → bit_at left (bit_of I w) ≡ not (set_of I x w)
    left-bit w l g =
        set-less all x (bit_of I w) left (without (bit_of I w))
        ∙ ap₂ (λ a b. a && not b) (p.every (bit_of I w) (place-below w l g)) (sym (set-grouped I x w g))

    left-outside : (w : ℕ) → w < I.n → 1 ≤ grouped_in I w → set_of I x w ≡ false → bit_at left (bit_of I w) ≡ true
    left-outside w l g e = left-bit w l g ∙ ap not e

    outside-left : (i : ℕ) → i < k → bit_at left i ≡ true → set_of I x (router i) ≡ false
    outside-left i l e =
        let r = router-is i l in
        not-true _ (sym (left-bit (router i) r.0 r.1) ∙ ap (bit_at left) r.2 ∙ e)

    place-left : (i : ℕ) → bit_at left i ≡ true → i < k
    place-left i e = left_below k all x left p.fits without i (eqb-true (bit_n left i) 1 e)

    pub none-left : left ≡ 0 → serves I (set_of I x) ≡ true
    none-left e = all-serve I (set_of I x) (λ w l g.
        ⊎_elim (λ (q : set_of I x w ≡ true). q)
        (λ (q : set_of I x w ≡ false).
        not-both (bit_at left (bit_of I w)) (left-outside w l g q) (ap (λ y. bit_at y (bit_of I w)) e ∙ bit-none (bit_of I w)))
        (true-or-false (set_of I x w)))

    -- a place left whose row has none of those left
    module _ (i : ℕ) (free : is_free (get_or rows i 0) left i ≡ true) where
      here : bit_at left i ≡ true
      here = both_left (bit_at left i) _ free

      below : i < k
      below = free-below rows k all x left p.fits without i free

      relies-on-none : (v : ℕ) → v < I.n → 1 ≤ grouped_in I v → set_of I x v ≡ false → relies I (router i) v ≡ false
      relies-on-none v m g e =
          ⊎_elim (λ (h : relies I (router i) v ≡ true).
          let r = router-is i below in
          let row : bit_at (get_or rows i 0) (bit_of I v) ≡ true
          = ap (λ j. bit_at (get_or rows j 0) (bit_of I v)) (sym r.2) ∙ p.relied (router i) v r.0 m r.1 g ∙ h in
          let zero : bit_and (get_or rows i 0) left ≡ 0 = eqb-true _ 0 (both_right (bit_at left i) _ free) in
          not-both (bit_at (bit_and (get_or rows i 0) left) (bit_of I v))
          (set-and (get_or rows i 0) left (bit_of I v) ∙ cc (left-outside v m g e))
          (ap (λ y. bit_at y (bit_of I v)) zero ∙ bit-none (bit_of I v)))
          (λ h. h)
          (true-or-false (relies I (router i) v))

      one-more : (v : ℕ) → v < I.n → 1 ≤ grouped_in I v → set_of I (bit_or x (2 ^ i)) v ≡ (set_of I x v || eqb (router i) v)
      one-more v m g =
          set-grouped I (bit_or x (2 ^ i)) v g
          ∙ bit-with x i (bit_of I v)
          ∙ ap₂ ◌||◌ (sym (set-grouped I x v g)) same
        where
          same : eqb i (bit_of I v) ≡ eqb (router i) v
          same =
              ⊎_elim (λ (e : i ≡ bit_of I v). eq-eqb i _ e ∙ sym (eq-eqb _ v (ap router e ∙ nth-count (grouped_in I) I.n v m g)))
              (λ (e : i ≡ bit_of I v → ⊥).
              ne_eqb i _ e ∙ sym (ne_eqb (router i) v (λ q. e (sym (router-is i below).2 ∙ ap (bit_of I) q))))
              (eq-or-ne i (bit_of I v))

      pub freed : serves I (set_of I x) ≡ serves I (set_of I (bit_or x (2 ^ i)))
      freed = free-serves I (set_of I x) (set_of I (bit_or x (2 ^ i))) (router i) (router-is i below).0 relies-on-none one-more

      not_in : bit_at x i ≡ false
      not_in =
          let r = router-is i below in
          ap (bit_at x) (sym r.2) ∙ sym (set-grouped I x (router i) r.1) ∙ outside-left i below here

      pub freed-tried : (served : List ℕ) → x < 2 ^ k → Tried I k served (suc x)
          → in_set served (bit_or x (2 ^ i)) ≡ serves I (set_of I x)
      freed-tried served b t =
          t.from (bit_or x (2 ^ i)) (higher x i not_in) (with-place k x i b below) ∙ sym freed

    -- no such place, though some are left
    module _ (none : (i : ℕ) → is_free (get_or rows i 0) left i ≡ false) where
      next : (w : ℕ) → w < I.n → 1 ≤ grouped_in I w → set_of I x w ≡ false
          → (v : ℕ) × (v < I.n) × (1 ≤ grouped_in I v) × (set_of I x v ≡ false) × (relies I w v ≡ true)
      next w l g e =
          let (j, m, both) = some-bit k (bit_and row left) (omega (arith, and_le_l row left, p.low i (place-below w l g))) busy in
          let both' : (bit_at row j && bit_at left j) ≡ true = sym (set-and row left j) ∙ both in
          let r = router-is j m in (
            router j,
            r.0,
            r.1,
            outside-left j m (both_right (bit_at row j) _ both'),
            sym (p.relied w (router j) l r.0 g r.1) ∙ ap (bit_at row) r.2 ∙ both_left (bit_at row j) _ both',
          )
        where
          i : ℕ
          i = bit_of I w

          row : ℕ
          row = get_or rows i 0

          busy : bit_and row left ≡ 0 → ⊥
          busy z =
              let free : is_free row left i ≡ true = cc (left-outside w l g e, eq-eqb (bit_and row left) 0 z) in
              let same : ◌≡◌ {A = ℕ} 0 1 = cc (none i) in
              omega arith

      pub stuck : left < 2 ^ 64 → (left ≡ 0 → ⊥) → serves I (set_of I x) ≡ false
      stuck l d =
          let (i, m, e) = some-bit 64 left l d in
          let r = router-is i (place-left i e) in
          none_free I (set_of I x) next (router i) r.0 r.1 (outside-left i (place-left i e) e)
