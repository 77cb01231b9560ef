-- Loops over the routers in a word, lowest first, with the place of each; and what the rows by places then hold.
use Prim.Native.Nat.{ℕ, suc, ◌+◌, ◌^◌, ◌≤◌, ◌<◌}
use native.Mathlib.Omega.{arith}
use mathlib.Core.Path.{◌≡◌, refl, ◌∙◌, sym, ap, ap₂}
use mathlib.Core.Bool.{Bool, true, false}
use mathlib.Core.List.{List}
use mathlib.Core.Logic.{⊎_elim}
use borrow.Author.Count.{below_none}
use borrow.Author.Tests.{eq-eqb}
use lib.Dec.{eqb}
use lib.ListN.{length, get_or, set, length-set}
use lib.Seq.{get_or-set_same, get_or-set_other}
use Rattle.base.specs.Bits.{bit_n}
use Rattle.base.specs.BitWalk.{from_bit, LowestBit, BitWalk}
use Rattle.base.specs.Seek.{flag, count}
use Rattle.base.proofs.BitWalk.{walk_start, walk-set, walk-within, walk-visit, walk_more, walk-done}
use Rattle.base.proofs.Numbers.{lt-or-le}
use Rattle.base.proofs.Seek.{count_none, count-suc}
use Rattle.route_rules.specs.Instance.{Instance}
use Rattle.route_rules.specs.Reliance.{relies}
use Rattle.steady_rules.specs.Numbers.{bit_at, nth_of}
use Rattle.steady_rules.specs.Steady.{grouped_in, bit_of}
use Rattle.steady_rules.proofs.Numbers.{count-lt, nth-is, number-below, number_bit}
use Rattle.net_steady.proofs.BitSteps.{word_below}
use Rattle.net_groups.specs.GroupRows.{GroupRows}
use Rattle.net_groups.proofs.Counted.{counted-below, counted-all}
use Rattle.net_hopset.specs.Places.{placed, PlaceRows, Places}

-- a loop over the routers of a word: i of them were visited, and Q holds as far as it has come
abbrev pub PlaceWalk : (ℕ → Type 0) → ℕ → ℕ → ℕ → Type 0
PlaceWalk Q word i left = BitWalk (λ at. (i ≡ count (bit_n word) at) × Q at) word 64 left

module _ (word : ℕ) (fits : word < 2 ^ 64) where
  pub place-start : (Q : ℕ → Type 0) → Q 0 → PlaceWalk Q word 0 word
  place-start Q q = walk_start _ word 64 (sym (count_none (bit_n word)), q)

  module _ (Q : ℕ → Type 0) (pass : (v : ℕ) → count (bit_n word) (suc v) ≡ count (bit_n word) v → bit_n word v ≡ 0 → Q v → Q (suc v)) (i : ℕ) where
    over : (v : ℕ) → v < 64 → bit_n word v ≡ 0 → (i ≡ count (bit_n word) v) × Q v → (i ≡ count (bit_n word) (suc v)) × Q (suc v)
    over v l unset (e, q) =
        let same : count (bit_n word) (suc v) ≡ count (bit_n word) v = omega (arith, count-suc (bit_n word) v) in
        (e ∙ sym same, pass v same unset q)

    -- the router that is visited next: v, whose place is i
    module _ (left v : ℕ) (w : PlaceWalk Q word i left) (low : LowestBit left v) where
      pub place_set : bit_n word v ≡ 1
      place_set = walk-set _ word 64 left v (word_below word fits) w low

      pub place-below : v < 64
      place-below = walk-within _ word 64 left v (word_below word fits) w low

      here : (i ≡ count (bit_n word) v) × Q v
      here = walk-visit _ word 64 over left v (word_below word fits) w low

      pub place_is : i ≡ count (bit_n word) v
      place_is = here.0

      pub place-held : Q v
      place-held = here.1

      pub place-room : i < count (bit_n word) 64
      place-room = omega (arith, place_is, count-lt (bit_n word) v 64 place-below (omega (arith, place_set)))

      pub place-more : (R : ℕ → Type 0) (left' : ℕ) → left' ≡ from_bit left (suc v) → R (suc v) → PlaceWalk R word (i + 1) left'
      place-more R left' e r =
          walk_more _ word 64 left v (word_below word fits) w low _ left' e (omega (arith, place_is, place_set, count-suc (bit_n word) v), r)

    pub place-done : (left : ℕ) → PlaceWalk Q word i left → left ≡ 0 → Q 64
    place-done left w e = (walk-done _ word 64 over left w e).1

-- the rows of the routers visited so far
pub record RowsSoFar (relied : List ℕ) (word : ℕ) (rows : List ℕ) (at : ℕ) : Type 0 where
  pub size : length rows ≡ 12
  pub each : (w : ℕ) → w < at → bit_n word w ≡ 1 → get_or rows (count (bit_n word) w) 0 ≡ placed word (get_or relied w 0)

module _ (relied : List ℕ) (word : ℕ) (fits : word < 2 ^ 64) (few : count (bit_n word) 64 ≤ 12) where
  pub rows_start : (rows : List ℕ) → length rows ≡ 12 → PlaceWalk (RowsSoFar relied word rows) word 0 word
  rows_start rows e = place-start word fits (RowsSoFar relied word rows) (record { size = e; each = below_none _ })

  rows_pass : (rows : List ℕ) (v : ℕ) → count (bit_n word) (suc v) ≡ count (bit_n word) v → bit_n word v ≡ 0 → RowsSoFar relied word rows v
      → RowsSoFar relied word rows (suc v)
  rows_pass rows v same unset q =
      record {
        size = q.size;
        each = λ w l h.
            ⊎_elim (λ (m : w < v). q.each w m h)
            (λ (m : v ≤ w). let e : v ≡ w = omega arith in absurd (omega (arith, ap (bit_n word) e)))
            (lt-or-le w v);
      }

  module _ (rows : List ℕ) (i left v : ℕ) (w : PlaceWalk (RowsSoFar relied word rows) word i left) (low : LowestBit left v) where
    pub rows-room : i < 12
    rows-room = omega (arith, place-room word fits _ (rows_pass rows) i left v w low)

    pub rows_more : (left' : ℕ) → left' ≡ from_bit left (suc v)
        → PlaceWalk (RowsSoFar relied word (set rows i (placed word (get_or relied v 0)))) word (i + 1) left'
    rows_more left' f =
        place-more word fits _ (rows_pass rows) i left v w low _ left' f
        (record { size = simp length-set q.size; each = each })
      where
        q : RowsSoFar relied word rows v
        q = place-held word fits _ (rows_pass rows) i left v w low

        at : i ≡ count (bit_n word) v
        at = place_is word fits _ (rows_pass rows) i left v w low

        each : (u : ℕ) → u < suc v → bit_n word u ≡ 1
            → get_or (set rows i (placed word (get_or relied v 0))) (count (bit_n word) u) 0 ≡ placed word (get_or relied u 0)
        each u l h =
            ⊎_elim
            (λ (m : u < v).
            get_or-set_other rows i (count (bit_n word) u) _ 0
            (λ e. omega (arith, at, e, count-lt (bit_n word) u v m (omega (arith, h))))
            ∙ q.each u m h)
            (λ (m : v ≤ u).
            let same : u ≡ v = omega arith in
            ap (λ j. get_or (set rows i (placed word (get_or relied v 0))) j 0) (ap (count (bit_n word)) same ∙ sym at)
            ∙ get_or-set_same rows i _ 0 (omega (arith, rows-room, q.size))
            ∙ ap (λ j. placed word (get_or relied j 0)) (sym same))
            (lt-or-le u v)

  pub rows-done : (rows : List ℕ) (i left : ℕ) → PlaceWalk (RowsSoFar relied word rows) word i left → left ≡ 0 → PlaceRows relied word rows
  rows-done rows i left w e = (place-done word fits _ (rows_pass rows) i left w e).each

-- what the search asks of the rows
module _ (I : Instance) (relied closed : List ℕ) (word : ℕ) (small : I.n ≤ 64) (h : GroupRows I relied closed word) where
  grouped-set : (w : ℕ) → w < I.n → 1 ≤ grouped_in I w → 1 ≤ bit_n word w
  grouped-set w l g = omega (arith, h.grouped w l)

  place-bit : (w : ℕ) → w ≤ I.n → count (bit_n word) w ≡ bit_of I w
  place-bit = counted-below I relied closed word h

  flag-test : (b : Bool) → eqb (flag b) 1 ≡ b
  flag-test true = refl
  flag-test false = refl

  pub places-are : (rows : List ℕ) → PlaceRows relied word rows → Places I rows (count (bit_n word) 64) (placed word word)
  places-are rows each =
      record {
        counted = counted-all I relied closed word h small;
        relied = λ w v l m g k.
            ap₂ (λ i j. bit_at (get_or rows i 0) j) (sym (place-bit w (omega arith))) (sym (place-bit v (omega arith)))
            ∙ ap (λ x. bit_at x (count (bit_n word) v)) (each w (omega arith) (one w l g))
            ∙ number_bit (bit_n word) 64 (bit_at (get_or relied w 0)) v (omega arith) (grouped-set v m k)
            ∙ ap (λ b. eqb b 1) ((h.related w l).within v m)
            ∙ flag-test (relies I w v);
        low = λ i l.
            let p = nth-is (bit_n word) 64 i l in
            rw (← p.2, each (nth_of (bit_n word) 64 i) p.0 (omega (arith, p.1))) (number-below (bit_n word) 64 _);
        every = λ i l.
            let p = nth-is (bit_n word) 64 i l in
            rw (← p.2)
            (number_bit (bit_n word) 64 (bit_at word) (nth_of (bit_n word) 64 i) p.0 p.1 ∙ eq-eqb (bit_n word (nth_of (bit_n word) 64 i)) 1 (omega (arith, p.1)));
        fits = number-below (bit_n word) 64 (bit_at word);
      }
    where
      one : (w : ℕ) → w < I.n → 1 ≤ grouped_in I w → bit_n word w ≡ 1
      one w l g = omega (arith, grouped-set w l g)
