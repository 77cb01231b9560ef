-- The loops of the closure over rows of bits.
use Prim.Native.Nat.{ℕ, ◌+◌, ◌%◌, ◌^◌, ◌≤◌, ◌<◌, min, max}
use native.Mathlib.Numerals.{add-one}
use native.Mathlib.Omega.{arith}
use native.Mathlib.Nat.{zero-div}
use mathlib.Core.Path.{◌≡◌, refl, ◌∙◌, sym, ap, ap₂}
use mathlib.Core.List.{List, ◌++◌}
use mathlib.Core.Logic.{⊎_elim}
use lib.Bits.{bit_or}
use lib.ListN.{length, get_or, set, length-set, get_or-eq_default}
use lib.Seq.{get_or-set_same, get_or-set_other}
use lib.ListN.{take, get_or-append}
use Rattle.std.proofs.lemmas.List.{get_or-take, length-take-le}
use Rattle.base.specs.Bits.{bit_n, bits}
use Rattle.base.proofs.BitLaws.{bit-or, bit_in}
use Rattle.base.proofs.Numbers.{eq-or-ne, lt-or-le}
use Rattle.base.specs.Elimination.{through, cell, Agree}
use Rattle.base.proofs.Elimination.{stage-none, stage-more}
use Rattle.graph_groups.specs.Closure.{Relation, reaches, closing, closure, Spans}

-- the rows below i have what they reach through k, and the others are as they were
pub record Passed (n k : ℕ) (rows₀ rows : List ℕ) (i : ℕ) : Type 0 where
  pub upto : i ≤ n
  pub done : (d : ℕ) → d < i → (j : ℕ) → bits rows d j ≡ through reaches (bits rows₀) k d j
  pub left : (d : ℕ) → i ≤ d → get_or rows d 0 ≡ get_or rows₀ d 0

-- a row with bit k, and one without
pub or-through : (a b j k : ℕ) → bit_n a k ≡ 1 → bit_n (bit_or a b) j ≡ max (bit_n a j) (min (bit_n a k) (bit_n b j))
or-through a b j k e = bit-or a b j ∙ omega arith

pub kept-through : (a b j k : ℕ) → (bit_n a k ≡ 1 → ⊥) → bit_n a j ≡ max (bit_n a j) (min (bit_n a k) (bit_n b j))
kept-through a b j k e = omega arith

-- nothing lies beyond a router that is related to none
pub none-beyond : (rows : List ℕ) (n k : ℕ) → get_or rows k 0 ≡ 0 → Agree (bits rows) (through reaches (bits rows) k) n
none-beyond rows n k e i j l m =
    let z : bits rows k j ≡ 0 = ap (λ y. bit_n y j) e ∙ ap (λ y. y % 2) (zero-div (2 ^ j)) in omega arith

-- a bit of a row that is written; a row that is not there has none, before and after
set-bit : (rows : List ℕ) (i x j : ℕ) → (1 ≤ bit_n x j → i < length rows) → bits (set rows i x) i j ≡ bit_n x j
set-bit rows i x j h =
    ⊎_elim (λ (l : i < length rows). ap (λ y. bit_n y j) (get_or-set_same rows i x 0 l))
    (λ (l : length rows ≤ i).
    let e : bits (set rows i x) i j ≡ 0 =
    ap (λ y. bit_n y j) (get_or-eq_default (set rows i x) 0 (omega (arith, length-set rows i x))) ∙ ap (λ y. y % 2) (zero-div (2 ^ j)) in
    ⊎_elim (λ (o : 0 < bit_n x j). absurd (omega (arith, h o))) (λ (o : bit_n x j ≤ 0). omega arith) (lt-or-le 0 (bit_n x j)))
    (lt-or-le i (length rows))

module _ (n k : ℕ) (rows₀ : List ℕ) where
  pub passed_start : Passed n k rows₀ rows₀ 0
  passed_start = record { upto = omega arith; done = λ d l. absurd (omega arith); left = λ d l. refl }

  module _ (rows : List ℕ) (i x : ℕ) (w : Passed n k rows₀ rows i)
      (h : (j : ℕ) → bit_n x j ≡ max (bits rows i j) (min (bits rows i k) (bits rows₀ k j))) where
    there : (j : ℕ) → 1 ≤ bit_n x j → i < length rows
    there j o =
        ⊎_elim (λ (p : 0 < bits rows i j). bit_in rows i j p)
        (λ (p : bits rows i j ≤ 0). bit_in rows i k (omega (arith, h j)))
        (lt-or-le 0 (bits rows i j))

    pub passed-more : i < n → Passed n k rows₀ (set rows i x) (i + 1)
    passed-more l =
        record {
          upto = omega arith;
          done = λ d o j.
              ⊎_elim (λ (e : d ≡ i). rw (e, set-bit rows i x j (there j), ← w.left i (omega arith)) (h j))
              (λ (e : d ≡ i → ⊥). ap (λ y. bit_n y j) (get_or-set_other rows i d x 0 e) ∙ w.done d (omega arith) j)
              (eq-or-ne d i);
          left = λ d o. get_or-set_other rows i d x 0 (λ e. omega arith) ∙ w.left d (omega arith);
        }

  pub passed-done : (rows : List ℕ) (i : ℕ) → n ≤ i → Passed n k rows₀ rows i → Agree (bits rows) (through reaches (bits rows₀) k) n
  passed-done rows i l w d j o m = w.done d (omega arith) j

-- a word that spans rows, one row more a turn; and what they reach through a router it spans too
pub span_more : (rows : List ℕ) (word n i : ℕ) → ((d j : ℕ) → d < i → j < n → bits rows d j ≤ bit_n word j)
    → (d j : ℕ) → d < i + 1 → j < n → bits rows d j ≤ bit_n (bit_or word (get_or rows i 0)) j
span_more rows word n i h d j l m =
    ⊎_elim (λ (e : d ≡ i). rw e (omega (arith, bit-or word (get_or rows i 0) j)))
    (λ (e : d ≡ i → ⊥). omega (arith, bit-or word (get_or rows i 0) j, h d j (omega arith) m))
    (eq-or-ne d i)

pub span-through : (rows rows' : List ℕ) (word n k : ℕ) → k < n → Spans rows word n
    → Agree (bits rows') (through reaches (bits rows) k) n → Spans rows' word n
span-through rows rows' word n k o h e i j l m = omega (arith, e i j l m, h i j l m, h k j o m)

-- the closure, one router more a turn
module _ (R : Relation) (n : ℕ) where
  pub closing-start : Agree R (cell 0 (closing R n 0)) n
  unfolding closing
  closing-start i j l m = sym (stage-none reaches R n i j l m)

  pub closing-more : (C D : Relation) (k : ℕ) → k < n → Agree C (cell 0 (closing R n k)) n → Agree D (through reaches C k) n
      → Agree D (cell 0 (closing R n (k + 1))) n
  unfolding closing
  closing-more C D k o g h i j l m =
      h i j l m
      ∙ ap₂ max (g i j l m) (ap₂ min (g i k l o) (g k j o m))
      ∙ sym (stage-more reaches R n k i j l m)
      ∙ ap (λ x. cell 0 (closing R n x) i j) (sym (add-one k))

  -- no chain goes through a router that none is related to
  pub closing-skip : (C : Relation) (k : ℕ) → k < n → ((i : ℕ) → i < n → C i k ≡ 0) → Agree C (cell 0 (closing R n k)) n
      → Agree C (cell 0 (closing R n (k + 1))) n
  closing-skip C k o z g = closing-more C C k o g (λ i j l m. omega (arith, z i l))

  pub closing-done : (C : Relation) (k : ℕ) → k ≤ n → n ≤ k → Agree C (cell 0 (closing R n k)) n → Agree C (closure R n) n
  closing-done C k u l g = let e : k ≡ n = omega arith in rw e at g

-- the first n rows, passed through k: the rest of the rows say nothing
pub passed-front : (n k : ℕ) (rows front rest : List ℕ) (i : ℕ) → k < n → n ≤ length rows → length front ≡ length (take n rows) → n ≤ i
    → Passed n k (take n rows) front i → Agree (bits (front ++ rest)) (through reaches (bits rows) k) n
passed-front n k rows front rest i o long same l w d j m q =
    let at : (e : ℕ) → e < n → get_or (take n rows) e 0 ≡ get_or rows e 0 = λ e t. get_or-take n rows e 0 t in
    let room : d < length front = omega (arith, same, length-take-le n rows long) in
    ap (λ y. bit_n y j) (get_or-append front rest 0 d room)
    ∙ passed-done n k (take n rows) front i l w d j m q
    ∙ ap₂ (λ x y. max (bit_n x j) (min (bit_n x k) (bit_n y j))) (at d m) (at k o)
