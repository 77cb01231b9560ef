-- Tables of words: which sums a table holds once a word, or all words, are lowered.
use Prim.Native.Nat.{ℕ, zero, suc, ◌+◌, ◌*◌, ◌≤◌, ◌<◌, min}
use native.Mathlib.Numerals.{add-one}
use native.Mathlib.Omega.{arith}
use mathlib.Core.Path.{◌≡◌, refl, ◌∙◌, sym, ap, ap₂}
use mathlib.Core.Bool.{Bool, true, false, cond, ◌&&◌}
use mathlib.Core.List.{List}
use mathlib.Core.Logic.{⊎_elim}
use mathlib.Core.Option.{Option, none, some}
use borrow.Author.Tests.{eq-eqb, ne_eqb, eqb-true}
use lib.Dec.{eqb}
use lib.ListN.{set, replicate, length-set, length-replicate, get_or-replicate}
use lib.Seq.{get_or-set_same, get_or-set_other}
use Rattle.base.proofs.Numbers.{both_left, both_right, eq-or-ne}
use Rattle.links_rules.specs.Sheet.{link_count}
use Rattle.base.specs.Elimination.{through, cell, Agree}
use Rattle.base.proofs.Elimination.{stage-none, stage-more}
use Rattle.links_rules.specs.Sums.{Sums, lesser, plus, nowhere, staying, linked, least_of, direct, summing}
use Rattle.links_rules.specs.SheetFacts.{Sheet}
use Rattle.links_read.specs.Link.{LinkIs}
use Rattle.links_read.specs.declared.Link.{Link}
use Rattle.links_words.specs.Lowered.{capped, word_at, RowsLowered}
use Rattle.links_sums.specs.Words.{word, HoldsSums}

-- no walk at all
pub no-walks : (n m : ℕ) → n ≤ 64 → 64 * n ≤ m → HoldsSums nowhere n (replicate m 65535)
no-walks n m small room = record {
  room = rw (length-replicate {A = ℕ} m 65535) room;
  are = λ i j l o. get_or-replicate m (64 * i + j) 65535 0 (omega arith);
}

word-most : (x : Option ℕ) → word x ≤ 65535
word-most none = omega arith
word-most (some d) = omega arith

-- sums that are the same below n
holds_same : (D E : Sums) (n : ℕ) (t : List ℕ) → Agree D E n → HoldsSums D n t → HoldsSums E n t
holds_same D E n t e h = record { room = h.room; are = λ i j l o. h.are i j l o ∙ ap word (e i j l o) }

-- one word lowered
word-linked : (x : Option ℕ) (w : ℕ) → w ≤ 65535 → min (word x) w ≡ word (lesser x (some w))
word-linked none w h = omega arith
word-linked (some d) w h = omega arith

lesser-none : (x : Option ℕ) → lesser x none ≡ x
lesser-none none = refl
lesser-none (some d) = refl

other-pair : (f g i j : ℕ) → (f ≡ i → g ≡ j → ⊥) → (eqb f i && eqb g j) ≡ false
other-pair f g i j p = go (eqb f i && eqb g j) refl
  where
    go : (b : Bool) → (eqb f i && eqb g j) ≡ b → (eqb f i && eqb g j) ≡ false
    go true e = absurd (p (eqb-true f i (both_left _ _ e)) (eqb-true g j (both_right (eqb f i) _ e)))
    go false e = e

module _ (n : ℕ) (small : n ≤ 64) where
  pub holds-linked :
      (D : Sums) (t : List ℕ) (f g w : ℕ) → f < n → g < n → w ≤ 65535 → HoldsSums D n t →
      HoldsSums (linked D f g w) n (set t (64 * f + g) (min (word_at t f g) w))
  holds-linked D t f g w a b u h = record {
    room = simp length-set h.room;
    are = λ i j l o. ⊎_elim (here i j l o) (there i j l o) (eq-or-ne (64 * i + j) (64 * f + g));
  }
    where
      lowered : ℕ
      lowered = min (word_at t f g) w

      here : (i j : ℕ) → i < n → j < n → 64 * i + j ≡ 64 * f + g → word_at (set t (64 * f + g) lowered) i j ≡ word (linked D f g w i j)
      here i j l o e =
          let p : f ≡ i = omega arith in
          let q : g ≡ j = omega arith in
          rw (eq-eqb f i p, eq-eqb g j q, e, get_or-set_same t (64 * f + g) lowered 0 (omega (arith, h.room)), h.are f g a b, p, q)
          (word-linked (D i j) w u)

      there :
          (i j : ℕ) → i < n → j < n → (64 * i + j ≡ 64 * f + g → ⊥) → word_at (set t (64 * f + g) lowered) i j ≡ word (linked D f g w i j)
      there i j l o e =
          rw (other-pair f g i j (λ p q. e (omega arith)), lesser-none (D i j))
          (get_or-set_other t (64 * f + g) (64 * i + j) lowered 0 e ∙ h.are i j l o)

-- the walk of no link at routers below k, a router a turn
unfoldable pub stays : ℕ → Sums
stays zero = nowhere
stays (suc k) = linked (stays k) k k 0

zero-least : (x : Option ℕ) → lesser x (some 0) ≡ some 0
zero-least none = refl
zero-least (some d) = ap some (omega arith)

least_zero : (x : Option ℕ) → lesser (some 0) x ≡ some 0
least_zero none = refl
least_zero (some d) = ap some (omega arith)

stays-off : (k i j : ℕ) → (i ≡ j → ⊥) → stays k i j ≡ none
unfolding stays
stays-off zero i j p = refl
stays-off (suc k) i j p = rw (other-pair k k i j (λ a b. p (sym a ∙ b)), stays-off k i j p)

stays_on : (k i : ℕ) → i < k → stays k i i ≡ some 0
unfolding stays
stays_on zero i l = absurd (omega arith)
stays_on (suc k) i l =
    ⊎_elim (λ (e : k ≡ i). rw (eq-eqb k i e) (zero-least (stays k i i)))
    (λ (e : k ≡ i → ⊥). rw (stays_on k i (omega arith)) (least_zero (cond (eqb k i && eqb k i) (some 0) none)))
    (eq-or-ne k i)

stays_all : (n i j : ℕ) → i < n → j < n → stays n i j ≡ staying i j
stays_all n i j l m =
    ⊎_elim (λ (e : i ≡ j). rw (eq-eqb i j e, e) (stays_on n j m)) (λ (e : i ≡ j → ⊥). rw (ne_eqb i j e) (stays-off n i j e)) (eq-or-ne i j)

module _ (n : ℕ) (small : n ≤ 64) where
  pub stay-more :
      (t after : List ℕ) (i : ℕ) → i < n → HoldsSums (stays i) n t → after ≡ set t (64 * i + i) (min (word_at t i i) 0) →
      HoldsSums (stays (i + 1)) n after
  unfolding stays
  stay-more t after i l h e = rw (add-one, e) (holds-linked n small (stays i) t i i 0 l l (omega arith) h)

  pub stay-done : (t : List ℕ) (i : ℕ) → i ≤ n → n ≤ i → HoldsSums (stays i) n t → HoldsSums staying n t
  stay-done t i u l h = let e : i ≡ n = omega arith in holds_same (stays n) staying n t (stays_all n) (rw e at h)

  module _ (s : List ℕ) where
    pub direct-more :
        Sheet s n → (t after : List ℕ) (k : ℕ) (link : Link) → k < link_count s → LinkIs s k link → link.weight < 65536 →
        HoldsSums (direct s k) n t →
        after ≡ set t (64 * link.from + link.to) (min (word_at t link.from link.to) link.weight) →
        HoldsSums (direct s (k + 1)) n after
    unfolding direct
    direct-more sheet t after k link l is u h e =
        rw (add-one, e, ← is.from, ← is.to, ← is.weight)
        (holds-linked n small (direct s k) t link.from link.to link.weight
        (omega (arith, is.from, sheet.froms k l)) (omega (arith, is.to, sheet.tos k l)) (omega arith) h)

-- the word of the lesser of a sum and of two sums' sum
word-plus : (x y : Option ℕ) → capped (word x + word y) ≡ word (plus x y)
word-plus none y = omega arith
word-plus (some a) none = omega arith
word-plus (some a) (some b) = omega arith

word-lesser : (x y : Option ℕ) → min (word x) (word y) ≡ word (lesser x y)
word-lesser none y = omega (arith, word-most y)
word-lesser (some a) none = omega arith
word-lesser (some a) (some b) = omega arith

holds-through : (D : Sums) (n k : ℕ) (t after : List ℕ) → k < n → HoldsSums D n t → RowsLowered n k t n after → HoldsSums (through least_of D k) n after
holds-through D n k t after u h r = record {
  room = rw r.long h.room;
  are =
      λ i j l o.
      r.rows i j l o
      ∙ ap₂ min (h.are i j l o) (ap₂ (λ x y. capped (x + y)) (h.are i k l u) (h.are k j u o) ∙ word-plus (D i k) (D k j))
      ∙ word-lesser (D i j) (plus (D i k) (D k j));
}

-- the stages, one router more a turn
module _ (s : List ℕ) (n : ℕ) where
  pub sums-start : (t : List ℕ) → HoldsSums (direct s (link_count s)) n t → HoldsSums (cell none (summing s n 0)) n t
  unfolding summing
  sums-start t =
      holds_same (direct s (link_count s)) (cell none (summing s n 0)) n t (λ i j l o. sym (stage-none least_of (direct s (link_count s)) n i j l o))

  pub sums-more :
      (t after : List ℕ) (k : ℕ) → k < n → HoldsSums (cell none (summing s n k)) n t → RowsLowered n k t n after →
      HoldsSums (cell none (summing s n (k + 1))) n after
  unfolding summing
  sums-more t after k u h r =
      rw add-one
      (holds_same (through least_of (cell none (summing s n k)) k) (cell none (summing s n (suc k))) n after
      (λ i j l o. sym (stage-more least_of (direct s (link_count s)) n k i j l o))
      (holds-through (cell none (summing s n k)) n k t after u h r))
