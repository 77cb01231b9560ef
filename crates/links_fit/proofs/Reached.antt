-- Every least sum is at most 65,534 exactly if no link leads on from a near router to one that is not near.
use Prim.Native.Nat.{ℕ, ◌≤◌, ◌<◌}
use native.Mathlib.Omega.{arith}
use mathlib.Core.Path.{◌≡◌, refl, ◌∙◌, sym, ap}
use mathlib.Core.Bool.{Bool, true, false, not, ◌||◌}
use mathlib.Core.List.{List, ◌++◌}
use mathlib.Core.Logic.{⊎_elim}
use mathlib.Core.Option.{Option, none, some}
use borrow.Author.Tests.{le-leb, leb-true}
use lib.Dec.{eqb}
use lib.ListN.{get_or, drop}
use Rattle.base.specs.Bits.{bit_n}
use Rattle.base.specs.Tab.{tab}
use Rattle.base.proofs.Below.{all-at, all-intro}
use Rattle.base.proofs.Marked.{marked-below, marked-past}
use Rattle.base.proofs.Numbers.{not-both, lt-or-le}
use Rattle.base.proofs.Tab.{get_or-written}
use Rattle.links_rules.specs.Sheet.{link_count, link_from, link_to}
use Rattle.links_rules.specs.Walks.{Walk, stay, along, sum, LeastIs}
use Rattle.links_rules.specs.Sums.{least_sums}
use Rattle.links_rules.specs.Distances.{fits, sums_ok}
use Rattle.links_words.specs.Lowered.{word_at}
use Rattle.links_sums.specs.Words.{word, HoldsSums}
use Rattle.links_fit.specs.Near.{near, near_to, within, links_within}
use Rattle.links_rules.specs.SheetFacts.{Sheet}
use Rattle.links_rules.proofs.Facts.{computed-least}
use Rattle.links_rules.proofs.LeastSums.{walk-on}
use Rattle.links_fit.proofs.Fits.{near_fits}

-- a test that holds where another does
then : (a b : Bool) → (not a || b) ≡ true → a ≡ true → b ≡ true
then true b h e = h
then false b h e = not-both false e refl

where-then : (a b : Bool) → (a ≡ true → b ≡ true) → (not a || b) ≡ true
where-then true b h = h refl
where-then false b h = refl

same_test : (a b : Bool) → (a ≡ true → b ≡ true) → (b ≡ true → a ≡ true) → a ≡ b
same_test true b g h = sym (g refl)
same_test false true g h = h refl
same_test false false g h = refl

module _ (s : List ℕ) (n : ℕ) (small : n ≤ 64) (sheet : Sheet s n) (t : List ℕ) (h : HoldsSums (least_sums s n) n t)
    (words z : List ℕ) (is : words ≡ tab (near_to t n) n ++ drop n z) where
  abbrev computed : ℕ → ℕ → Option ℕ
  computed = least_sums s n

  least : (u e : ℕ) → u < n → e < n → LeastIs s u e (computed u e)
  least = computed-least s n sheet

  -- bit u of word e
  bit-near : (u e : ℕ) → u < n → e < n → eqb (bit_n (get_or words e 0) u) 1 ≡ near t u e
  bit-near u e l m =
      ap (λ x. eqb (bit_n x u) 1) (get_or-written (near_to t n) n 0 z words is e m) ∙ marked-below (λ v. near t v e) n u l

  bit_past : (u e : ℕ) → n ≤ u → e < n → eqb (bit_n (get_or words e 0) u) 1 ≡ false
  bit_past u e l m =
      ap (λ x. eqb (bit_n x u) 1) (get_or-written (near_to t n) n 0 z words is e m) ∙ marked-past (λ v. near t v e) n u l

  -- near by a sum
  near-some : (u e d : ℕ) → u < n → e < n → computed u e ≡ some d → d ≤ 65534 → near t u e ≡ true
  near-some u e d l m q b = le-leb (word_at t u e) 65534 (omega (arith, h.are u e l m ∙ ap word q))

  near-walk : (u e : ℕ) → u < n → e < n → near t u e ≡ true → Walk s u e
  unfolding LeastIs
  near-walk u e l m b = go (computed u e) refl (least u e l m)
    where
      go : (x : Option ℕ) → computed u e ≡ x → LeastIs s u e x → Walk s u e
      go none q w = absurd (omega (arith, leb-true (word_at t u e) 65534 b, h.are u e l m ∙ ap word q))
      go (some d) q w = w.walk

  near-self : (u : ℕ) → u < n → near t u u ≡ true
  unfolding LeastIs sum
  near-self u l = go (computed u u) refl (least u u l l)
    where
      go : (x : Option ℕ) → computed u u ≡ x → LeastIs s u u x → near t u u ≡ true
      go none q w = absurd (w (stay refl))
      go (some d) q w = near-some u u d l l q (omega (arith, w.least (stay refl)))

  -- where no link leads on from a near router to one that is not, no walk does
  module _ (kept : links_within s words ≡ true) where
    link_near : (k u : ℕ) → k < link_count s → u < n → near t u (link_from s k) ≡ true → near t u (link_to s k) ≡ true
    unfolding links_within within
    link_near k u b l q =
        sym (bit-near u (link_to s k) l (sheet.tos k b))
        ∙ then _ _ (all-at _ 64 (all-at _ _ kept k b) u (omega arith)) (bit-near u (link_from s k) l (sheet.froms k b) ∙ q)

    stays-near : {i j : ℕ} (u : ℕ) → u < n → near t u i ≡ true → Walk s i j → near t u j ≡ true
    stays-near u l q (stay e) = rw e at q
    stays-near u l q (along k b e w) = stays-near u l (link_near k u b l (rw e q)) w

    fits_kept : sums_ok computed n ≡ true
    unfolding sums_ok LeastIs
    fits_kept =
        all-intro _ n (λ u l. all-intro _ n (λ e m. go u e l m (computed u e) refl (least u e l m)))
      where
        go : (u e : ℕ) → u < n → e < n → (x : Option ℕ) → computed u e ≡ x → LeastIs s u e x → fits (computed u e) ≡ true
        go u e l m none q w = rw q
        go u e l m (some d) q w = near_fits computed n t h u e l m (stays-near u l (near-self u l) w.walk)

  -- a walk that goes on along a link
  near_on : sums_ok computed n ≡ true → (k u : ℕ) → k < link_count s → u < n → near t u (link_from s k) ≡ true → near t u (link_to s k) ≡ true
  unfolding sums_ok LeastIs
  near_on ok k u b l q = go (computed u (link_to s k)) refl (least u (link_to s k) l (sheet.tos k b))
    where
      on : Walk s u (link_to s k)
      on = (walk-on (near-walk u (link_from s k) l (sheet.froms k b) q) (record { walk = along k b refl (stay refl); has = refl })).walk

      go : (x : Option ℕ) → computed u (link_to s k) ≡ x → LeastIs s u (link_to s k) x → near t u (link_to s k) ≡ true
      go none e w = absurd (w on)
      go (some d) e w =
          near-some u (link_to s k) d l (sheet.tos k b) e
          (leb-true d 65534 (ap fits (sym e) ∙ all-at _ n (all-at _ n ok u l) (link_to s k) (sheet.tos k b)))

  kept-fits : sums_ok computed n ≡ true → links_within s words ≡ true
  unfolding links_within within
  kept-fits ok = all-intro _ _ (λ k b. all-intro _ 64 (λ u o. ⊎_elim (below k b u) (past k b u) (lt-or-le u n)))
    where
      below : (k : ℕ) → k < link_count s → (u : ℕ) → u < n
          → (not (eqb (bit_n (get_or words (link_from s k) 0) u) 1) || eqb (bit_n (get_or words (link_to s k) 0) u) 1) ≡ true
      below k b u l =
          rw (bit-near u (link_from s k) l (sheet.froms k b), bit-near u (link_to s k) l (sheet.tos k b))
          (where-then _ _ (near_on ok k u b l))

      past : (k : ℕ) → k < link_count s → (u : ℕ) → n ≤ u
          → (not (eqb (bit_n (get_or words (link_from s k) 0) u) 1) || eqb (bit_n (get_or words (link_to s k) 0) u) 1) ≡ true
      past k b u l = rw (bit_past u (link_from s k) l (sheet.froms k b))

  pub links-decide : links_within s words ≡ sums_ok computed n
  links-decide = same_test _ _ fits_kept kept-fits
