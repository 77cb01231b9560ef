-- Sums fit where their words are near.
use Prim.Native.Nat.{ℕ, ◌<◌, min}
use native.Mathlib.Omega.{arith}
use mathlib.Core.Path.{◌≡◌, refl, ◌∙◌, sym, ap}
use mathlib.Core.Bool.{true}
use mathlib.Core.List.{List}
use mathlib.Core.Option.{Option, none, some}
use borrow.Author.Tests.{le-leb, leb-true}
use lib.Dec.{leb}
use Rattle.base.proofs.Below.{all-at, all-intro}
use Rattle.links_rules.specs.Sums.{Sums}
use Rattle.links_rules.specs.Distances.{fits, sums_ok}
use Rattle.links_sums.specs.Words.{word, HoldsSums}
use Rattle.links_fit.specs.Near.{near, row_fits, words_fit}

word_fits : (x : Option ℕ) → leb (word x) 65534 ≡ true → fits x ≡ true
word_fits none h = refl
word_fits (some d) h = le-leb d 65534 (omega (arith, leb-true (min d 65535) 65534 h))

module _ (D : Sums) (n : ℕ) (t : List ℕ) (h : HoldsSums D n t) where
  pub near_fits : (u e : ℕ) → u < n → e < n → near t u e ≡ true → fits (D u e) ≡ true
  near_fits u e l o b = word_fits (D u e) (ap (λ x. leb x 65534) (sym (h.are u e l o)) ∙ b)

  pub words-fit : words_fit t n ≡ true → sums_ok D n ≡ true
  unfolding words_fit row_fits sums_ok
  words-fit ok = all-intro _ n (λ u l. all-intro _ n (λ e o. near_fits u e l o (all-at _ n (all-at _ n ok u l) e o)))
