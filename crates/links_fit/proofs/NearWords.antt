-- Words of bits: whether every bit of one is set in another.
use Prim.Native.Nat.{ℕ, ◌-◌, ◌^◌, ◌<◌, min}
use native.Mathlib.Omega.{arith}
use mathlib.Core.Path.{◌≡◌, refl, ◌∙◌, sym, ap}
use mathlib.Core.Bool.{Bool, true, false, not, ◌&&◌, ◌||◌}
use mathlib.Core.Logic.{⊎_elim}
use borrow.Author.Tests.{eq-eqb, ne_eqb}
use lib.Count.{count_trailing_zeros}
use lib.Dec.{eqb}
use Rattle.base.specs.Bits.{bit_n}
use Rattle.base.specs.Below.{all_below}
use Rattle.base.proofs.Below.{all-intro, all-fail, all-cong}
use Rattle.base.proofs.BitWalk.{lowest-is}
use Rattle.base.proofs.SetBits.{bit-none, set-less}
use Rattle.base.proofs.Numbers.{eq-or-ne}
use Rattle.links_fit.specs.Near.{within}

-- x has the bits of a that are not set in b
module _ (a b x : ℕ) (less : (j : ℕ) → bit_n x j ≡ min (bit_n a j) (1 - bit_n b j)) where
  implied : (p q : Bool) → (not p || q) ≡ not (p && not q)
  implied true true = refl
  implied true false = refl
  implied false q = refl

  within_none : within a b ≡ all_below (λ u. not (eqb (bit_n x u) 1)) 64
  unfolding within
  within_none =
      all-cong _ _ 64 (λ u l. implied (eqb (bit_n a u) 1) (eqb (bit_n b u) 1) ∙ ap not (sym (set-less a b u x (less u))))

  pub within-is : x < 2 ^ 64 → eqb x 0 ≡ within a b
  within-is l =
      ⊎_elim
      (λ (e : x ≡ 0).
      eq-eqb x 0 e ∙ sym (within_none ∙ all-intro _ 64 (λ u o. ap (λ y. not (eqb (bit_n y u) 1)) e ∙ ap not (bit-none u))))
      (λ (e : x ≡ 0 → ⊥).
      let low = lowest-is 64 x (omega arith) l in
      ne_eqb x 0 e ∙ sym (within_none ∙ all-fail _ 64 (count_trailing_zeros 64 x) low.1 (ap not (eq-eqb _ 1 low.0.set))))
      (eq-or-ne x 0)
