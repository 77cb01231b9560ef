-- Sharing a group, read off rows of bits.
use Prim.Native.Nat.{ℕ, ◌<◌}
use native.Mathlib.Omega.{arith}
use mathlib.Core.Path.{◌≡◌}
use mathlib.Core.List.{List}
use Rattle.base.proofs.Seek.{flag_one, flag-none, flag-two}
use Rattle.base.specs.Bits.{bits}
use Rattle.graph_groups.specs.Groups.{together}

module _ (closed : List ℕ) (i j : ℕ) where
  pub share-self : i ≡ j → 1 ≡ together (bits closed) i j
  unfolding together
  share-self e = omega (arith, flag_one i j e, flag-two i j)

  pub share-none : (i ≡ j → ⊥) → bits closed i j ≡ 0 → 0 ≡ together (bits closed) i j
  unfolding together
  share-none e h = omega (arith, flag-none i j e)

  pub share_back : (i ≡ j → ⊥) → (bits closed i j ≡ 0 → ⊥) → bits closed j i ≡ together (bits closed) i j
  unfolding together
  share_back e h = omega (arith, flag-none i j e)

  pub together-two : together (bits closed) i j < 2
  unfolding together
  together-two = omega (arith, flag-two i j)
