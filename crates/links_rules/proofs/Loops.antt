-- A link from a router to itself never matters: a walk that goes along one has a walk of less sum, so no least walk does.
use Prim.Native.Nat.{ℕ}
use native.Mathlib.Omega.{arith}
use mathlib.Core.Path.{refl, ◌∙◌, sym, subst}
use mathlib.Core.List.{List}
use mathlib.Core.Logic.{inl, inr}
use Rattle.links_rules.specs.Walks.{Walk, stay, along, sum, Loops, Least}
use Rattle.links_rules.specs.SheetFacts.{Sheet, Shorter}
use Rattle.links_rules.proofs.LeastSums.{HasWalk}

module _ {s : List ℕ} {n : ℕ} (sheet : Sheet s n) where
  pub loop-shorter : {i j : ℕ} (w : Walk s i j) → Loops w → Shorter w
  unfolding Loops sum
  loop-shorter (stay e) h = absurd h
  loop-shorter {i} {j} (along k b e rest) (inl q) =
      let same : HasWalk s i j (sum rest) = subst (λ x. HasWalk s x j (sum rest)) (sym q ∙ e) (record { walk = rest; has = refl }) in
      record { walk = same.walk; less = omega (arith, same.has, sheet.weights k b) }
  loop-shorter (along k b e rest) (inr h) =
      let v = loop-shorter rest h in
      record { walk = along k b e v.walk; less = omega (arith, v.less) }

  pub least-loopless : {i j d : ℕ} (l : Least s i j d) → Loops l.walk → ⊥
  least-loopless l h = let v = loop-shorter l.walk h in omega (arith, v.less, l.has, l.least v.walk)
