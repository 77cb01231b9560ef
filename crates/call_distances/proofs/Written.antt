-- The body of kind 3 that the words give is that of the least sums, where these fit.
use Prim.Native.Nat.{ℕ}
use native.Mathlib.Omega.{arith}
use mathlib.Core.Path.{◌≡◌, refl, ◌∙◌}
use mathlib.Core.Bool.{true}
use mathlib.Core.List.{List}
use mathlib.Core.Option.{Option, none, some}
use borrow.Author.Tests.{leb-true}
use Rattle.base.proofs.Below.{all-at}
use Rattle.plan_rules.specs.Distances.{body_of}
use Rattle.plan_rules.proofs.KindThree.{body-cong}
use Rattle.links_rules.specs.Sums.{Sums}
use Rattle.links_rules.specs.Distances.{fits, sums_ok, distance_of}
use Rattle.links_words.specs.Lowered.{word_at}
use Rattle.links_sums.specs.Words.{word, HoldsSums}

word-distance : (x : Option ℕ) → fits x ≡ true → word x ≡ distance_of x
word-distance none h = refl
word-distance (some d) h = omega (arith, leb-true d 65534 h)

pub words-body :
    (D : Sums) (n : ℕ) (t : List ℕ) → HoldsSums D n t → sums_ok D n ≡ true → body_of 2 (word_at t) n ≡ body_of 2 (λ u e. distance_of (D u e)) n
unfolding sums_ok
words-body D n t h ok = body-cong 2 _ _ n (λ u e l o. h.are u e l o ∙ word-distance (D u e) (all-at _ n (all-at _ n ok u l) e o))
