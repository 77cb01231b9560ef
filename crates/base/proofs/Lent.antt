-- Which of the two is before the call and which after it.
use mathlib.Core.Path.{◌≡◌, refl}
use denote.MutBor.{MutBor}
use denote.Triple.Both.{Both}
use Rattle.base.specs.Lent.{lent}

module _ {A : Type 0} (x : Both (MutBor A) (MutBor A)) where
  pub lent-before : (lent x).before ≡ x.entry.now
  lent-before = refl

  pub lent-after : (lent x).after ≡ x.exit.now
  lent-after = refl
