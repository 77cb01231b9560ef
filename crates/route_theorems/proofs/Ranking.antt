-- Ranks of a literal network: that they fall along every reliance is worked out.
use Prim.Native.Nat.{ℕ, ◌<◌}
use mathlib.Core.Path.{◌≡◌, refl}
use mathlib.Core.Bool.{Bool, true, false, not, ◌||◌}
use lib.Dec.{ltb, leb}
use borrow.Author.Tests.{ltb-true, leb-true}
use Rattle.base.specs.Below.{all_below}
use Rattle.base.proofs.Below.{all-at}
use Rattle.base.proofs.Numbers.{not-both}
use Rattle.route_rules.specs.Instance.{Instance}
use Rattle.route_rules.specs.Reliance.{relies}
use Rattle.route_theorems.specs.Claims.{Ranked}

-- the rank falls from w to v, or w does not rely on v
abbrev pub falls_at : Instance → (ℕ → ℕ) → ℕ → ℕ → Bool
falls_at I rank w v = not (relies I w v) || ltb (rank v) (rank w)

module _ (I : Instance) (rank : ℕ → ℕ) (R : ℕ) where
  falls : (w v : ℕ) → relies I w v ≡ true → falls_at I rank w v ≡ true → rank v < rank w
  falls w v h k = ltb-true (rank v) (rank w) (go (relies I w v) h k)
    where
      go : (b : Bool) → b ≡ true → (not b || ltb (rank v) (rank w)) ≡ true → ltb (rank v) (rank w) ≡ true
      go true p q = q
      go false p q = not-both false p refl

  pub ranked-by : all_below (λ w. all_below (falls_at I rank w) I.n) I.n ≡ true → all_below (λ w. leb (rank w) R) I.n ≡ true
      → Ranked I rank R
  ranked-by fall low =
      record {
        falls = λ w v l m h.
            falls w v h (all-at (falls_at I rank w) I.n (all-at (λ w. all_below (falls_at I rank w) I.n) I.n fall w l) v m);
        highest = λ w l. leb-true (rank w) R (all-at (λ w. leb (rank w) R) I.n low w l);
      }
