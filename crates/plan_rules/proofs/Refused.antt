-- What stands beside a refusal number, and beside none.
use Prim.Native.Nat.{ℕ, zero, suc}
use mathlib.Core.Path.{◌≡◌, refl}
use Rattle.plan_rules.specs.Refused.{unless_refused}

pub when-refused : {A : Type 0} (number : ℕ) (refused value : A) → (number ≡ 0 → ⊥) → unless_refused number refused value ≡ refused
when-refused zero refused value h = absurd (h refl)
when-refused (suc number) refused value h = refl

pub when-given : {A : Type 0} (number : ℕ) (refused value : A) → number ≡ 0 → unless_refused number refused value ≡ value
when-given number refused value h = rw h
