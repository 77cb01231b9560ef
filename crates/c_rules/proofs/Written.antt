-- What a result variable holds beside a refusal number, and beside none.
use Prim.Native.Nat.{ℕ}
use native.Mathlib.Omega.{arith}
use mathlib.Core.Path.{◌≡◌, refl, ◌∙◌, sym, ap}
use mathlib.Core.Bool.{Bool, true, false, cond}
use mir.Val.{bool_byte}
use Rattle.base.specs.Lent.{Lent}
use Rattle.base.specs.Seek.{flag}
use Rattle.plan_rules.specs.Refused.{unless_refused}
use Rattle.plan_rules.proofs.Refused.{when-given}

-- a variable that a call writes
abbrev pub wrote : {A : Type 0} → A → A → Lent A
wrote x y = record { before = x; after = y }

-- nothing is refused: the variable holds the call's field
pub written : {A : Type 0} (number : ℕ) (before zeroed value x : A) → number ≡ 0 → x ≡ unless_refused number zeroed value
    → x ≡ unless_refused number before value
written number before zeroed value x given h = h ∙ when-given number zeroed value given ∙ sym (when-given number before value given)

-- an answer that says "refused" comes with a number that is not 0, where the answer otherwise given does not say it
pub refused-by : {A : Type 0} (says_refused : A → ℕ) (number : ℕ) (answer refused otherwise : A)
    → answer ≡ unless_refused number refused otherwise → says_refused answer ≡ 1 → says_refused otherwise ≡ 0 → number ≡ 0 → ⊥
refused-by says_refused number answer refused otherwise h says not given =
    let z : ◌≡◌ {A = ℕ} 1 0 = sym says ∙ ap says_refused (h ∙ when-given number refused otherwise given) ∙ not in
    omega (arith, z)

pub cond-answers : {A : Type 0} (says_refused : A → ℕ) (b : Bool) (x y : A) → says_refused x ≡ 0 → says_refused y ≡ 0
    → says_refused (cond b x y) ≡ 0
cond-answers f true x y hx hy = hx
cond-answers f false x y hx hy = hy

-- a Bool stored as a byte is its flag
pub as_byte : (b : Bool) → bool_byte b ≡ flag b
as_byte true = refl
as_byte false = refl
