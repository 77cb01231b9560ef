-- Document 01, "Refusal table": what a refused call returns and what it leaves.
use Rattle.std.specs.Prelude.{ℕ, zero, suc, Bool, false}

-- `value` where nothing is refused, else `refused`
abbrev pub unless_refused : {A : Type 0} → ℕ → A → A → A
unless_refused zero refused value = value
unless_refused (suc number) refused value = refused

-- "beside a refusal number every other returned field is zero or no"
abbrev pub field : ℕ → ℕ → ℕ
field number value = unless_refused number 0 value

abbrev pub flag_field : ℕ → Bool → Bool
flag_field number value = unless_refused number false value
