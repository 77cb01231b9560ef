-- Searches among the numbers below a bound. A test is a number here: 0 is no, anything else is yes.
use Rattle.std.specs.Prelude.{ℕ, zero, suc, ◌+◌, min, max, Bool, true, false, ltb}

-- a Bool as such a test
abbrev pub flag : Bool → ℕ
flag true = 1
flag false = 0

-- s if it is below e; else e if x is a yes; else e + 1
abbrev pub seek_step : ℕ → ℕ → ℕ → ℕ
seek_step s e x = elim (ltb s e) [ true ↦ s | false ↦ elim x [ zero ↦ suc e | suc y ↦ e ] ]

-- the first j below n with f j a yes; n if there is none
unfoldable pub seek : (ℕ → ℕ) → ℕ → ℕ
seek f zero = zero
seek f (suc n) = seek_step (seek f n) n (f n)

-- the highest of f 0, .. , f (n - 1); 0 if n is 0
unfoldable pub highest : (ℕ → ℕ) → ℕ → ℕ
highest f zero = zero
highest f (suc n) = max (highest f n) (f n)

-- how many j below n have f j a yes
unfoldable pub count : (ℕ → ℕ) → ℕ → ℕ
count f zero = zero
count f (suc n) = count f n + min 1 (f n)
