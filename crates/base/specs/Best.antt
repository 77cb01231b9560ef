-- The best candidate below a bound, by any comparison of two numbers.
use Rattle.std.specs.Prelude.{ℕ, zero, suc, Bool, true, false, cond}
use Rattle.std.proofs.Math.Option.{Option, none, some}

-- of the best so far and k: k if it is a candidate and comes before the best so far, or is the first
unfoldable pub keep_best : (ℕ → ℕ → Bool) → Bool → ℕ → Option ℕ → Option ℕ
keep_best before false k b = b
keep_best before true k none = some k
keep_best before true k (some b) = cond (before k b) (some k) (some b)

-- the candidate below n before which no other comes
unfoldable pub best : (ℕ → ℕ → Bool) → (ℕ → Bool) → ℕ → Option ℕ
best before candidate zero = none
best before candidate (suc n) = keep_best before (candidate n) n (best before candidate n)
