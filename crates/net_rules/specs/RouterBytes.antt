-- A router, or none, in a byte.
use Rattle.std.specs.Prelude.{ℕ, cond, eqb}
use Rattle.std.proofs.Math.Option.{Option, none, some}

-- a router's number in a byte; 255 is none
unfoldable pub as_router : ℕ → Option ℕ
as_router x = cond (eqb x 255) none (some x)
