-- Reliances as the code finds and holds them, those of all routers as rows of bits.
use Rattle.std.specs.Prelude.{ℕ, ◌≤◌, ◌<◌, ◌≡◌, true, false, ◌&&◌, ◌||◌, List, eqb, length, get_or}
use Rattle.std.proofs.Math.Option.{Option}
use Rattle.base.specs.Bits.{bit_n}
use Rattle.base.specs.Seek.{flag}
use Rattle.route_rules.specs.Instance.{Instance, is_router}
use Rattle.route_rules.specs.Reliance.{best_client, relies}
use Rattle.net_rules.specs.RouterBytes.{as_router}

-- w is an unlisted reflector, whose reliances rule 3 decides, and the byte `own` its best client
pub record UnlistedReflector (I : Instance) (w own : ℕ) : Type 0 where
  pub unlisted : I.listed w ≡ false
  pub reflector : I.reflector w ≡ true
  pub client : as_router own ≡ best_client I w

-- a word with bit v for each reflector v of a row, and for the best client, if there is one
abbrev pub Candidates : ℕ → ℕ → Option ℕ → ℕ → Type 0
Candidates reflectors row own r = (v : ℕ) → eqb (bit_n r v) 1 ≡ ((eqb (bit_n row v) 1 && eqb (bit_n reflectors v) 1) || is_router v own)

-- a word with bit v for each router v below k that w relies on, and no other bit
pub record RelianceRow (I : Instance) (w k row : ℕ) : Type 0 where
  pub within : (v : ℕ) → v < k → bit_n row v ≡ flag (relies I w v)
  pub past : (v : ℕ) → k ≤ v → bit_n row v ≡ 0

-- such a word for each router below n; the rows from n on are as they were
pub record RelianceRows (I : Instance) (before rows : List ℕ) : Type 0 where
  pub size : length rows ≡ length before
  pub routers : (w : ℕ) → w < I.n → RelianceRow I w I.n (get_or rows w 0)
  pub rest : (w : ℕ) → I.n ≤ w → get_or rows w 0 ≡ get_or before w 0
