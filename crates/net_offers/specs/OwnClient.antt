-- A reflector's best client as the code finds and holds it.
use Rattle.std.specs.Prelude.{ℕ, ◌<◌, ◌≡◌, true, ◌&&◌, List, eqb, get_or}
use Rattle.base.specs.Bits.{bit_n}
use Rattle.route_rules.specs.Instance.{Instance}
use Rattle.route_rules.specs.Reliance.{listed_client_of, best_client}
use Rattle.net_rules.specs.RouterBytes.{as_router}

-- a word with bit e for each listed client e that v neighbours; there may be no way to it
pub record ListedClients (I : Instance) (v r : ℕ) : Type 0 where
  pub marks : (e : ℕ) → listed_client_of I v e ≡ (eqb (bit_n r e) 1 && I.way v e)
  pub near : (e : ℕ) → bit_n r e ≡ 1 → I.neighbour v e ≡ true

-- the byte `own` is the best client of v if that is a reflector; of a client nothing is said, and no rule asks
abbrev pub OwnClient : Instance → ℕ → ℕ → Type 0
OwnClient I v own = I.reflector v ≡ true → as_router own ≡ best_client I v

-- .. and so is byte v of `best`, for every router v
abbrev pub OwnClients : Instance → List ℕ → Type 0
OwnClients I best = (v : ℕ) → v < I.n → OwnClient I v (get_or best v 0)
