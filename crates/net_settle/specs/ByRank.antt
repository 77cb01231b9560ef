-- What the workers that write the settled table ask of their callers, and what they leave: every router acts once, in the order of
-- its rank.
use Rattle.std.specs.Prelude.{ℕ, ◌*◌, ◌≤◌, ◌<◌, ◌≡◌, cond, List, ◌⊎◌, length, drop}
use Rattle.base.specs.Seek.{highest}
use Rattle.graph_ranks.specs.Rank.{entry}
use Rattle.route_rules.specs.Instance.{Instance, Route, nothing, via}
use Rattle.route_rules.specs.Activation.{held}
use Rattle.route_theorems.specs.Settled.{settled_table}
use Rattle.route_theorems.specs.Claims.{Ranked}
use Rattle.net_rules.specs.Decoded.{decoded}
use Rattle.net_rules.specs.WellFormed.{WellFormed}
use Rattle.net_rules.specs.declared.Network.{Network}
use Rattle.net_tables.specs.TableBytes.{route_at}

-- the highest of the first n bytes
abbrev pub highest_in : List ℕ → ℕ → ℕ
highest_in ranks n = highest (entry ranks) n

-- the bytes are ranks of the network's routers
pub record SettleAsked (net : Network) (rows distances ranks table : List ℕ) : Type 0 where
  pub formed : WellFormed net rows distances
  pub each : net.n ≤ length ranks
  pub long : 2 * net.n ≤ length table
  pub falls : Ranked (decoded net rows distances) (entry ranks) (highest_in ranks net.n)

-- a listed router's own route, and nothing for any other
abbrev pub first_route : Instance → ℕ → Route
first_route I v = cond (I.listed v) (via v v) nothing

-- what the router holds in the settled table
abbrev pub settled_route : Instance → List ℕ → ℕ → Route
settled_route I ranks v = held (settled_table I (highest_in ranks I.n)) v

-- the routers below k hold their first entries, and the bytes after the table are those of the start
pub record Started (I : Instance) (k : ℕ) (start buffer : List ℕ) : Type 0 where
  pub first : (v : ℕ) → v < k → route_at buffer v ≡ first_route I v
  pub rest : drop (2 * I.n) buffer ≡ drop (2 * I.n) start

-- every router holds its first entry or its settled one, those of ranks below r the settled one; the bytes after the table are those
-- of the start
pub record SettledBelow (I : Instance) (ranks : List ℕ) (r : ℕ) (start buffer : List ℕ) : Type 0 where
  pub either : (v : ℕ) → v < I.n → (route_at buffer v ≡ first_route I v) ⊎ (route_at buffer v ≡ settled_route I ranks v)
  pub below : (v : ℕ) → v < I.n → entry ranks v < r → route_at buffer v ≡ settled_route I ranks v
  pub rest : drop (2 * I.n) buffer ≡ drop (2 * I.n) start
