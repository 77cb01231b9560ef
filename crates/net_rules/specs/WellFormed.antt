-- What the code relies on of an instance that it holds.
use Rattle.std.specs.Prelude.{ℕ, ◌≤◌, ◌<◌, ◌≡◌, List}
use Rattle.base.specs.Bits.{bits}
use Rattle.plan_rules.specs.Distances.{DistanceTable}
use Rattle.net_rules.specs.declared.Network.{Network}

pub record WellFormed (net : Network) (rows distances : List ℕ) : Type 0 where
  -- a word has a bit for every router
  pub count : net.n ≤ 64
  -- every neighbour is a router
  pub neighbours : (w v : ℕ) → bits rows w v ≡ 1 → v < net.n
  -- there is a distance for every pair
  pub pairs : DistanceTable net.width distances net.n
