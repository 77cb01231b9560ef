-- The numbers of a plan's bytes stand for the distances of its network.
use Prim.Native.Nat.{ℕ, ◌+◌, ◌*◌, ◌≤◌, ◌<◌}
use mathlib.Core.List.{List}
use lib.ListN.{get_or}
use Rattle.plan_rules.specs.Distances.{highest, number_at, TwoOrFour}
use Rattle.plan_rules.proofs.Widths.{number-most, way-is, distance_is}
use Rattle.net_rules.specs.declared.Network.{Network}
use Rattle.net_rules.specs.Decoded.{decoded}
use Rattle.net_activate.specs.OnePass.{numbers_of}
use Rattle.net_activate.proofs.OnePass.{NumbersFrom}

pub numbers-from : (net : Network) (rows distances : List ℕ) (w : ℕ) → TwoOrFour net.width → ((i : ℕ) → get_or distances i 0 < 256)
    → NumbersFrom (numbers_of net distances w) (decoded net rows distances) w
numbers-from net rows distances w t b =
    let most : (e : ℕ) → number_at net.width distances (w * net.n + e) ≤ highest net.width = λ e. number-most _ distances _ b in
    record {
      bounded = most;
      ways = λ e. way-is net.width _ t (most e);
      distances = λ e. distance_is net.width _ t (most e);
    }
