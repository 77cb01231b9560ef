-- `net_offers::best_clients`: each reflector below v has its best client.
use Rattle.std.proofs.Common.{ℕ, ◌≡◌, ◌<◌, length, get_or}
use Rattle.net_rules.specs.Decoded.{decoded}
use Rattle.net_offers.specs.OwnClient.{OwnClient}
use Rattle.net_offers.proofs.best_clients.Given as goal

abbrev pub invariant-loop-v : goal.invariant-loop-v
invariant-loop-v l = record {
  size : length l.best ≡ 64;
  below : (k : ℕ) → k < l.v → OwnClient (decoded l.net l.rows l.distances) k (get_or l.best k 0);
}
