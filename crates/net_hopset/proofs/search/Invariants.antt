-- `net_hopset::search`: the numbers from x on were tried, and `best` is the best of them.
use Rattle.std.proofs.Common.{◌≡◌, length}
use Rattle.route_rules.specs.Instance.{Instance}
use Rattle.net_hopset.specs.Places.{Places, Tried, Best}
use Rattle.net_hopset.proofs.search.Given as goal

abbrev pub invariant-loop-x : goal.invariant-loop-x
invariant-loop-x l = record {
  size : length l.served ≡ 64;
  tried : (I : Instance) → Places I l.rows l.k l.all → Tried I l.k l.served l.x × Best I l.k l.best l.x;
}
