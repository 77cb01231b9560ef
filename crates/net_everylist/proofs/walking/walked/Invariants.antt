-- `net_everylist::walking::walked`: after i steps.
use Rattle.std.proofs.Common.{ℕ, ◌+◌, ◌<◌, ◌≡◌, true, List}
use Rattle.base.specs.Below.{any_below}
use Rattle.route_rules.specs.Instance.{Instance}
use Rattle.everylist_rules.specs.Pairs.{has_left, walk}
use Rattle.net_everylist.specs.Walking.{Steps}
use Rattle.net_everylist.proofs.walking.walked.Given as goal

abbrev pub invariant-loop-i : goal.invariant-loop-i
invariant-loop-i l = record {
  small : l.w < 64;
  there : (I : Instance) (clients : List ℕ) (k : ℕ) → Steps I clients l.nexts → any_below (has_left I) I.n ≡ true → l.start ≡ walk I k
      → l.w ≡ walk I (k + l._i);
}
