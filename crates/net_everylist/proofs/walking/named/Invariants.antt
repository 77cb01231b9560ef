-- `net_everylist::walking::named`: the clients named in i steps.
use Rattle.std.proofs.Common.{ℕ, ◌+◌, ◌<◌, ◌≡◌, true}
use Rattle.base.specs.Below.{any_below}
use Rattle.route_rules.specs.Instance.{Instance, is_router}
use Rattle.everylist_rules.specs.Pairs.{has_left, nearest_foreign, walk}
use Rattle.net_everylist.specs.Walking.{Steps}
use Rattle.net_everylist.proofs.Words.{is_in}
use Rattle.net_everylist.proofs.walking.named.Given as goal

-- where the walk is, and whom it has named, i steps after step k
pub record Named (I : Instance) (k i w word : ℕ) : Type 0 where
  pub at : w ≡ walk I (k + i)
  pub clients : (e : ℕ) → is_in word e ≡ any_below (λ j. is_router e (nearest_foreign I (walk I (k + j)))) i

abbrev pub invariant-loop-i : goal.invariant-loop-i
invariant-loop-i l = record {
  small : l.w < 64;
  named : (I : Instance) (k : ℕ) → Steps I l.clients l.nexts → any_below (has_left I) I.n ≡ true → l.start ≡ walk I k
      → Named I k l._i l.w l.word;
}
