-- Two networks: where all reflectors have the hop step rank 3 is reached, and where one of three has it the others are in a cycle.
use Prim.Native.Nat.{ℕ, suc}
use native.Mathlib.Omega.{arith}
use mathlib.Core.Path.{◌≡◌, refl}
use mathlib.Core.Bool.{Bool, true, cond}
use mathlib.Core.List.{[], ◌∷◌}
use lib.Dec.{eqb}
use lib.ListN.{get_or}
use borrow.Author.Tests.{eqb-true}
use Rattle.base.specs.Below.{all_below}
use Rattle.base.specs.Best.{keep_best, best}
use Rattle.base.specs.Seek.{highest}
use Rattle.base.proofs.Below.{all-at}
use Rattle.route_rules.specs.Instance.{Instance}
use Rattle.route_rules.specs.Preference.{nearer, has_step, hops, prefers}
use Rattle.route_rules.specs.Reliance.{listed_client_of, best_client, offer, better_offer, relies}
use Rattle.route_rules.specs.Examples.{among, network}
use Rattle.route_theorems.specs.HopStep.{last, more, ThreeIsReached, SomeIsNotEnough}

-- reflectors 0 and 1 with the step, and a client of each; that of 0 is listed
chained : Instance
chained =
    network 4 (0 ∷ 1 ∷ []) [] (0 ∷ 1 ∷ []) (2 ∷ []) ((1 ∷ 2 ∷ []) ∷ (0 ∷ 3 ∷ []) ∷ (0 ∷ []) ∷ (1 ∷ []) ∷ []) [] []

-- 0 relies on its client, 1 on 0, and client 3 on 1
rank : ℕ → ℕ
rank w = get_or (1 ∷ 2 ∷ 0 ∷ 3 ∷ []) w 0

obeys : ℕ → Bool
obeys w = eqb (rank w) (highest (λ v. cond (relies chained w v) (suc (rank v)) 0) 4)

all-obey : all_below obeys 4 ≡ true
unfolding
    chained rank obeys among network relies best_client offer better_offer listed_client_of prefers hops has_step nearer best keep_best all_below highest
all-obey = refl

pub three-is-reached : ThreeIsReached
unfolding chained network rank obeys
three-is-reached =
    record {
      network = chained;
      all = λ w l r. r;
      rank = rank;
      rule = λ w l. eqb-true (rank w) _ (all-at obeys 4 all-obey w l);
      at = 3;
      below = omega arith;
      is = refl;
    }

-- reflectors 0 with the step, 1 and 2, and clients 3 of 1 and 4 of 2, each nearer to the other's reflector
parted : Instance
parted =
    network 5 (0 ∷ 1 ∷ 2 ∷ []) [] (0 ∷ []) (3 ∷ 4 ∷ [])
    ((1 ∷ []) ∷ (0 ∷ 2 ∷ 3 ∷ []) ∷ (1 ∷ 4 ∷ []) ∷ (1 ∷ []) ∷ (2 ∷ []) ∷ [])
    ([] ∷ (0 ∷ 0 ∷ 0 ∷ 10 ∷ 6 ∷ []) ∷ (0 ∷ 0 ∷ 0 ∷ 6 ∷ 10 ∷ []) ∷ []) []

pub some-is-not-enough : SomeIsNotEnough
unfolding parted among network relies best_client offer better_offer listed_client_of prefers hops has_step nearer best keep_best
some-is-not-enough =
    record { network = parted; has = 0; step = refl; at = 1; below = omega arith; cycle = more {v = 2} refl (last refl) }
