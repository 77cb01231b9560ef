-- The bound cannot be lowered: highest rank 1, two rounds, and a client still holds what nobody has to give.
use Prim.Native.Nat.{ℕ}
use native.Mathlib.Omega.{arith}
use mathlib.Core.Path.{◌≡◌, refl, ◌∙◌, sym, ap}
use mathlib.Core.Bool.{Bool, true, false, ◌&&◌, ◌||◌}
use mathlib.Core.List.{List, [], ◌∷◌}
use lib.Dec.{ltb, leb, eqb}
use Rattle.base.specs.Below.{all_below, any_below}
use Rattle.base.specs.Best.{keep_best, best}
use Rattle.base.specs.Tab.{tab}
use Rattle.route_rules.specs.Instance.{Instance, Route, nothing, via}
use Rattle.route_rules.specs.Preference.{nearer, has_step, hops, prefers, prefers_by}
use Rattle.route_rules.specs.Reliance.{listed_client_of, best_client, offer, better_offer, relies}
use Rattle.route_rules.specs.Activation.{reflects, advertises, hears, sender_of, route_to, choice, choose, held, entry_ok, table_ok, activate, run_acts}
use Rattle.route_rules.specs.Rounds.{acted, rounds_from, rounds}
use Rattle.route_theorems.specs.Settled.{choose_all, chosen_after, settled_table}
use Rattle.route_theorems.specs.Claims.{Ranked, BoundIsSharp}
use Rattle.route_theorems.proofs.Ranking.{ranked-by}

session : ℕ → ℕ → ℕ → ℕ → Bool
session a b w v = eqb a w && eqb b v || eqb a v && eqb b w

-- reflectors 0 and 1, clients 2, 3 and 4; nobody hears of the one listed router
network : Instance
unfolding session
network =
    record {
      n = 5;
      reflector = λ v. ltb v 2;
      skips = λ v. false;
      hop = λ v. false;
      neighbour = λ w v. session 0 1 w v || session 0 2 w v || session 1 3 w v;
      dist = λ w e. 0;
      way = λ w e. true;
      listed = λ v. eqb v 4;
    }

-- clients 2 and 3 rely on their reflectors
rank : ℕ → ℕ
rank v = elim (leb 2 v && ltb v 4) [ true ↦ 1 | false ↦ 0 ]

-- router 1 is left with a route to 3
start : List Route
start = nothing ∷ via 3 3 ∷ nothing ∷ nothing ∷ via 4 4 ∷ []

-- router 0 takes it up before router 1 drops it, and router 2 before router 0 drops it
acts : List ℕ
acts = 0 ∷ 1 ∷ 2 ∷ 3 ∷ 4 ∷ 2 ∷ 0 ∷ 1 ∷ 3 ∷ 4 ∷ []

two-rounds : rounds 5 acts ≡ 2
unfolding acts rounds rounds_from acted all_below
two-rounds = refl

legal : table_ok network start ≡ true
unfolding network start table_ok entry_ok all_below
legal = refl

still-held : held (run_acts network start acts) 2 ≡ via 3 0
unfolding network start acts run_acts activate choose choice route_to sender_of hears advertises reflects prefers_by prefers hops has_step nearer best keep_best any_below
still-held = refl

settled-none : held (settled_table network 1) 2 ≡ nothing
unfolding network settled_table chosen_after choose_all tab choose choice route_to sender_of hears advertises reflects prefers_by prefers hops has_step nearer best keep_best any_below
settled-none = refl

-- the ranks fall along every reliance of these five, and none is above 1
ranked : Ranked network rank 1
unfolding
    network
    rank
    relies
    best_client
    offer
    better_offer
    listed_client_of
    prefers
    hops
    has_step
    nearer
    best
    keep_best
    all_below
ranked = ranked-by network rank 1 refl refl

pub bound-is-sharp : BoundIsSharp
unfolding network start
bound-is-sharp =
    record {
      network = network;
      rank = rank;
      R = 1;
      ranked = ranked;
      start = start;
      table = refl;
      legal = legal;
      acts = acts;
      count = two-rounds;
      unsettled =
          λ e.
          let q : ◌≡◌ {A = Route} (via 3 0) nothing = sym still-held ∙ ap (λ t. held t 2) e ∙ settled-none in
          let z : ◌≡◌ {A = ℕ} 0 1 = cc in
          omega arith;
    }
