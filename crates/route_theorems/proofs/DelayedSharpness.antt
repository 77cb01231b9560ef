-- The bound of delayed reading cannot be lowered, no earlier round may be read, and each neighbour has a moment of its own.
use Prim.Native.Nat.{ℕ, zero, suc, ◌≤◌}
use native.Mathlib.Omega.{arith}
use mathlib.Core.Path.{◌≡◌, refl, ◌∙◌, sym, ap}
use mathlib.Core.Bool.{Bool, true, false, ◌&&◌}
use mathlib.Core.List.{List, [], ◌∷◌}
use lib.Dec.{leb, eqb}
use lib.ListN.{length, get_or}
use borrow.Author.Tests.{leb-true}
use Rattle.base.specs.Below.{all_below, any_below}
use Rattle.base.specs.Best.{keep_best, best}
use Rattle.base.specs.Seek.{seek}
use Rattle.base.specs.Tab.{tab}
use Rattle.base.proofs.Below.{all-at}
use Rattle.route_rules.specs.Instance.{Instance, Route, nothing, via}
use Rattle.route_rules.specs.Preference.{nearer, has_step, hops, prefers, prefers_by}
use Rattle.route_rules.specs.Reliance.{listed_client_of, best_client, offer, better_offer, relies}
use Rattle.route_rules.specs.Activation.{reflects, advertises, hears, sender_of, route_to, choice, choose, held, entry_ok, table_ok}
use Rattle.route_rules.specs.Rounds.{acted, rounds_from, rounds}
use Rattle.route_rules.specs.Examples.{among, network}
use Rattle.route_theorems.specs.Settled.{choose_all, chosen_after, settled_table}
use Rattle.route_theorems.specs.Claims.{Ranked, IsTable}
use Rattle.route_theorems.specs.Delayed.{ended_by, round_start, earliest, may_read, may_read_earlier, Moments, Allowed, Unsettled}
use Rattle.route_theorems.specs.Delayed.{DelayedBoundIsSharp, EarlierIsTooEarly, OwnMoments}
use Rattle.route_theorems.proofs.Ranking.{ranked-by}
use Rattle.route_theorems.proofs.DelayedRuns.{up-to-the-act, one_more, tables_to, table_at, tables-run}

-- A run is given by the moment that each act reads. What is to be shown of it is worked out.
module _ (I : Instance) (rank : ℕ → ℕ) (R : ℕ) (start : List Route) (reads : ℕ → List ℕ → ℕ → ℕ → Bool) (acts moments : List ℕ) where
  abbrev moment_of : Moments
  moment_of i v = get_or moments i 0

  -- router w holds a route in the end, and is to hold none
  unsettled-run : Ranked I rank R → IsTable I start → table_ok I start ≡ true
      → all_below (λ i. reads I.n acts i (get_or moments i 0)) (length acts) ≡ true
      → all_below (λ i. leb (get_or moments i 0) i) (length acts) ≡ true
      → (w e s : ℕ) → held (table_at I acts moment_of start (length acts)) w ≡ via e s → held (settled_table I R) w ≡ nothing
      → Unsettled reads R (rounds I.n acts)
  unfolding tables_to
  unsettled-run r table legal allowed past w e s holds none =
      record {
        network = I;
        rank = rank;
        ranked = r;
        acts = acts;
        moment = moment_of;
        read = λ i v l b near. all-at (λ i. reads I.n acts i (get_or moments i 0)) (length acts) allowed i l;
        at = table_at I acts moment_of start;
        run =
            tables-run I acts moment_of start
            (λ i v l b near. leb-true _ i (all-at (λ i. leb (get_or moments i 0) i) (length acts) past i l)) table;
        legal = legal;
        made = refl;
        unsettled =
            λ q.
            let z : ◌≡◌ {A = Route} (via e s) nothing = sym holds ∙ ap (λ t. held t w) q ∙ none in
            let z : ◌≡◌ {A = ℕ} 0 1 = cc in
            omega arith;
      }

-- Highest rank 0: reflectors 0 and 1, and the listed client 2 of 1, to which 1 has no way. Router 1 is left with the client's route.
cut_off : Instance
cut_off = network 3 (0 ∷ 1 ∷ []) [] [] (2 ∷ []) ((1 ∷ []) ∷ (0 ∷ 2 ∷ []) ∷ (1 ∷ []) ∷ []) [] ([] ∷ (2 ∷ []) ∷ [])

left_over : List Route
left_over = nothing ∷ via 2 2 ∷ via 2 2 ∷ []

no_rank : ℕ → ℕ
no_rank w = 0

cut-ranked : Ranked cut_off no_rank 0
unfolding
    cut_off no_rank among network relies best_client offer better_offer listed_client_of prefers hops has_step nearer best keep_best all_below
cut-ranked = ranked-by cut_off no_rank 0 refl refl

-- in the second round router 0 still reads router 1 as it stood at the start
pub sharp-at-0 : DelayedBoundIsSharp 0
unfolding
    cut_off left_over among network choose choice route_to sender_of hears advertises reflects prefers_by prefers hops has_step nearer best keep_best
    any_below all_below table_ok entry_ok settled_table chosen_after choose_all tab tables_to one_more may_read earliest round_start seek ended_by rounds
    rounds_from acted
sharp-at-0 =
    unsettled-run cut_off no_rank 0 left_over _ (0 ∷ 1 ∷ 2 ∷ 0 ∷ 1 ∷ 2 ∷ []) (0 ∷ 1 ∷ 2 ∷ 0 ∷ 4 ∷ 5 ∷ []) cut-ranked refl refl refl refl 0 2 1
    refl refl

-- .. and if it could in the third, three rounds would not settle it
pub too-early-at-0 : EarlierIsTooEarly 0
unfolding
    cut_off left_over among network choose choice route_to sender_of hears advertises reflects prefers_by prefers hops has_step nearer best keep_best
    any_below all_below table_ok entry_ok settled_table chosen_after choose_all tab tables_to one_more may_read_earlier may_read earliest round_start seek ended_by rounds
    rounds_from acted
too-early-at-0 =
    unsettled-run cut_off no_rank 0 left_over _ (0 ∷ 1 ∷ 2 ∷ 0 ∷ 1 ∷ 2 ∷ 0 ∷ 1 ∷ 2 ∷ []) (0 ∷ 1 ∷ 2 ∷ 0 ∷ 4 ∷ 5 ∷ 0 ∷ 7 ∷ 8 ∷ [])
    cut-ranked refl refl refl refl 0 2 1 refl refl

-- Highest rank 1: nobody is listed, and reflectors 0 and 1, with the hop step, have a client each, 2 and 3. Router 1 is left with a route to 3.
gone : Instance
gone = network 4 (0 ∷ 1 ∷ []) [] (0 ∷ 1 ∷ []) [] ((1 ∷ 2 ∷ []) ∷ (0 ∷ 3 ∷ []) ∷ (0 ∷ []) ∷ (1 ∷ []) ∷ []) [] []

old_route : List Route
old_route = nothing ∷ via 3 3 ∷ nothing ∷ nothing ∷ []

clients_rank : ℕ → ℕ
clients_rank w = get_or (0 ∷ 0 ∷ 1 ∷ 1 ∷ []) w 0

gone-ranked : Ranked gone clients_rank 1
unfolding
    gone clients_rank among network relies best_client offer better_offer listed_client_of prefers hops has_step nearer best keep_best all_below
gone-ranked = ranked-by gone clients_rank 1 refl refl

-- router 0 reads router 1 as it stood at the start in the second round too, and client 2 in the fourth what router 0 held before the third
pub sharp-at-1 : DelayedBoundIsSharp 1
unfolding
    gone old_route among network choose choice route_to sender_of hears advertises reflects prefers_by prefers hops has_step nearer best keep_best
    any_below all_below table_ok entry_ok settled_table chosen_after choose_all tab tables_to one_more may_read earliest round_start seek ended_by rounds
    rounds_from acted
sharp-at-1 =
    unsettled-run gone clients_rank 1 old_route _ (0 ∷ 1 ∷ 2 ∷ 3 ∷ 0 ∷ 1 ∷ 2 ∷ 3 ∷ 0 ∷ 1 ∷ 2 ∷ 3 ∷ 0 ∷ 1 ∷ 2 ∷ 3 ∷ [])
    (0 ∷ 1 ∷ 2 ∷ 3 ∷ 0 ∷ 5 ∷ 6 ∷ 7 ∷ 8 ∷ 9 ∷ 10 ∷ 11 ∷ 12 ∷ 13 ∷ 8 ∷ 15 ∷ []) gone-ranked refl refl refl refl 2 3 0 refl refl

-- Reflector 0 hears of the listed client 3 from reflectors 1 and 2. Router 1, which has no way to it, is left with its route.
two_ways : Instance
two_ways =
    network 4 (0 ∷ 1 ∷ 2 ∷ []) [] [] (3 ∷ []) ((1 ∷ 2 ∷ []) ∷ (0 ∷ 3 ∷ []) ∷ (0 ∷ 3 ∷ []) ∷ (1 ∷ 2 ∷ []) ∷ []) [] ([] ∷ (3 ∷ []) ∷ [])

-- router 2 takes the route up, then router 1 drops it, and router 0 reads router 1 as it stands then and router 2 as it stood at the start
three_acts : List ℕ
three_acts = 2 ∷ 1 ∷ 0 ∷ []

two_ways_moment : Moments
two_ways_moment i v = elim (eqb i 2 && eqb v 2) [ true ↦ 0 | false ↦ i ]

two_ways_start : List Route
two_ways_start = nothing ∷ via 3 3 ∷ nothing ∷ via 3 3 ∷ []

-- at no moment did both hold none
choices :
    (held (table_at two_ways three_acts two_ways_moment two_ways_start 3) 0 ≡ nothing)
    × (choose two_ways 0 (held (table_at two_ways three_acts two_ways_moment two_ways_start 0)) ≡ via 3 1)
    × (choose two_ways 0 (held (table_at two_ways three_acts two_ways_moment two_ways_start 1)) ≡ via 3 1)
    × (choose two_ways 0 (held (table_at two_ways three_acts two_ways_moment two_ways_start 2)) ≡ via 3 2)
unfolding
    two_ways three_acts two_ways_moment two_ways_start among network choose choice route_to sender_of hears advertises reflects prefers_by prefers hops
    has_step nearer best keep_best any_below tables_to one_more
choices = (refl, refl, refl, refl)

not_chosen : (m : ℕ) → m ≤ 2
    → held (table_at two_ways three_acts two_ways_moment two_ways_start 3) 0
    ≡ choose two_ways 0 (held (table_at two_ways three_acts two_ways_moment two_ways_start m)) → ⊥
not_chosen zero l q = let z : ◌≡◌ {A = ℕ} 0 1 = cc (choices.0, choices.1) in omega arith
not_chosen (suc zero) l q = let z : ◌≡◌ {A = ℕ} 0 1 = cc (choices.0, choices.2) in omega arith
not_chosen (suc (suc zero)) l q = let z : ◌≡◌ {A = ℕ} 0 1 = cc (choices.0, choices.3) in omega arith
not_chosen (suc (suc (suc m))) l q = omega arith

two_ways-legal : table_ok two_ways two_ways_start ≡ true
unfolding two_ways two_ways_start among network table_ok entry_ok all_below
two_ways-legal = refl

two_ways-allowed : all_below (λ i. all_below (λ v. may_read 4 three_acts i (two_ways_moment i v)) 4) 3 ≡ true
unfolding three_acts two_ways_moment may_read earliest round_start seek ended_by rounds rounds_from acted all_below
two_ways-allowed = refl

pub own-moments : OwnMoments
unfolding two_ways network three_acts two_ways_start tables_to
own-moments =
    record {
      network = two_ways;
      acts = three_acts;
      moment = two_ways_moment;
      allowed = allowed;
      at = table_at two_ways three_acts two_ways_moment two_ways_start;
      run = tables-run two_ways three_acts two_ways_moment two_ways_start (up-to-the-act two_ways three_acts two_ways_moment allowed) refl;
      legal = two_ways-legal;
      i = 2;
      applied = omega arith;
      differs = not_chosen;
    }
  where
    allowed : Allowed two_ways three_acts two_ways_moment
    allowed i v l b near =
        all-at (λ v. may_read 4 three_acts i (two_ways_moment i v)) 4
        (all-at (λ i. all_below (λ v. may_read 4 three_acts i (two_ways_moment i v)) 4) 3 two_ways-allowed i l) v b
