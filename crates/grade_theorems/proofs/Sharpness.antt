-- The rounds of a suspect list cannot be lowered: grade 1 within four rounds, and after three a client still holds nothing.
use Prim.Native.Nat.{ℕ}
use native.Mathlib.Omega.{arith}
use mathlib.Core.Path.{◌≡◌, refl, ◌∙◌, sym, ap}
use mathlib.Core.Bool.{true, false}
use mathlib.Core.List.{List, [], ◌∷◌}
use lib.Dec.{ltb}
use lib.ListN.{get_or}
use borrow.Author.Tests.{ltb-true}
use Rattle.base.specs.Below.{all_below, any_below}
use Rattle.base.specs.Best.{keep_best, best}
use Rattle.base.specs.Seek.{seek, highest, count}
use Rattle.base.specs.Tab.{tab}
use Rattle.base.proofs.Below.{all-at}
use Rattle.graph_groups.specs.Closure.{closure, closing}
use Rattle.graph_groups.specs.Groups.{together, label, stable, grouped}
use Rattle.graph_ranks.specs.Rank.{rank_over, ranks_by_chains, rank}
use Rattle.route_rules.specs.Instance.{Instance, Route, nothing, via}
use Rattle.route_rules.specs.Preference.{nearer, has_step, hops, prefers, prefers_by}
use Rattle.route_rules.specs.Reliance.{listed_client_of, best_client, offer, better_offer, relies, reliance}
use Rattle.route_rules.specs.Activation.{reflects, advertises, hears, sender_of, route_to, choice, choose, held, entry_ok, table_ok, activate, run_acts}
use Rattle.route_rules.specs.Rounds.{ActsBelow, acted, rounds_from, rounds}
use Rattle.route_rules.specs.Examples.{among, network}
use Rattle.steady_rules.specs.Numbers.{nth_of, numbers_where}
use Rattle.steady_rules.specs.Equations.{solves, carried, completed, solutions, stage}
use Rattle.steady_rules.specs.OwnRoutes.{overruled, keeps_own}
use Rattle.steady_rules.specs.Steady.{steady_numbers}
use Rattle.grade_rules.specs.Machine.{rest_within, move_for, stuck, loops, longest}
use Rattle.grade_rules.specs.Moving.{foremost, toggled, machine}
use Rattle.grade_rules.specs.Grade.{grade, rest_rounds, grade_rounds}
use Rattle.grade_theorems.specs.GradeMeans.{RestIsSharp}

-- reflectors 0, 1 and 2 in a row, with clients 3, 4 and 5; 1 and 2 prefer each other's client to their own
on_a_row : Instance
unfolding network among
on_a_row =
    network 6 (0 ∷ 1 ∷ 2 ∷ []) [] [] (4 ∷ 5 ∷ [])
    ((1 ∷ 3 ∷ []) ∷ (0 ∷ 2 ∷ 4 ∷ []) ∷ (1 ∷ 5 ∷ []) ∷ (0 ∷ []) ∷ (1 ∷ []) ∷ (2 ∷ []) ∷ [])
    ((0 ∷ 0 ∷ 0 ∷ 10 ∷ 10 ∷ 10 ∷ []) ∷ (0 ∷ 0 ∷ 0 ∷ 30 ∷ 10 ∷ 6 ∷ []) ∷ (0 ∷ 0 ∷ 0 ∷ 30 ∷ 6 ∷ 10 ∷ []) ∷ [])
    []

-- reflectors 0 and 1 are left with routes to 0
start : List Route
start = via 0 3 ∷ via 0 4 ∷ nothing ∷ nothing ∷ via 4 4 ∷ via 5 5 ∷ []

-- in the first round 1 and 2 take up what was left, in the second 0 acts before 1 has dropped it, and in the third 3 before 0 has chosen
acts : List ℕ
acts = 4 ∷ 5 ∷ 2 ∷ 1 ∷ 0 ∷ 3 ∷ 4 ∷ 5 ∷ 0 ∷ 1 ∷ 2 ∷ 3 ∷ 4 ∷ 5 ∷ 1 ∷ 2 ∷ 3 ∷ 0 ∷ []

-- a suspect list of grade 1, at rest within four rounds
graded : (stable (closure (reliance on_a_row) 6) 6 ≡ false) × (grade on_a_row ≡ 1) × (grade_rounds on_a_row ≡ 4)
unfolding
    on_a_row network among all_below any_below keep_best best seek highest count tab closing together label stable grouped rank_over ranks_by_chains rank
    nearer has_step hops prefers prefers_by listed_client_of best_client offer better_offer relies
    nth_of numbers_where solves carried completed solutions stage overruled keeps_own steady_numbers
    rest_within move_for stuck loops longest foremost toggled machine grade rest_rounds grade_rounds
graded = (refl, refl, refl)

three-rounds : rounds 6 acts ≡ 3
unfolding acts rounds rounds_from acted all_below
three-rounds = refl

below : ActsBelow 6 acts
unfolding acts all_below
below i l = ltb-true (get_or acts i 0) 6 (all-at (λ i. ltb (get_or acts i 0) 6) 18 refl i l)

legal : table_ok on_a_row start ≡ true
unfolding on_a_row network among start table_ok entry_ok all_below
legal = refl

-- what router 3 then holds, and what it chooses
unsettled : (held (run_acts on_a_row start acts) 3 ≡ nothing) × (held (activate on_a_row 3 (run_acts on_a_row start acts)) 3 ≡ via 4 0)
unfolding
    on_a_row network among start acts run_acts activate choose choice route_to sender_of hears advertises reflects
    prefers_by prefers hops has_step nearer best keep_best any_below
unsettled = (refl, refl)

pub rest-is-sharp : RestIsSharp
unfolding on_a_row network start acts
rest-is-sharp =
    record {
      network = on_a_row;
      suspect = graded.0;
      always = graded.1;
      start = start;
      is_table = refl;
      legal = legal;
      acts = acts;
      below = below;
      round_fewer = omega (arith, three-rounds, graded.2);
      router = 3;
      is_router = omega arith;
      changes =
          λ e.
          let q : ◌≡◌ {A = Route} (via 4 0) nothing = sym unsettled.1 ∙ ap (λ t. held t 3) e ∙ unsettled.0 in
          let z : ◌≡◌ {A = ℕ} 0 1 = cc in
          omega arith;
    }
