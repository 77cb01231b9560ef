-- Examples that tell rows 8, 15, 9 and 10 of the refusal table from a misreading of them, on the plan of three routers and two lists that
-- crate plan_examples gives in literal bytes; row 15 over networks. Beside each stands what a misreading gives.
use Rattle.std.specs.Prelude.{ℕ, ◌%◌, min, max, ◌≡◌, true, false, not, cond, ◌&&◌, ◌||◌, List, [], ◌∷◌, ltb, eqb}
use Rattle.plan_examples.specs.Plans.{three_routers}
use Rattle.route_rules.specs.Instance.{Instance}
use Rattle.call_rules.specs.Refusals.{egress_list_refusal, compare_refusal, relies_refusal, verdict_refusal, few_grouped, steady_refusal, hop_set_refusal, grade_refusal, activate_refusal, run_refusal, figures_refusal, every_list_refusal}

-- tables for list 0: one that obeys its rule, one in which 2 holds a route from 0, which is not its neighbour, and one of 5 bytes
unfoldable pub lent : List ℕ
lent = 255 ∷ 255 ∷ 1 ∷ 1 ∷ 255 ∷ 255 ∷ []

unfoldable pub broken : List ℕ
broken = 255 ∷ 255 ∷ 1 ∷ 1 ∷ 1 ∷ 0 ∷ []

unfoldable pub short : List ℕ
short = 255 ∷ 255 ∷ 1 ∷ 1 ∷ 255 ∷ []

-- a byte for each router, and one fewer
unfoldable pub three : List ℕ
three = 9 ∷ 9 ∷ 9 ∷ []

unfoldable pub two : List ℕ
two = 9 ∷ 9 ∷ []

-- n routers: listed clients 0 and 1, and reflectors from 2 on, in sessions with one another and with the client of their parity; each is
-- nearer to the other client. So all the reflectors are one group.
unfoldable pub crossed : (n : ℕ) → Instance
crossed n =
    record {
      n = n;
      reflector = λ v. ltb 1 v;
      skips = λ v. false;
      hop = λ v. false;
      neighbour = λ w v. not (eqb w v) && (ltb 1 (min w v) || (ltb 1 (max w v) && eqb (w % 2) (v % 2)));
      dist = λ w e. cond (eqb (w % 2) e) 10 6;
      way = λ w e. true;
      listed = λ v. ltb v 2;
    }

pub record RefusalsExamples : Type 0 where
  -- row 8: "the list asked for is m or more"
  pub last_list : egress_list_refusal three_routers 1 ≡ 0  -- m - 1 or more: 8
  pub list_at_m : egress_list_refusal three_routers 2 ≡ 8  -- above m: 0
  -- ".. or a router asked for, .. is n or more"; "Each router number handed over in these is a router asked for."
  pub last_routers : compare_refusal three_routers 2 2 2 ≡ 0  -- n - 1 or more: 8
  pub router_at_n : compare_refusal three_routers 3 0 0 ≡ 8  -- above n: 0
  pub first_at_n : compare_refusal three_routers 0 3 0 ≡ 8  -- not asked for: 0
  pub second_at_n : compare_refusal three_routers 0 0 3 ≡ 8  -- not asked for: 0
  pub relying_at_n : relies_refusal three_routers 0 3 0 ≡ 8  -- not asked for: 0
  pub other_at_n : relies_refusal three_routers 0 0 3 ≡ 8  -- not asked for: 0
  pub activated_last : activate_refusal three_routers 0 2 lent ≡ 0  -- n - 1 or more: 8
  pub activated_at_n : activate_refusal three_routers 0 3 lent ≡ 8  -- above n: 0
  -- ".. or named in a sequence of acts"
  pub last_named : run_refusal three_routers 0 (0 ∷ 2 ∷ []) lent ≡ 0  -- n - 1 or more: 8
  pub named_at_n : run_refusal three_routers 0 (0 ∷ 3 ∷ []) lent ≡ 8  -- by the first act: 0
  -- row 9: "The verdict call needs n bytes for labels, n for ranks, 2n for the settled table, n for the ring."
  pub long_enough : verdict_refusal three_routers 0 three three lent three ≡ 0  -- a byte more: 9
  pub labels_short : verdict_refusal three_routers 0 two three lent three ≡ 9  -- no need of it: 0
  pub ranks_short : verdict_refusal three_routers 0 three two lent three ≡ 9
  pub table_short : verdict_refusal three_routers 0 three three short three ≡ 9  -- n for the table: 0
  pub cycle_short : verdict_refusal three_routers 0 three three lent two ≡ 9
  -- row 15: "more than 12 routers lie in such groups"
  pub twelve_grouped : few_grouped (crossed 14) ≡ true  -- 12 or more: false; of all routers: false
  pub thirteen_grouped : few_grouped (crossed 15) ≡ false
  -- row 9: "The call needs two bytes for each number listed": here one
  pub steady_long : steady_refusal three_routers 1 two ≡ 0  -- n bytes: 9
  pub steady_short : steady_refusal three_routers 1 (9 ∷ []) ≡ 9  -- a byte a number, or no need of it: 0
  -- "after 8"
  pub steady_list_at_m : steady_refusal three_routers 2 [] ≡ 8  -- the last: 9
  pub hop_set_list_at_m : hop_set_refusal three_routers 2 ≡ 8  -- no list asked for: 0
  pub hop_set_of_a_list : hop_set_refusal three_routers 1 ≡ 0
  pub grade_list_at_m : grade_refusal three_routers 2 ≡ 8  -- no list asked for: 0
  pub grade_of_a_list : grade_refusal three_routers 1 ≡ 0
  -- "An act or a run needs 2n bytes of table"
  pub activated_in_five : activate_refusal three_routers 0 0 short ≡ 9  -- n bytes: 0
  -- "The call needs n bytes for the counts by rank and n for those by router"
  pub counts_long : figures_refusal three_routers three three ≡ 0  -- a byte more: 9
  pub rank_counts_short : figures_refusal three_routers two three ≡ 9  -- by the longer of the two: 0
  pub router_counts_short : figures_refusal three_routers three two ≡ 9  -- by the counts by rank alone: 0
  -- the call on every list needs n bytes for the list that it may give
  pub every_list_long : every_list_refusal three_routers three ≡ 0  -- a byte more: 9
  pub every_list_short : every_list_refusal three_routers two ≡ 9  -- no need of it: 0
  -- row 10: "a held-route table breaks its rule"
  pub table_broken : activate_refusal three_routers 0 0 broken ≡ 10  -- with any router as sender: 0
  -- "the first check in order that fails now decides" (document 02)
  pub eight_before_nine : activate_refusal three_routers 0 3 short ≡ 8  -- the last: 9
  pub eight_before_nine_of_a_verdict : verdict_refusal three_routers 2 two three lent three ≡ 8  -- the last: 9
  pub plan_before_nine : figures_refusal [] two two ≡ 1  -- the last: 9
  pub plan_before_nine_of_every_list : every_list_refusal [] [] ≡ 1  -- by the length alone: 0
  pub eight_before_ten : run_refusal three_routers 2 (0 ∷ []) broken ≡ 8  -- the last: 10
