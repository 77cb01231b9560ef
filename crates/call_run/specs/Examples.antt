-- Examples that tell what an activation and a run return and leave from a misreading of it, on the plans of three routers and on the plan
-- of M3, which crate plan_examples gives in literal bytes. Beside each stands what a misreading gives.
use Rattle.std.specs.Prelude.{ℕ, ◌≡◌, true, false, List, [], ◌∷◌, set}
use Rattle.plan_examples.specs.Plans.{three_routers, nobody_between, small_plan, m3_plan}
use Rattle.call_run.specs.Activate.{activate_table}
use Rattle.call_run.specs.Run.{run_applied, run_rounds, run_exhausted, run_table}

-- for list 0: "unlisted hold nothing", with one byte after the table
unfoldable pub lent : List ℕ
lent = 255 ∷ 255 ∷ 1 ∷ 1 ∷ 255 ∷ 255 ∷ 9 ∷ []

-- 0 and 2 hold the route of 1, which was listed and holds nothing now
unfoldable pub left_over : List ℕ
left_over = 1 ∷ 1 ∷ 255 ∷ 255 ∷ 1 ∷ 1 ∷ 9 ∷ []

-- M3's plan with role 4, or 5, for router 0, in byte 26: it is 10 to 2, its client, and 6 to 3, the client of 1
abbrev pub role4_plan : List ℕ
role4_plan = set m3_plan 26 4

abbrev pub role5_plan : List ℕ
role5_plan = set m3_plan 26 5

-- .. and with 65,535 from 0 to 2, in bytes 56 and 57
abbrev pub role4_cut_off : List ℕ
role4_cut_off = set (set role4_plan 56 255) 57 255

-- M3's routers with role 4 for router 0, 7 from it to reflector 1, in byte 54, and the one list 1,2
abbrev pub reflector_listed : List ℕ
reflector_listed = set (set (small_plan 6 6 (1 ∷ 2 ∷ 1 ∷ 2 ∷ [])) 26 4) 54 7

-- for M3's list 2,3: reflector 1 holds 3 from 3
unfoldable pub lent_m3 : List ℕ
lent_m3 = 255 ∷ 255 ∷ 3 ∷ 3 ∷ 2 ∷ 2 ∷ 3 ∷ 3 ∷ []

pub record RunExamples : Type 0 where
  -- "the acts applied (the smaller of limit and sequence length), the whole rounds in them, and 'spent' exactly if the sequence is
  -- longer than the limit"
  pub applied_to_the_limit : run_applied 0 (0 ∷ 2 ∷ 1 ∷ []) 2 ≡ 2  -- the length: 3
  pub applied_to_the_end : run_applied 0 (0 ∷ 2 ∷ 1 ∷ []) 5 ≡ 3  -- the limit: 5
  pub rounds_to_the_limit : run_rounds 0 three_routers (0 ∷ 2 ∷ 1 ∷ []) 2 ≡ 0  -- in the whole sequence: 1
  pub rounds_to_the_end : run_rounds 0 three_routers (0 ∷ 2 ∷ 1 ∷ []) 3 ≡ 1
  -- "No acts make no rounds."
  pub rounds_of_no_acts : run_rounds 0 three_routers [] 3 ≡ 0  -- from a first round on: 1
  pub exhausted : run_exhausted 0 (0 ∷ 2 ∷ 1 ∷ []) 2 ≡ true  -- never said: false
  pub not_exhausted : run_exhausted 0 (0 ∷ 2 ∷ 1 ∷ []) 3 ≡ false  -- from the limit on: true
  -- a run "touches none after them": the byte 9
  pub table_to_the_limit : run_table three_routers 0 (0 ∷ 2 ∷ []) 1 lent ≡ 1 ∷ 1 ∷ 1 ∷ 1 ∷ 255 ∷ 255 ∷ 9 ∷ []
  pub table_to_the_end : run_table three_routers 0 (0 ∷ 2 ∷ []) 2 lent ≡ 1 ∷ 1 ∷ 1 ∷ 1 ∷ 1 ∷ 1 ∷ 9 ∷ []
  pub activated : activate_table three_routers 0 0 lent ≡ 1 ∷ 1 ∷ 1 ∷ 1 ∷ 255 ∷ 255 ∷ 9 ∷ []
  -- for a list of nobody, list 1 of `nobody_between`: "old routes are flushed"
  pub old_route_dropped : activate_table nobody_between 1 0 left_over ≡ 255 ∷ 255 ∷ 255 ∷ 255 ∷ 1 ∷ 1 ∷ 9 ∷ []  -- kept: 1 1
  pub old_routes_flushed : run_table nobody_between 1 (0 ∷ 2 ∷ 1 ∷ []) 3 left_over ≡ 255 ∷ 255 ∷ 255 ∷ 255 ∷ 255 ∷ 255 ∷ 9 ∷ []
  -- "beside a refusal number every other returned field is zero or no", and lent buffers are "unchanged"
  pub refused_applied : run_applied 8 (0 ∷ 2 ∷ 1 ∷ []) 2 ≡ 0  -- as if not refused: 2
  pub refused_exhausted : run_exhausted 8 (0 ∷ 2 ∷ 1 ∷ []) 2 ≡ false  -- as if not refused: true
  pub refused_table : run_table three_routers 0 (0 ∷ 3 ∷ []) 1 lent ≡ lent  -- as if not refused: 1 1
  pub refused_activation : activate_table three_routers 0 3 lent ≡ lent  -- as if not refused: 255 for the 9
  -- "Roles 4 and 5 are roles 1 and 3 with that step: a route told by its own egress router beats one passed on"
  pub role1_activated : activate_table m3_plan 0 0 lent_m3 ≡ 3 ∷ 1 ∷ 3 ∷ 3 ∷ 2 ∷ 2 ∷ 3 ∷ 3 ∷ []  -- with the step: 2 2
  pub role4_activated : activate_table role4_plan 0 0 lent_m3 ≡ 2 ∷ 2 ∷ 3 ∷ 3 ∷ 2 ∷ 2 ∷ 3 ∷ 3 ∷ []  -- by distance: 3 1
  pub role5_activated : activate_table role5_plan 0 0 lent_m3 ≡ 2 ∷ 2 ∷ 3 ∷ 3 ∷ 2 ∷ 2 ∷ 3 ∷ 3 ∷ []  -- as role 3: 3 1
  -- reflector 1 and client 2, 7 and 10 from router 0, each tell their own route: "only then distance and number count"
  pub reflector_and_client :
      activate_table reflector_listed 0 0 (255 ∷ 255 ∷ 1 ∷ 1 ∷ 2 ∷ 2 ∷ 255 ∷ 255 ∷ [])
      ≡ 1 ∷ 1 ∷ 1 ∷ 1 ∷ 2 ∷ 2 ∷ 255 ∷ 255 ∷ []  -- a reflector's own route as passed on: 2 2
  -- "A way still beats none"
  pub role4_without_a_way : activate_table role4_cut_off 0 0 lent_m3 ≡ 3 ∷ 1 ∷ 3 ∷ 3 ∷ 2 ∷ 2 ∷ 3 ∷ 3 ∷ []  -- told by its egress and not heard: 255 255
  -- M9's acts, from nothing held: "1 holds 3 from 3, 0 holds 3 from 1"
  pub role4_run :
      run_table role4_plan 0 (1 ∷ 0 ∷ 2 ∷ 3 ∷ []) 4 (255 ∷ 255 ∷ 255 ∷ 255 ∷ 2 ∷ 2 ∷ 3 ∷ 3 ∷ [])
      ≡ 2 ∷ 2 ∷ 3 ∷ 3 ∷ 2 ∷ 2 ∷ 3 ∷ 3 ∷ []  -- as role 1: 3 1
