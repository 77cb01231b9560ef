-- Examples that tell what a run leaves from a misreading of it, in literal bytes, on the three routers of crate net_tables and on the six
-- of crate route_rules.
use Rattle.std.specs.Prelude.{ℕ, true, false, List, [], ◌∷◌}
use Rattle.route_rules.specs.Examples.{six_with}
use Rattle.net_tables.specs.Examples.{three_routers, lent}
use Rattle.net_run.specs.Applied.{RunLeaves}

-- Of the six, 4 is listed, a client of 1, and 0 has a left-over route to its client 3. From 1 it is 20 to 3 and 20 to 4.
unfoldable pub left_over : List ℕ
left_over = 3 ∷ 3 ∷ 255 ∷ 255 ∷ 255 ∷ 255 ∷ 255 ∷ 255 ∷ 4 ∷ 4 ∷ 255 ∷ 255 ∷ []

pub record RunExamples : Type 0 where
  -- "the acts applied (the smaller of limit and sequence length), the whole rounds in them, and 'spent' exactly if the sequence is
  -- longer than the limit": over the whole sequence it is 3 acts and 1 round
  pub limit_below_the_length :
      RunLeaves three_routers (0 ∷ 2 ∷ 1 ∷ []) 2 lent (record { acts = 2; rounds = 0; exhausted = true })
      (1 ∷ 1 ∷ 1 ∷ 1 ∷ 1 ∷ 0 ∷ 9 ∷ [])
  pub limit_at_the_length :
      RunLeaves three_routers (2 ∷ 1 ∷ 0 ∷ []) 3 lent (record { acts = 3; rounds = 1; exhausted = false })
      (1 ∷ 1 ∷ 1 ∷ 1 ∷ 255 ∷ 255 ∷ 9 ∷ [])
  pub limit_above_the_length :
      RunLeaves three_routers (2 ∷ 1 ∷ []) 9 lent (record { acts = 2; rounds = 0; exhausted = false }) lent
  -- "Roles 4 and 5 are roles 1 and 3 with that step": 1 acts, and after it its client 5. With the step 1 holds 4, told by 4 itself; without
  -- it 3, the lower number. Role 5 then announces 4 to no client, as role 3 does what a client told it.
  pub role4 :
      RunLeaves (six_with [] [] (1 ∷ []) (4 ∷ [])) (1 ∷ 5 ∷ []) 2 left_over (record { acts = 2; rounds = 0; exhausted = false })
      (3 ∷ 3 ∷ 4 ∷ 4 ∷ 255 ∷ 255 ∷ 255 ∷ 255 ∷ 4 ∷ 4 ∷ 4 ∷ 1 ∷ [])  -- as role 1: 3 0 and 3 1
  pub role5 :
      RunLeaves (six_with [] (1 ∷ []) (1 ∷ []) (4 ∷ [])) (1 ∷ 5 ∷ []) 2 left_over (record { acts = 2; rounds = 0; exhausted = false })
      (3 ∷ 3 ∷ 4 ∷ 4 ∷ 255 ∷ 255 ∷ 255 ∷ 255 ∷ 4 ∷ 4 ∷ 255 ∷ 255 ∷ [])  -- as role 4: 4 4 and 4 1; as role 3: 3 0 and 3 1
  pub role3 :
      RunLeaves (six_with [] (1 ∷ []) [] (4 ∷ [])) (1 ∷ 5 ∷ []) 2 left_over (record { acts = 2; rounds = 0; exhausted = false })
      (3 ∷ 3 ∷ 3 ∷ 0 ∷ 255 ∷ 255 ∷ 255 ∷ 255 ∷ 4 ∷ 4 ∷ 3 ∷ 1 ∷ [])  -- with the step too: 4 4 and 255 255
