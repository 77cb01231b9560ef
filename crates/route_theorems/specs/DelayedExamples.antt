-- Which moments an act may read, by one literal sequence of two routers. Beside each stands what a misreading gives.
use Rattle.std.specs.Prelude.{ℕ, ◌≡◌, true, false, List, [], ◌∷◌}
use Rattle.route_theorems.specs.Delayed.{ended_by, round_of, round_start, may_read}

-- rounds end with acts 1, 4 and 6
unfoldable pub eight_acts : List ℕ
eight_acts = 0 ∷ 1 ∷ 0 ∷ 0 ∷ 1 ∷ 1 ∷ 0 ∷ 0 ∷ []

pub record DelayedExamples : Type 0 where
  -- at moment m the first m acts have been applied
  pub one_applied : ended_by 2 eight_acts 1 ≡ 0  -- act 1 counted too: 1
  -- an act that ends a round belongs to that round
  pub ends_its_round : round_of 2 eight_acts 4 ≡ 1  -- counted to the next: 2
  pub starts_the_next : round_of 2 eight_acts 5 ≡ 2  -- the rounds that ended before the last act: 1
  pub rounds_start : round_start 2 eight_acts 2 ≡ 5  -- with the act that ends the one before: 4
  -- "no earlier than the start of the round before"
  pub start_of_the_round_before : may_read 2 eight_acts 5 2 ≡ true  -- its own round alone: false
  pub before_that : may_read 2 eight_acts 5 1 ≡ false  -- any moment of the sequence: true
  pub ends_a_round_and_reads : may_read 2 eight_acts 4 0 ≡ true  -- counted to the next round: false
  pub one_act_later : may_read 2 eight_acts 5 0 ≡ false  -- the round before the round before: true
  -- "and no earlier than the sequence's start"
  pub in_the_first_round : may_read 2 eight_acts 1 0 ≡ true  -- no round before it, so the present alone: false
  pub in_the_second : may_read 2 eight_acts 2 0 ≡ true  -- after the start: false
  -- "up to the act itself"
  pub the_act : may_read 2 eight_acts 5 5 ≡ true  -- before the act alone: false
  pub after_the_act : may_read 2 eight_acts 5 6 ≡ false  -- what the act leaves: true
