-- Examples of numbers that are listed, and of the tables that have them, in literal bytes and numbers. After "Misread" stands what a misreading
-- gives.
use Rattle.std.specs.Prelude.{ℕ, ◌≡◌, List, [], ◌∷◌}
use Rattle.plan_examples.specs.Plans.{m3_plan}
use Rattle.call_steady.specs.declared.steady.SteadyAnswer.TheVariants.{Listed}
use Rattle.call_steady.specs.Steady.{SteadyCall}
use Rattle.steady_examples.specs.SteadyCallExamples.{pairs_and_one}
use Rattle.checker_theorems.specs.SteadyListed.{number_in, group_members, NoActChanges, HoldsOwnBytes, NamedBy}

-- what the call leaves of five bytes for list 2,3 of M3's plan
abbrev pub listed_for_m3 : List ℕ
listed_for_m3 = 1 ∷ 0 ∷ 2 ∷ 0 ∷ 9 ∷ []

-- tables for that list, with a byte after them: one in which 0 holds its own client's route and 1 has it from 0, and one in which both hold
-- their own client's
abbrev pub own_at0 : List ℕ
own_at0 = 2 ∷ 2 ∷ 2 ∷ 0 ∷ 2 ∷ 2 ∷ 3 ∷ 3 ∷ 9 ∷ []

abbrev pub own_at_both : List ℕ
own_at_both = 2 ∷ 2 ∷ 3 ∷ 3 ∷ 2 ∷ 2 ∷ 3 ∷ 3 ∷ 9 ∷ []

pub record SteadyListedExamples : Type 0 where
  -- a call that is not refused
  pub call : SteadyCall m3_plan 0 (Listed 2) (record { before = 9 ∷ 9 ∷ 9 ∷ 9 ∷ 9 ∷ []; after = listed_for_m3 })
  -- "two bytes for each number listed, low byte first". Misread with the high byte first: 512; with a byte each: 0.
  pub second : number_in listed_for_m3 1 ≡ 2
  -- "the routers in groups of two or more", "lowest first": 2 is in no such group. Misread with every reflector: 0 1 2 3 4; with the highest
  -- first: 4 3 1 0.
  pub members : group_members pairs_and_one 0 ≡ 0 ∷ 1 ∷ 3 ∷ 4 ∷ []
  -- a "held-route table that no act changes", whatever stands after it. Misread as one that obeys the rule: the second is one too.
  pub rests : NoActChanges m3_plan 0 own_at0
  pub moves : NoActChanges m3_plan 0 own_at_both → ⊥
  -- "hold their best client's own route". Misread as any listed client's route: 1 does.
  pub held : HoldsOwnBytes m3_plan 0 own_at0 0
  pub not_held : HoldsOwnBytes m3_plan 0 own_at0 1 → ⊥
  -- "bit i .. is the i-th such router, lowest first". Misread with the highest first: 2.
  pub named : NamedBy m3_plan 0 own_at0 1
