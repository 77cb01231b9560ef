-- The rounds in a sequence of acts (document 01, "A run applies a sequence of acts").
use Rattle.std.specs.Prelude.{ℕ, suc, ◌+◌, ◌-◌, ◌^◌, ◌<◌, Bool, true, false, cond, ◌||◌, eqb, length, get_or}
use mathlib.Core.List.{List, [], ◌∷◌, foldl}
use Rattle.std.specs.Int.Bits.{bit_or}
use Rattle.base.specs.Below.{all_below}
use Rattle.base.specs.Bits.{bit_n}

-- every act is of a router below n
abbrev pub ActsBelow : ℕ → List ℕ → Type 0
ActsBelow n acts = (i : ℕ) → i < length acts → get_or acts i 0 < n

-- router v is among those that acted
unfoldable pub acted : List ℕ → ℕ → Bool
acted [] v = false
acted (a ∷ acts) v = eqb a v || acted acts v

-- "A round ends at the first act by which every router has acted since the round before ended."
-- `since` holds the acts since the round before ended; there are n routers.
unfoldable pub rounds_from : ℕ → List ℕ → List ℕ → ℕ
rounds_from n since [] = 0
rounds_from n since (a ∷ acts) =
    elim (all_below (acted (a ∷ since)) n) [ true ↦ suc (rounds_from n [] acts) | false ↦ rounds_from n (a ∷ since) acts ]

-- "No acts make no rounds."
unfoldable pub rounds : ℕ → List ℕ → ℕ
rounds n acts = rounds_from n [] acts

-- The same as a tally that is handed on from act to act, and from one sequence to the next.
pub record Tally : Type 0 where
  -- bit v is set if router v has acted since the round before ended
  pub seen : ℕ
  -- how many routers have not
  pub missing : ℕ
  -- the rounds that have ended
  pub ended : ℕ

abbrev pub fresh_tally : ℕ → Tally
fresh_tally n = record { seen = 0; missing = n; ended = 0 }

-- one act more
unfoldable pub tally_act : ℕ → Tally → ℕ → Tally
tally_act n t a =
    cond (eqb (bit_n t.seen a) 1) t
    (cond (eqb t.missing 1) (record { seen = 0; missing = n; ended = t.ended + 1 })
    (record { seen = bit_or t.seen (2 ^ a); missing = t.missing - 1; ended = t.ended }))

-- a sequence of acts more
unfoldable pub tally_acts : ℕ → Tally → List ℕ → Tally
tally_acts n t acts = foldl (tally_act n) t acts
