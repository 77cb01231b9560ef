-- How the bits of a table move: which reflectors hold their best client's own route.
use Rattle.std.specs.Prelude.{ℕ, ◌≤◌, ◌<◌, ◌≡◌, Bool, true, List}
use Rattle.route_rules.specs.Instance.{Instance, Route}
use Rattle.route_rules.specs.Activation.{held, table_ok, activate, run_acts}
use Rattle.route_rules.specs.Rounds.{ActsBelow, rounds}
use Rattle.route_theorems.specs.Claims.{IsTable, Steady}
use Rattle.steady_rules.specs.Equations.{Solves}
use Rattle.steady_rules.specs.OwnRoutes.{own_bit, Speaks}
use Rattle.steady_rules.specs.Steady.{bit_equations}
use Rattle.grade_rules.specs.Moving.{after_act, Possible}

-- the bit of each router in a table
abbrev pub table_bits : Instance → List Route → ℕ → Bool
table_bits I t w = own_bit I w (held t w)

-- a table in which every router tells every reflector what its bit says; a left-over entry may tell more
pub record BitTable (I : Instance) (t : List Route) : Type 0 where
  pub is_table : IsTable I t
  pub speaks : Speaks I (table_bits I t) (held t)

-- a table of the rule with these bits
pub record TableWith (I : Instance) (bit : ℕ → Bool) : Type 0 where
  pub table : List Route
  pub bits : BitTable I table
  pub legal : table_ok I table ≡ true
  pub same : (w : ℕ) → w < I.n → table_bits I table w ≡ bit w

-- The theorem `tables-follow-bits` says that this holds of every network.
pub record TablesFollowBits (I : Instance) : Type 0 where
  -- after a round, from any table whatever, every router tells what its bit says, and no bit outside the groups is set that may not be
  pub after_round :
      (t : List Route) → IsTable I t → (acts : List ℕ) → ActsBelow I.n acts → 1 ≤ rounds I.n acts
      → BitTable I (run_acts I t acts) × Possible (bit_equations I) (table_bits I (run_acts I t acts))
  -- an act then makes of the bits what their rule says, and it stays so
  pub act : (t : List Route) → BitTable I t → (w : ℕ) → w < I.n
      → BitTable I (activate I w t)
      × ((v : ℕ) → v < I.n → table_bits I (activate I w t) v ≡ after_act (bit_equations I) w (table_bits I t) v)
  -- two rounds after the bits have come to rest so has the table
  pub after_rest : (t : List Route) → BitTable I t → Solves (bit_equations I) (table_bits I t)
      → (acts : List ℕ) → ActsBelow I.n acts → 2 ≤ rounds I.n acts → Steady I (run_acts I t acts)
  -- any bits that may be set are those of a table of the rule
  pub every : (bit : ℕ → Bool) → Possible (bit_equations I) bit → TableWith I bit
