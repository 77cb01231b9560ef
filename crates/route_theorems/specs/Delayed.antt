-- Delayed reading (document 02, "Delayed reading": "Updates take time on the wire.").
-- Moments number the tables of a sequence of acts: at moment m its first m acts have been applied. Moment 0 is "the sequence's start", and
-- act i, counted from 0, leads from moment i to moment i + 1.
use Rattle.std.specs.Prelude.{ℕ, zero, suc, ◌+◌, ◌-◌, ◌*◌, ◌≤◌, ◌<◌, ◌≡◌, Bool, true, ◌&&◌, List, ◌↔◌, leb, length, get_or, take, set}
use Rattle.base.specs.Seek.{flag, seek}
use Rattle.base.specs.Tab.{tab}
use Rattle.route_rules.specs.Instance.{Instance, Route}
use Rattle.route_rules.specs.Activation.{choose, held, table_ok, activate, run_acts}
use Rattle.route_rules.specs.Rounds.{rounds}
use Rattle.route_theorems.specs.Settled.{settled_table}
use Rattle.route_theorems.specs.Claims.{Ranked, IsTable}

-- how many rounds have ended by moment m; there are n routers
unfoldable pub ended_by : ℕ → List ℕ → ℕ → ℕ
ended_by n acts m = rounds n (take m acts)

-- the round that act i belongs to, counted from 0: as many have ended before it. So an act that ends a round belongs to that round.
abbrev pub round_of : ℕ → List ℕ → ℕ → ℕ
round_of n acts i = ended_by n acts i

-- where round k starts: the first moment by which k rounds have ended
unfoldable pub round_start : ℕ → List ℕ → ℕ → ℕ
round_start n acts k = seek (λ m. flag (leb k (ended_by n acts m))) (length acts)

-- "no earlier than the start of the round before, and no earlier than the sequence's start": in the first round, which has none before it,
-- the latter; in each other one the former. The round is given.
unfoldable pub earliest : ℕ → List ℕ → ℕ → ℕ
earliest n acts zero = 0
earliest n acts (suc k) = round_start n acts k

-- "at any moment no earlier than .. up to the act itself": act i may read a neighbour as it stood at moment m
unfoldable pub may_read : ℕ → List ℕ → ℕ → ℕ → Bool
may_read n acts i m = leb (earliest n acts (round_of n acts i)) m && leb m i

-- The same in plain facts. The theorem `by-moment` says that they hold of every sequence.
pub record ByMoment (n : ℕ) (acts : List ℕ) : Type 0 where
  -- with the whole sequence all its rounds have ended, and an act ends one at most
  pub whole : ended_by n acts (length acts) ≡ rounds n acts
  pub grows : (m : ℕ) → m < length acts → (ended_by n acts m ≤ ended_by n acts (suc m)) × (ended_by n acts (suc m) ≤ suc (ended_by n acts m))
  -- the first round starts with the sequence, and each starts with as many ended
  pub first : round_start n acts 0 ≡ 0
  pub starts : (k : ℕ) → k ≤ rounds n acts → ended_by n acts (round_start n acts k) ≡ k
  -- an act comes at or after the start of its round, and before that of the next, also where it ends its round: then the next starts
  -- right after it
  pub belongs : (i : ℕ) → i < length acts → (round_start n acts (round_of n acts i) ≤ i) × (i < round_start n acts (suc (round_of n acts i)))
  pub ends :
      (i : ℕ) → i < length acts → ended_by n acts (suc i) ≡ suc (round_of n acts i) → round_start n acts (suc (round_of n acts i)) ≡ suc i
  -- what may be read is what stood, by the act, at a moment from which on at most one round has ended
  pub exactly :
      (i m : ℕ) → i < length acts → (may_read n acts i m ≡ true) ↔ ((ended_by n acts i ≤ suc (ended_by n acts m)) × (m ≤ i))

-- "Let an act read each neighbour as it stood at any moment": the moment at which act i reads router v, whatever it is for the others
abbrev pub Moments : Type 0
Moments = (i v : ℕ) → ℕ

-- the router of act i
abbrev pub router_of : List ℕ → ℕ → ℕ
router_of acts i = get_or acts i 0

-- .. and each moment is one that the act may read
abbrev pub Allowed : Instance → List ℕ → Moments → Type 0
Allowed I acts moment =
    (i v : ℕ) → i < length acts → v < I.n → I.neighbour (router_of acts i) v ≡ true → may_read I.n acts i (moment i v) ≡ true

-- what act i reads of router v, where `at m` is the table at moment m
abbrev pub read_by : (ℕ → List Route) → Moments → ℕ → ℕ → Route
read_by at moment i v = held (at (moment i v)) v

-- "all such runs by the same act rule", by their tables
pub record DelayedRun (I : Instance) (acts : List ℕ) (moment : Moments) (at : ℕ → List Route) : Type 0 where
  -- "from the same starting tables as before": nothing is asked of what a router holds at the start
  pub start : IsTable I (at 0)
  -- what the router of an act chooses of what it reads becomes its entry; "An act changes no entry but that of the router that acts"
  pub act :
      (i : ℕ) → i < length acts → at (suc i) ≡ set (at i) (router_of acts i) (choose I (router_of acts i) (read_by at moment i))

-- Every choice of moments that acts may read makes a run, and one alone from each table. The theorem `every-choice-runs` says so.
pub record OneRun (I : Instance) (acts : List ℕ) (moment : Moments) (t : List Route) : Type 0 where
  pub at : ℕ → List Route
  pub start : at 0 ≡ t
  pub run : DelayedRun I acts moment at
  pub only :
      (other : ℕ → List Route) → other 0 ≡ t → DelayedRun I acts moment other → (m : ℕ) → m ≤ length acts → other m ≡ at m

abbrev pub EveryChoiceRuns : Instance → Type 0
EveryChoiceRuns I =
    (acts : List ℕ) (moment : Moments) → Allowed I acts moment → (t : List Route) → IsTable I t → OneRun I acts moment t

-- Each neighbour's moment is free of the others': some act leaves what it would leave at no common moment. The theorem `own-moments` has
-- such a run.
pub record OwnMoments : Type 0 where
  pub network : Instance
  pub acts : List ℕ
  pub moment : Moments
  pub allowed : Allowed network acts moment
  pub at : ℕ → List Route
  pub run : DelayedRun network acts moment at
  pub legal : table_ok network (at 0) ≡ true
  pub i : ℕ
  pub applied : i < length acts
  pub differs :
      (m : ℕ) → m ≤ i → held (at (suc i)) (router_of acts i) ≡ choose network (router_of acts i) (held (at m)) → ⊥

-- "The run call goes on reading the present and takes no moments": that is one such run. The theorem `reading-the-present` says so.
abbrev pub present : Moments
present i v = i

pub record ReadingThePresent (I : Instance) (acts : List ℕ) (t : List Route) : Type 0 where
  pub allowed : Allowed I acts present
  pub run : DelayedRun I acts present (λ m. run_acts I t (take m acts))

-- "this is a promise about all such runs by the same act rule": the theorem `same-act-rule` says that this holds of each.
pub record SameActRule (I : Instance) (acts : List ℕ) (moment : Moments) (at : ℕ → List Route) : Type 0 where
  -- an act on one table, put together of what is read, leaves its router what the delayed act leaves it
  pub same :
      (i : ℕ) → i < length acts → router_of acts i < I.n
      → held (at (suc i)) (router_of acts i) ≡ held (activate I (router_of acts i) (tab (read_by at moment i) I.n)) (router_of acts i)
  -- from a table that obeys its rule every table does
  pub legal : table_ok I (at 0) ≡ true → (m : ℕ) → m ≤ length acts → table_ok I (at m) ≡ true

-- "A stable plan must still reach its settled table, within twice the highest rank plus three rounds, .. and remain there."
pub record SettlesByMoment (I : Instance) (R : ℕ) (acts : List ℕ) (at : ℕ → List Route) : Type 0 where
  pub reached : (m : ℕ) → m ≤ length acts → 2 * R + 3 ≤ ended_by I.n acts m → at m ≡ settled_table I R
  pub kept : (m later : ℕ) → m ≤ later → later ≤ length acts → 2 * R + 3 ≤ ended_by I.n acts m → at later ≡ settled_table I R

-- The theorem `settles-delayed` says so of every network whose ranks fall along the reliances, none above R. Nothing else is asked of it:
-- "Cut-off routers, hop-step reflectors and empty lists are covered."
abbrev pub SettlesDelayed : Instance → ℕ → Type 0
SettlesDelayed I R =
    (acts : List ℕ) (moment : Moments) → Allowed I acts moment → (at : ℕ → List Route) → DelayedRun I acts moment at
    → SettlesByMoment I R acts at

-- A run from a table that its routers may be found in, whose acts make so many rounds and which is not settled then. `reads` says which
-- moments an act reads.
pub record Unsettled (reads : ℕ → List ℕ → ℕ → ℕ → Bool) (R count : ℕ) : Type 0 where
  pub network : Instance
  pub rank : ℕ → ℕ
  pub ranked : Ranked network rank R
  pub acts : List ℕ
  pub moment : Moments
  pub read :
      (i v : ℕ) → i < length acts → v < network.n → network.neighbour (router_of acts i) v ≡ true
      → reads network.n acts i (moment i v) ≡ true
  pub at : ℕ → List Route
  pub run : DelayedRun network acts moment at
  pub legal : table_ok network (at 0) ≡ true
  pub made : rounds network.n acts ≡ count
  pub unsettled : at (length acts) ≡ settled_table network R → ⊥

-- One round fewer is not enough. The theorems `sharp-at-0` and `sharp-at-1` say so where the highest rank is 0, with a cut-off router, and
-- where it is 1, with an empty list and reflectors that have the hop step.
abbrev pub DelayedBoundIsSharp : ℕ → Type 0
DelayedBoundIsSharp R = Unsettled may_read R (2 * R + 2)

-- .. and the promised rounds are not enough where acts may read a round further back
unfoldable pub may_read_earlier : ℕ → List ℕ → ℕ → ℕ → Bool
may_read_earlier n acts i m = leb (round_start n acts (round_of n acts i - 2)) m && leb m i

abbrev pub EarlierIsTooEarly : ℕ → Type 0
EarlierIsTooEarly R = Unsettled may_read_earlier R (2 * R + 3)
