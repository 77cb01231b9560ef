-- Document 02, "Which steady tables a suspect plan has": what the numbers that the call lists say of tables in bytes, which a caller may hand
-- to `activate` and `run`.
use Rattle.std.specs.Prelude.{ℕ, ◌*◌, ◌^◌, ◌≤◌, ◌<◌, ◌≡◌, true, List, ◌↔◌, length, get_or, take}
use Rattle.std.proofs.Math.Option.{some}
use Rattle.base.specs.Bytes.{little_endian}
use Rattle.base.specs.Lent.{Lent}
use Rattle.base.specs.Tab.{tab}
use Rattle.plan_contents.specs.Header.{router_count}
use Rattle.route_rules.specs.Reliance.{best_client}
use Rattle.route_rules.specs.Rounds.{ActsBelow}
use Rattle.steady_rules.specs.Numbers.{bit_at, nth_of, Occurs, Rises}
use Rattle.steady_rules.specs.Steady.{grouped_in, grouped_routers, built_numbers, SharesLabel}
use Rattle.net_rules.specs.FromPlan.{instance_of}
use Rattle.call_rules.specs.RowsExactly.{egress_at, sender_at, TableFacts}
use Rattle.call_run.specs.Activate.{activate_table, Activates}
use Rattle.call_run.specs.declared.run.RunAnswer.{RunAnswer}
use Rattle.call_run.specs.Run.{Runs}
use Rattle.call_verdict.specs.declared.verdict.VerdictAnswer.{VerdictAnswer}
use Rattle.call_verdict.specs.Verdict.{verdict_number, verdict_is_stable, VerdictCall}
use Rattle.call_steady.specs.declared.steady.SteadyAnswer.{SteadyAnswer}
use Rattle.call_steady.specs.Steady.{refusal_of, count_of, SteadyCall}
use Rattle.checker_theorems.specs.VerdictMeaning.{label_in}
use Rattle.checker_theorems.specs.Series.{Call, ForThis, series_buffer}
use Rattle.checker_theorems.specs.HopStep.{MayCycle}

-- the j-th number in a buffer, from 0 on: "two bytes for each number listed, low byte first"
abbrev pub number_in : List ℕ → ℕ → ℕ
number_in out j = little_endian 2 out (2 * j)

-- "the routers in groups of two or more": the i-th of them, "lowest first", is item i
abbrev pub group_members : List ℕ → ℕ → List ℕ
group_members plan k = tab (nth_of (grouped_in (instance_of plan k)) (router_count plan)) (grouped_routers (instance_of plan k))

-- a "held-route table that no act changes", in the first 2n bytes of a buffer: it obeys the table's rule, and each router's activation leaves
-- every byte
pub record NoActChanges (plan : List ℕ) (k : ℕ) (table : List ℕ) : Type 0 where
  pub long : 2 * router_count plan ≤ length table
  pub rule : TableFacts (instance_of plan k) table
  pub unchanged : (w : ℕ) → w < router_count plan → activate_table plan k w table ≡ table

-- what the calls make of one: none is refused for it, and all leave every byte
pub record StaysAsItIs (plan : List ℕ) (k : ℕ) (table : List ℕ) : Type 0 where
  pub activated : (w : ℕ) → w < router_count plan → (r : ℕ) (after : List ℕ) → Activates plan k w table r after
      → (r ≡ 0) × (after ≡ table)
  pub run : (acts : List ℕ) (limit : ℕ) → ActsBelow (router_count plan) acts → (r : RunAnswer) (after : List ℕ)
      → Runs plan k acts limit table r after → (r.refused ≡ 0) × (after ≡ table)
  pub series : (calls : List Call) → ForThis plan k calls table → series_buffer calls table ≡ table

-- w is one of those "that hold their best client's own route": that client's number is in both bytes of its entry
pub record HoldsOwnBytes (plan : List ℕ) (k : ℕ) (table : List ℕ) (w : ℕ) : Type 0 where
  pub client : ℕ
  pub best : best_client (instance_of plan k) w ≡ some client
  pub egress : egress_at table w ≡ client
  pub sender : sender_at table w ≡ client

-- x is the table's number: "bit i .. is the i-th such router, lowest first", set exactly if it holds its best client's own route, and no
-- other bit is set
pub record NamedBy (plan : List ℕ) (k : ℕ) (table : List ℕ) (x : ℕ) : Type 0 where
  pub bits : (i : ℕ) → i < length (group_members plan k)
      → (bit_at x i ≡ true) ↔ HoldsOwnBytes plan k table (get_or (group_members plan k) i 0)
  pub below : x < 2 ^ length (group_members plan k)

-- a table of 2n bytes with the number x
pub record NumberedTable (plan : List ℕ) (k x : ℕ) : Type 0 where
  pub table : List ℕ
  pub size : length table ≡ 2 * router_count plan
  pub unchanged : NoActChanges plan k table
  pub named : NamedBy plan k table x

-- one of the numbers that are listed, and one alone, is the table's
pub record OneNumber (plan : List ℕ) (k count : ℕ) (out table : List ℕ) : Type 0 where
  pub at : ℕ
  pub within : at < count
  pub named : NamedBy plan k table (number_in out at)
  pub only : (j : ℕ) → j < count → NamedBy plan k table (number_in out j) → j ≡ at

-- x is one of the numbers that are listed
pub record IsListed (count : ℕ) (out : List ℕ) (x : ℕ) : Type 0 where
  pub at : ℕ
  pub within : at < count
  pub is : number_in out at ≡ x

-- "0 alone", and it is the number of this table
pub record ZeroAlone (plan : List ℕ) (k count : ℕ) (out table : List ℕ) : Type 0 where
  pub one : count ≡ 1
  pub zero : number_in out 0 ≡ 0
  pub unchanged : NoActChanges plan k table
  pub named : NamedBy plan k table 0

-- What a call says that is not refused: it answers with `count`, and leaves the buffer `out`.
pub record SteadyListed (plan : List ℕ) (k count : ℕ) (out : List ℕ) : Type 0 where
  -- "the routers in groups of two or more": exactly those that share their label with another, in the order of their numbers; each is an
  -- unlisted reflector of role 1 or 3 with a best client, and they are at most 12
  pub members : (w : ℕ) → Occurs w (group_members plan k) ↔ ((w < router_count plan) × SharesLabel (instance_of plan k) w)
  pub in_order : Rises (group_members plan k)
  pub with_client : (w : ℕ) → Occurs w (group_members plan k) → MayCycle plan k w
  pub few : length (group_members plan k) ≤ 12
  -- the labels are those that the verdict call writes
  pub labelled : (v : VerdictAnswer) (labels ranks table shown : Lent (List ℕ)) → VerdictCall plan k v labels ranks table shown
      → verdict_number v ≡ 0 → (w : ℕ) → w < router_count plan → get_or labels.after w 0 ≡ label_in plan k w
  -- a number is listed exactly if some table that no act changes has it
  pub listed : (x : ℕ) → IsListed count out x ↔ NumberedTable plan k x
  -- "give every held-route table that no act changes": exactly one of the numbers is its own,
  pub every : (table : List ℕ) → NoActChanges plan k table → OneNumber plan k count out table
  -- .. and two with one number have the same 2n bytes
  pub same : (t u : List ℕ) (x : ℕ) → NoActChanges plan k t → NoActChanges plan k u → NamedBy plan k t x → NamedBy plan k u x
      → take (2 * router_count plan) t ≡ take (2 * router_count plan) u
  -- whatever acts, runs and series of calls are made on one, it stays as it is
  pub stays : (table : List ℕ) → NoActChanges plan k table → StaysAsItIs plan k table
  -- "List each once, numbers rising, with the count."
  pub rising : (i j : ℕ) → i < j → j < count → number_in out i < number_in out j
  -- "Working out each group's steady choices .. must build exactly this list": the same numbers, and as many
  pub built : (x : ℕ) → Occurs x (built_numbers (instance_of plan k)) ↔ IsListed count out x
  pub as_many : length (built_numbers (instance_of plan k)) ≡ count
  -- "A stable list gives 0 alone": the number of the table that the verdict call writes. A suspect list may have any count, 0 and 1 too.
  pub stable : (v : VerdictAnswer) (labels ranks table shown : Lent (List ℕ)) → VerdictCall plan k v labels ranks table shown
      → verdict_is_stable v ≡ true → ZeroAlone plan k count out table.after

abbrev pub EverySteadyListed : Type 0
EverySteadyListed =
    (plan : List ℕ) (k : ℕ) (r : SteadyAnswer) (out : Lent (List ℕ)) → SteadyCall plan k r out → refusal_of r ≡ 0
    → SteadyListed plan k (count_of r) out.after
