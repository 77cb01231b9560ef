-- Document 02, "Delayed reading", over a plan's bytes and the calls. Moments, and which of them an act may read, are those of crate
-- `route_theorems` (`Moments`, `may_read`, `Allowed`): at moment m the first m acts of the sequence have been applied.
use Rattle.std.specs.Prelude.{ℕ, suc, ◌+◌, ◌*◌, ◌/◌, ◌≤◌, ◌<◌, ◌≡◌, Bool, true, cond, List, [], length, get_or, take, drop}
use Rattle.base.specs.Lent.{Lent}
use Rattle.base.specs.Tab.{tab}
use Rattle.plan_contents.specs.Header.{router_count}
use Rattle.plan_contents.specs.Contents.{sessions_body}
use Rattle.plan_rules.specs.Sessions.{in_session}
use Rattle.route_rules.specs.Rounds.{ActsBelow, rounds}
use Rattle.route_theorems.specs.Delayed.{ended_by, Moments, router_of, Allowed, DelayedRun, present}
use Rattle.net_rules.specs.FromPlan.{instance_of}
use Rattle.net_tables.specs.TableBytes.{route_at, put_route, table_of}
use Rattle.call_rules.specs.Refusals.{table_checks, activate_refusal}
use Rattle.call_run.specs.Activate.{activate_table}
use Rattle.call_run.specs.Run.{run_table}
use Rattle.call_verdict.specs.declared.verdict.VerdictAnswer.TheVariants.{Stable}
use Rattle.call_verdict.specs.Verdict.{VerdictCall}
use Rattle.checker_theorems.specs.HopStep.{HasList}

-- "Let an act read each neighbour as it stood at any moment": the act call reads one table, so act i is handed one put together of the
-- entries of several moments: of a neighbour that at which it is read, of any other router, which the act does not read, the present
abbrev pub handed_from : List ℕ → List ℕ → Moments → ℕ → ℕ → ℕ
handed_from plan acts moment i v = cond (in_session (sessions_body plan) (router_of acts i) v) (moment i v) i

-- .. in bytes, where `at m` is the buffer at moment m: byte j is of router j / 2
unfoldable pub handed : List ℕ → List ℕ → Moments → (ℕ → List ℕ) → ℕ → List ℕ
handed plan acts moment at i = tab (λ j. get_or (at (handed_from plan acts moment i (j / 2))) j 0) (2 * router_count plan)

-- what act i leaves: the entry that the act call leaves its router in the table handed to it is put into the buffer, and no other byte
-- changes
abbrev pub left_by : List ℕ → ℕ → List ℕ → Moments → (ℕ → List ℕ) → ℕ → List ℕ
left_by plan k acts moment at i =
    put_route (at i) (router_of acts i) (route_at (activate_table plan k (router_of acts i) (handed plan acts moment at i)) (router_of acts i))

-- "all such runs by the same act rule", by the buffer at each moment
pub record DelayedCalls (plan : List ℕ) (k : ℕ) (acts : List ℕ) (moment : Moments) (at : ℕ → List ℕ) : Type 0 where
  -- "from the same starting tables as before": any that an act or a run for this plan and list is not refused for
  pub start : table_checks (instance_of plan k) (at 0) ≡ 0
  pub act : (i : ℕ) → i < length acts → at (suc i) ≡ left_by plan k acts moment at i

-- "A stable plan must still reach its settled table, within twice the highest rank plus three rounds, .. and remain there.": `settled` is
-- the buffer of the settled table after the verdict call, and R the highest rank that it answered
pub record DelayedSettles (plan : List ℕ) (R : ℕ) (settled acts : List ℕ) (at : ℕ → List ℕ) : Type 0 where
  -- once so many rounds have ended, the first 2n bytes equal, byte for byte, those that the verdict call wrote
  pub reached : (m : ℕ) → m ≤ length acts → 2 * R + 3 ≤ ended_by (router_count plan) acts m
      → take (2 * router_count plan) (at m) ≡ take (2 * router_count plan) settled
  -- .. and no later act of the sequence alters a byte
  pub kept : (m later : ℕ) → m ≤ later → later ≤ length acts → 2 * R + 3 ≤ ended_by (router_count plan) acts m → at later ≡ at m
  -- however many the rounds, the bytes after the first 2n are those of the start
  pub rest : (m : ℕ) → m ≤ length acts → drop (2 * router_count plan) (at m) ≡ drop (2 * router_count plan) (at 0)

-- For every plan and list whose verdict call answers stable, so that neither is refused, every sequence of routers, every choice of moments
-- that the acts may read, and every run by them. Nothing else is asked: "Cut-off routers, hop-step reflectors and empty lists are covered."
abbrev pub EveryDelayedRunSettles : Type 0
EveryDelayedRunSettles =
    (plan : List ℕ) (k R : ℕ) (labels ranks table shown : Lent (List ℕ)) → VerdictCall plan k (Stable R) labels ranks table shown
    → (acts : List ℕ) → ActsBelow (router_count plan) acts → (moment : Moments) → Allowed (instance_of plan k) acts moment
    → (at : ℕ → List ℕ) → DelayedCalls plan k acts moment at → DelayedSettles plan R table.after acts at

-- What such a run is, of stable and suspect lists alike.
pub record DelayedCallsMean (plan : List ℕ) (k : ℕ) (acts : List ℕ) (moment : Moments) (at : ℕ → List ℕ) : Type 0 where
  -- no act call is refused, and each buffer is one that no call for this plan and list is refused for
  pub calls : (i : ℕ) → i < length acts → activate_refusal plan k (router_of acts i) (handed plan acts moment at i) ≡ 0
  pub buffers : (m : ℕ) → m ≤ length acts → table_checks (instance_of plan k) (at m) ≡ 0
  -- "by the same act rule": its tables are those of a run over the plan's network, in which an act reads each neighbour at its moment
  pub tables : DelayedRun (instance_of plan k) acts moment (λ m. table_of (at m) (router_count plan))

abbrev pub EveryDelayedCallMeans : Type 0
EveryDelayedCallMeans =
    (plan : List ℕ) (k : ℕ) → HasList plan k → (acts : List ℕ) → ActsBelow (router_count plan) acts
    → (moment : Moments) → Allowed (instance_of plan k) acts moment → (at : ℕ → List ℕ) → DelayedCalls plan k acts moment at
    → DelayedCallsMean plan k acts moment at

-- Every choice of moments that acts may read makes a run from every starting table, and one alone.
pub record OneDelayedRun (plan : List ℕ) (k : ℕ) (acts : List ℕ) (moment : Moments) (start : List ℕ) : Type 0 where
  pub at : ℕ → List ℕ
  pub begins : at 0 ≡ start
  pub run : DelayedCalls plan k acts moment at
  pub only :
      (other : ℕ → List ℕ) → other 0 ≡ start → DelayedCalls plan k acts moment other → (m : ℕ) → m ≤ length acts → other m ≡ at m

abbrev pub EveryDelayedChoiceRuns : Type 0
EveryDelayedChoiceRuns =
    (plan : List ℕ) (k : ℕ) → HasList plan k → (acts : List ℕ) → ActsBelow (router_count plan) acts
    → (moment : Moments) → Allowed (instance_of plan k) acts moment → (start : List ℕ) → table_checks (instance_of plan k) start ≡ 0
    → OneDelayedRun plan k acts moment start

-- "The run call goes on reading the present and takes no moments": the buffers that it leaves at limits 0, 1, .. are such a run, for the
-- moments at which each act reads the present.
abbrev pub RunCallReadsThePresent : Type 0
RunCallReadsThePresent =
    (plan : List ℕ) (k : ℕ) → HasList plan k → (acts : List ℕ) → ActsBelow (router_count plan) acts
    → (start : List ℕ) → table_checks (instance_of plan k) start ≡ 0
    → Allowed (instance_of plan k) acts present × DelayedCalls plan k acts present (λ m. run_table plan k acts m start)

-- A run in literal bytes that is not settled after so many rounds. Act i reads all its neighbours at the moment that `moments` has for it,
-- which is one that `reads` admits, and `buffers` has the buffer of each moment.
pub record UnsettledCalls (reads : ℕ → List ℕ → ℕ → ℕ → Bool) (plan : List ℕ) (k R count : ℕ) (acts moments : List ℕ)
    (buffers : List (List ℕ)) : Type 0 where
  pub labels : Lent (List ℕ)
  pub ranks : Lent (List ℕ)
  pub table : Lent (List ℕ)
  pub shown : Lent (List ℕ)
  pub verdict : VerdictCall plan k (Stable R) labels ranks table shown
  pub sequence : ActsBelow (router_count plan) acts
  pub read : (i : ℕ) → i < length acts → reads (router_count plan) acts i (get_or moments i 0) ≡ true
  pub run : DelayedCalls plan k acts (λ i v. get_or moments i 0) (λ m. get_or buffers m [])
  pub made : rounds (router_count plan) acts ≡ count
  pub unsettled : take (2 * router_count plan) (get_or buffers (length acts) []) ≡ take (2 * router_count plan) table.after → ⊥
