-- Document 01, "A series of calls", and demand 3 of document 00: a single claim about a whole series of calls.
use Rattle.std.specs.Prelude.{ℕ, ◌+◌, ◌*◌, ◌≤◌, ◌<◌, List, [], ◌∷◌, ◌++◌, ◌≡◌, true, length, take, drop}
use Rattle.plan_contents.specs.Header.{router_count}
use Rattle.plan_rules.specs.EgressLists.{list_count}
use Rattle.plan_rules.specs.Refusal.{plan_refusal}
use Rattle.route_rules.specs.Activation.{table_ok}
use Rattle.route_rules.specs.Rounds.{rounds}
use Rattle.net_rules.specs.FromPlan.{instance_of}
use Rattle.net_tables.specs.TableBytes.{table_of, activate_bytes}
use Rattle.plan_rules.specs.Refused.{unless_refused}
use Rattle.net_verdict.specs.Assessed.{is_stable, highest_of, settled_bytes}
use Rattle.call_rules.specs.Refusals.{table_checks, activate_refusal, run_refusal}
use Rattle.call_run.specs.Activate.{activate_table}
use Rattle.call_run.specs.Run.{run_table}

-- "any number of act and run calls, mixed in any order": what such a call is handed beside the buffer, which may be anything
pub data Call : Type 0 where
  activate_call : (plan : List ℕ) (list router : ℕ) → Call
  run_call : (plan : List ℕ) (list : ℕ) (sequence : List ℕ) (limit : ℕ) → Call

abbrev pub call_plan : Call → List ℕ
call_plan (activate_call plan k w) = plan
call_plan (run_call plan k acts limit) = plan

abbrev pub call_list : Call → ℕ
call_list (activate_call plan k w) = k
call_list (run_call plan k acts limit) = k

-- the call's refusal and the buffer after it: the definitions that the contracts of `activate` and `run` cite
abbrev pub call_refusal : Call → List ℕ → ℕ
call_refusal (activate_call plan k w) buffer = activate_refusal plan k w buffer
call_refusal (run_call plan k acts limit) buffer = run_refusal plan k acts buffer

abbrev pub buffer_after : Call → List ℕ → List ℕ
buffer_after (activate_call plan k w) buffer = activate_table plan k w buffer
buffer_after (run_call plan k acts limit) buffer = run_table plan k acts limit buffer

-- "The acts of the series, in order, are the router of each act call and the sequence of each run up to its limit; a refused call
-- adds none."
abbrev pub call_acts : Call → List ℕ
call_acts (activate_call plan k w) = w ∷ []
call_acts (run_call plan k acts limit) = take limit acts

-- "Each call is lent this buffer as the call before left it, and nothing else writes it meanwhile."
unfoldable pub series_buffer : List Call → List ℕ → List ℕ
series_buffer [] buffer = buffer
series_buffer (call ∷ calls) buffer = series_buffer calls (buffer_after call buffer)

unfoldable pub series_acts : List Call → List ℕ → List ℕ
series_acts [] buffer = []
series_acts (call ∷ calls) buffer =
    unless_refused (call_refusal call buffer) [] (call_acts call) ++ series_acts calls (buffer_after call buffer)

-- "A call that is not refused is for this plan and list; a refused one may be handed anything beside the buffer."
unfoldable pub ForThis : List ℕ → ℕ → List Call → List ℕ → Type 0
ForThis plan k [] buffer = Unit {0}
ForThis plan k (call ∷ calls) buffer =
    (call_refusal call buffer ≡ 0 → (call_plan call ≡ plan) × (call_list call ≡ k)) × ForThis plan k calls (buffer_after call buffer)

-- "Fix a plan and one of its lists whose verdict is stable. .. It starts from a lent buffer whose first 2n bytes are any held-route
-- table for that plan and list."
pub record Start (plan : List ℕ) (k : ℕ) (buffer : List ℕ) : Type 0 where
  pub plan_ok : plan_refusal plan ≡ 0
  pub list_ok : k < list_count plan
  pub stable_list : is_stable (instance_of plan k) ≡ true
  pub long : 2 * router_count plan ≤ length buffer
  pub table : table_ok (instance_of plan k) (table_of buffer (router_count plan)) ≡ true

-- "the rounds up to there are at least the highest rank plus two", counted "over all these acts as one sequence, by the rule for runs"
abbrev pub Enough : List ℕ → ℕ → List Call → List ℕ → Type 0
Enough plan k calls start = highest_of (instance_of plan k) + 2 ≤ rounds (router_count plan) (series_acts calls start)

-- "Take the point after any call of the series.": `calls` are the calls up to there
pub record SettledAfter (plan : List ℕ) (k : ℕ) (start : List ℕ) (calls : List Call) : Type 0 where
  -- "the first 2n bytes then equal, byte for byte, the settled table that the verdict call writes for this plan and list"
  pub settled : Enough plan k calls start → take (2 * router_count plan) (series_buffer calls start) ≡ settled_bytes (instance_of plan k)
  -- "and no later act .. alters a byte"
  pub steady : Enough plan k calls start → (w : ℕ) → w < router_count plan
      → activate_bytes (instance_of plan k) w (series_buffer calls start) ≡ series_buffer calls start
  -- ".. or call of the series"
  pub kept : Enough plan k calls start → (more : List Call) → ForThis plan k more (series_buffer calls start)
      → series_buffer more (series_buffer calls start) ≡ series_buffer calls start
  -- "However many the rounds, the bytes after the first 2n are those of the start."
  pub rest : drop (2 * router_count plan) (series_buffer calls start) ≡ drop (2 * router_count plan) start

-- Demand 3.
abbrev pub EverySeriesSettles : Type 0
EverySeriesSettles =
    (plan : List ℕ) (k : ℕ) (start : List ℕ) → Start plan k start → (calls : List Call) → ForThis plan k calls start
    → SettledAfter plan k start calls

-- A series can always go on: the buffer stays one that no call for this plan and list is refused for.
abbrev pub EverySeriesGoesOn : Type 0
EverySeriesGoesOn =
    (plan : List ℕ) (k : ℕ) (start : List ℕ) → Start plan k start → (calls : List Call) → ForThis plan k calls start
    → table_checks (instance_of plan k) (series_buffer calls start) ≡ 0
