-- Document 01: "A run applies a sequence of acts, at most a given limit of them."
use Rattle.std.specs.Prelude.{ℕ, min, List, ◌≡◌, Bool, ltb, length, take}
use Rattle.plan_contents.specs.Header.{router_count}
use Rattle.route_rules.specs.Rounds.{rounds}
use Rattle.net_rules.specs.FromPlan.{instance_of}
use Rattle.net_tables.specs.TableBytes.{run_bytes}
use Rattle.call_rules.specs.Refusals.{run_refusal}
use Rattle.call_run.specs.declared.run.RunAnswer.{RunAnswer}
use Rattle.plan_rules.specs.Refused.{unless_refused, field, flag_field}

-- "It returns the acts applied (the smaller of limit and sequence length), the whole rounds in them, and 'spent' exactly if the sequence is
-- longer than the limit." Spent is called exhausted here.
unfoldable pub run_applied : ℕ → List ℕ → ℕ → ℕ
run_applied number acts limit = field number (min limit (length acts))

unfoldable pub run_rounds : ℕ → List ℕ → List ℕ → ℕ → ℕ
run_rounds number plan acts limit = field number (rounds (router_count plan) (take limit acts))

unfoldable pub run_exhausted : ℕ → List ℕ → ℕ → Bool
run_exhausted number acts limit = flag_field number (ltb limit (length acts))

-- every byte of the table after the call
unfoldable pub run_table : List ℕ → ℕ → List ℕ → ℕ → List ℕ → List ℕ
run_table plan k acts limit table =
    unless_refused (run_refusal plan k acts table) table (run_bytes (instance_of plan k) table (take limit acts))

-- a run returns r and leaves the table `after`; `number` in the fields is the refusal that r states
pub record Runs (plan : List ℕ) (k : ℕ) (acts : List ℕ) (limit : ℕ) (table : List ℕ) (r : RunAnswer) (after : List ℕ) : Type 0 where
  pub number : r.refused ≡ run_refusal plan k acts table
  pub applied : r.applied ≡ run_applied (run_refusal plan k acts table) acts limit
  pub whole : r.rounds ≡ run_rounds (run_refusal plan k acts table) plan acts limit
  pub exhausted : r.exhausted ≡ run_exhausted (run_refusal plan k acts table) acts limit
  pub bytes : after ≡ run_table plan k acts limit table
