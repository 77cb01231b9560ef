-- What a run of a sequence with a limit leaves (document 01, "A run applies a sequence of acts, at most a given limit of them").
use Rattle.std.specs.Prelude.{ℕ, min, ◌≡◌, List, ltb, length, take}
use Rattle.route_rules.specs.Instance.{Instance}
use Rattle.route_rules.specs.Rounds.{rounds}
use Rattle.net_run.specs.declared.Applied.{Applied}
use Rattle.net_tables.specs.TableBytes.{run_bytes}

-- "the acts applied (the smaller of limit and sequence length), the whole rounds in them, and 'spent' exactly if the sequence is
-- longer than the limit"; spent is called exhausted here. The table's bytes before the run are `table`, and after it `after`.
pub record RunLeaves (I : Instance) (acts : List ℕ) (limit : ℕ) (table : List ℕ) (r : Applied) (after : List ℕ) : Type 0 where
  pub count : r.acts ≡ min limit (length acts)
  pub whole : r.rounds ≡ rounds I.n (take limit acts)
  pub exhausted : r.exhausted ≡ ltb limit (length acts)
  pub bytes : after ≡ run_bytes I table (take limit acts)
