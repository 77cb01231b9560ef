-- The round tally of the code.
use Rattle.route_rules.specs.Rounds.{Tally}
use Rattle.net_run.specs.declared.tally.RoundTally.{RoundTally}

-- what it stands for
abbrev pub tallied : RoundTally → Tally
tallied t = record { seen = t.seen; missing = t.missing; ended = t.ended }
