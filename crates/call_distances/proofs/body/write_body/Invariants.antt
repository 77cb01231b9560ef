-- `call_distances::body::write_body`: the rows before `row` are written.
use Rattle.std.proofs.Common.{◌*◌}
use Rattle.base.proofs.Joined.{Joining}
use Rattle.plan_rules.specs.Distances.{row_of}
use Rattle.links_words.specs.Lowered.{word_at}
use Rattle.call_distances.proofs.body.write_body.Given as goal

abbrev pub invariant-loop-row : goal.invariant-loop-row
invariant-loop-row l = Joining (λ u. row_of 2 (word_at l.words u) l.n) (2 * l.n) l.n l.initial.out 0 l.out l.row
