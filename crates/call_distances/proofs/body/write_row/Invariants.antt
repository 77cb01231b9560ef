-- `call_distances::body::write_row`: the first e words of the row are written.
use Rattle.base.specs.Bytes.{bytes_of}
use Rattle.base.proofs.Joined.{Joining}
use Rattle.links_words.specs.Lowered.{word_at}
use Rattle.call_distances.proofs.body.write_row.Given as goal

abbrev pub invariant-loop-e : goal.invariant-loop-e
invariant-loop-e l = Joining (λ e. bytes_of 2 (word_at l.words l.u e)) 2 l.n l.initial.out l.at l.out l.e
