-- The numbers passed are written.
use Rattle.std.proofs.Common.{length, take}
use Rattle.text_fields.specs.Fields.{number_fields}
use Rattle.text_fields.proofs.Writing.{Putting}
use Rattle.text_fields.proofs.Text.put_next_numbers.Given as goal

abbrev pub invariant-loop-number : goal.invariant-loop-number
invariant-loop-number l = Putting (λ k. number_fields (take k l.numbers)) 4 (length l.numbers) l.initial.self l.self l.number-index
