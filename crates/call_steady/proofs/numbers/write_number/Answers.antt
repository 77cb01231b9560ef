-- `call_steady::numbers::write_number`: the low byte, and the next.
use Rattle.std.proofs.Common.{◌/◌, ◌%◌}
use Rattle.base.specs.Buffer.{written}
use Rattle.base.proofs.Joined.{two-set}
use Rattle.call_steady.proofs.numbers.write_number.Goals as goal

pub returns : goal.returns
unfolding written
returns c =
    let a = c.args in
    rw c.to_le_bytes-bytes.ensures (two-set a.out.now a.at (a.x % 256) (a.x / 256 % 256) c.requires)
